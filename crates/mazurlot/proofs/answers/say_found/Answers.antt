-- `mazurlot::answers::say_found` meets its contract, by those of `record_at` and `put_leaf`, and by the laws `other_writes` and `two_writes_nothing`.
use mathlib.Core.Path.{refl, ap, subst, ◌∙◌}
use native.Mathlib.Omega.{arith}
use Prim.Native.Nat.{◌+◌, ◌/◌}
use mathlib.Core.List.{◌∷◌}
use Rattle.basics.specs.Put.{put_all}
use Rattle.table.specs.declared.Record.{Record}
use Rattle.table.specs.Table.{numbers_of}
use Rattle.lookup.specs.Spots.{AtRecord, OnRecord}
use Rattle.mazurlot.specs.Answers.{of_lookup}
use Rattle.mazurlot.proofs.Laws.{two_writes_nothing, other_writes}
use borrow.Author.Rules.{rules}
use Rattle.mazurlot.proofs.answers.say_found.Goals as goal

-- the spot lies on a record of the table
pub overflow_add-i : goal.overflow_add-i
overflow_add-i c =
    let lies : AtRecord c.args.table.now c.in-Ok.at = subst (OnRecord c.args.table.now) c.in-Ok.is c.requires.1 in
    omega (arith, lies.starts, lies.inside)

pub record_at-requires : goal.record_at-requires
record_at-requires c =
    let lies : AtRecord c.args.table.now c.in-Ok.at = subst (OnRecord c.args.table.now) c.in-Ok.is c.requires.1 in
    omega (arith, lies.starts, lies.inside)

pub returns-in-Ok : goal.returns-in-Ok
unfolding of_lookup
returns-in-Ok c =
    let at = c.in-Ok.at in
    rw c.in-Ok.is
    (refl, c.put_leaf.ensures ∙ ap (λ (r : Record). put_all c.args.answer.now 0 ((at / 6 + 1) ∷ numbers_of r)) c.record_at.ensures ∙ other_writes 0 _ _ (λ e. search rules))

pub returns-then-number-ne-NO_STATE : goal.returns-then-number-ne-NO_STATE
unfolding of_lookup
returns-then-number-ne-NO_STATE c = rw c.in-Err.is (refl, c.put_leaf-then-number-ne-NO_STATE.ensures ∙ other_writes _ _ _ c.if-number-ne-NO_STATE.true)

pub returns-else-number-ne-NO_STATE : goal.returns-else-number-ne-NO_STATE
unfolding of_lookup
returns-else-number-ne-NO_STATE c = rw c.in-Err.is (refl, two_writes_nothing _ _ _ c.if-number-ne-NO_STATE.false)
