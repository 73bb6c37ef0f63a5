-- `lookup::look_among` meets its contract, by those of `ticks_asked`, `look_in` and `look_beyond`, and by the law `request_answered`.
use Rattle.std.specs.Prelude.{Result, Some}
use Rattle.machine.specs.declared.Refusal.{Refusal}
use Prim.Native.Nat.{ℕ, ◌*◌}
use mathlib.Core.Path.{sym, ap, ◌∙◌, subst}
use lib.ListN.{length}
use borrow.Author.Tests.{lt-ltb}
use Rattle.basics.proofs.Picks.{pick_yes}
use Rattle.table.specs.Table.{record_numbers}
use Rattle.seconds.specs.declared.Ticks.{Ticks}
use Rattle.lookup.specs.Spots.{Spots}
use Rattle.lookup.proofs.Exactly.{request_answered}
use Rattle.lookup.proofs.look_among.Goals as goal
use Rattle.covering.specs.declared.Leaf.{Leaf}

-- the table is shorter than the list
pub returns-then-table-listed : goal.returns-then-table-listed
returns-then-table-listed c = let a = c.args in sym (pick_yes _ _ _ (lt-ltb (length a.table.now) (record_numbers * a.leaves) c.if-table-listed.true))

pub returns-in_default : goal.returns-in_default
returns-in_default c =
    let a = c.args in
    request_answered a.leaves a.table.now (λ (k : ℕ). (c.type_inv.table k).fits) a.request a.scale (sym c.in_default.is ∙ c.ticks_asked.ensures) c.if-table-listed.false

pub returns-in-At : goal.returns-in-At
returns-in-At c =
    let a = c.args in
    let told = sym (ap (λ (t : Ticks). Some t) c.in-At.is) ∙ sym c.in-Some.is ∙ c.ticks_asked.ensures in
    let answered = request_answered a.leaves a.table.now (λ (k : ℕ). (c.type_inv.table k).fits) a.request a.scale told c.if-table-listed.false in
    subst (λ (q : Result Leaf Refusal). Spots a.table.now q c.look_in.result) answered c.look_in.ensures

pub returns-in-Beyond : goal.returns-in-Beyond
returns-in-Beyond c =
    let a = c.args in
    let told = sym (ap (λ (t : Ticks). Some t) c.in-Beyond.is) ∙ sym c.in-Some.is ∙ c.ticks_asked.ensures in
    let answered = request_answered a.leaves a.table.now (λ (k : ℕ). (c.type_inv.table k).fits) a.request a.scale told c.if-table-listed.false in
    subst (λ (q : Result Leaf Refusal). Spots a.table.now q c.look_beyond.result) answered c.look_beyond.ensures

pub returns-in-Past : goal.returns-in-Past
returns-in-Past c =
    let a = c.args in
    let told = sym (ap (λ (t : Ticks). Some t) c.in-Past.is) ∙ sym c.in-Some.is ∙ c.ticks_asked.ensures in
    request_answered a.leaves a.table.now (λ (k : ℕ). (c.type_inv.table k).fits) a.request a.scale told c.if-table-listed.false
