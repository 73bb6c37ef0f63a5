-- `fields::large_head` meets its contract, by those of `stop_at`, `field_at` and `checked`, and by the definition of `large_at`.
use Prim.Native.Nat.{◌+◌, ◌<◌, ◌≤◌}
use mathlib.Core.Path.{refl, sym, ◌∙◌}
use lib.ListN.{length}
use native.Mathlib.Omega.{arith}
use borrow.Author.Tests.{lt-ltb, le-ltb}
use Rattle.basics.specs.Choose.{pick}
use Rattle.fields.specs.Answers.{large_at}
use Rattle.fields.proofs.Answers.{field_in, field_out}
use Rattle.fields.proofs.large_head.Goals as goal

pub returns-then-end-at : goal.returns-then-end-at
unfolding large_at pick
returns-then-end-at c = rw (c.stop_at.ensures, lt-ltb _ _ c.if-end-at.true)

pub field_at-requires : goal.field_at-requires
field_at-requires c = (refl, omega arith)

pub returns-in_default : goal.returns-in_default
unfolding large_at pick
returns-in_default c =
    let a = c.args in
    let short = field_out a.bytes.now (a.at + 8) 8 (sym c.field_at.ensures.0 ∙ c.in_default.is) in
    let few : length a.bytes.now < a.at + 16 = omega arith in
    rw (le-ltb _ _ c.if-end-at.false, lt-ltb _ _ few)

pub returns : goal.returns
unfolding large_at pick
returns c =
    let a = c.args in
    let whole = field_in a.bytes.now (a.at + 8) 8 _ _ (sym c.field_at.ensures.0 ∙ c.in-Some.is) in
    let there : a.at + 16 ≤ length a.bytes.now = omega arith in
    rw (le-ltb _ _ c.if-end-at.false, le-ltb _ _ there, ← whole.value) c.checked.ensures
