-- `fields::checked` meets its contract, by that of `stop_at`, and by the definition of `checked_at`.
use Prim.Native.Nat.{◌+◌, ◌<◌, ◌≤◌}
use native.Mathlib.Omega.{arith}
use borrow.Author.Tests.{lt-ltb, le-ltb}
use Rattle.basics.specs.Choose.{pick}
use Rattle.fields.specs.Answers.{checked_at}
use Rattle.fields.proofs.checked.Goals as goal

pub returns-then-size-head : goal.returns-then-size-head
unfolding checked_at pick
returns-then-size-head c = rw (c.stop_at.ensures, lt-ltb _ _ c.if-size-head.true)

pub returns-then-end-at : goal.returns-then-end-at
unfolding checked_at pick
returns-then-end-at c =
    let a = c.args in
    let h : a.end < a.at + a.size = omega arith in
    rw (c.stop_at-then-end-at.ensures, le-ltb _ _ c.if-size-head.false, lt-ltb _ _ h)

pub returns : goal.returns
unfolding checked_at pick
returns c =
    let a = c.args in
    let h : a.at + a.size ≤ a.end = omega arith in
    rw (le-ltb _ _ c.if-size-head.false, le-ltb _ _ h)
