-- `range::spelling_fits` meets its contract, by that of `power`, and by the laws `one_below`, `first_holds` and `first_fails`.
use Prim.Native.Nat.{ℕ}
use mathlib.Core.Path.{ap, ◌∙◌}
use native.Mathlib.Omega.{arith}
use lib.Dec.{ltb}
use borrow.Author.Tests.{lt-leb}
use Rattle.range.proofs.Joined.{one_below, first_holds, first_fails}
use Rattle.range.proofs.spelling_fits.Goals as goal

pub returns-then-more-most : goal.returns-then-more-most
returns-then-more-most c =
    let a = c.args in
    ap (λ (p : ℕ). ltb a.acc p) c.power.ensures ∙ one_below a.acc _ ∙ first_holds a.more a.most _ (omega arith)

pub returns-else-more-most : goal.returns-else-more-most
returns-else-more-most c = lt-leb _ _ (omega arith) ∙ first_fails c.args.more c.args.most _ (omega arith)
