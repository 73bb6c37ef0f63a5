-- `range::sum_fits` meets its contract, by the laws `other_test` and `one_below`.
use Prim.Native.Nat.{suc, ◌+◌, ◌-◌}
use mathlib.Core.Path.{◌∙◌}
use native.Mathlib.Omega.{arith}
use Rattle.segment.specs.Constants.{time_limit}
use Rattle.range.proofs.Joined.{one_below, other_test}
use Rattle.range.proofs.sum_fits.Goals as goal

pub returns : goal.returns
returns c =
    let a = c.args in
    other_test a.b (18446744073709551615 - a.a) (suc (a.a + a.b)) time_limit (λ h. omega arith) (λ h. omega arith) ∙ one_below (a.a + a.b) time_limit
