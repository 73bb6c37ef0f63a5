-- `seconds::lowered` meets its contract: what has fewer bits than it is halved times leaves nothing.
use Prim.Native.Nat.{◌≤◌, ◌^◌}
use mathlib.Core.Path.{sym}
use native.Mathlib.Omega.{arith}
use native.Mathlib.Nat.{div-eq_of_lt}
use lib.Pow.{pow_mono}
use Rattle.seconds.proofs.lowered.Goals as goal

pub returns-then-k-ge128 : goal.returns-then-k-ge128
returns-then-k-ge128 c =
    let a = c.args in
    let most : 2 ^ 128 ≤ 2 ^ a.k = pow_mono {i = 128} {j = a.k} c.if-k-ge128.true in
    sym (div-eq_of_lt {n = a.n} {m = 2 ^ a.k} (omega (arith, c.ranges.n.fits)))
