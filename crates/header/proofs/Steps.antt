-- A number's bytes that follow, one fewer; and what its ranges say of the number so far.
use Prim.Native.Nat.{ℕ, zero, suc, ◌-◌, ◌≤◌, ◌<◌}
use mathlib.Core.Path.{◌≡◌, refl}
use native.Mathlib.Omega.{arith}
use Rattle.state.specs.Ranges.{Within, spelled_bounds}
use Rattle.state.proofs.RangeTests.{spelled_within}

-- what a number's byte makes where others follow, told with how many after the next one
pub one_fewer : {X : Type 0} (step on : ℕ → X) → ((m : ℕ) → on m ≡ step (suc m)) → (more : ℕ) → (more ≡ 0 → ⊥) → on (more - 1) ≡ step more
one_fewer step on e zero h = absurd (h refl)
one_fewer step on e (suc m) h = let k : suc m - 1 ≡ m = omega arith in rw k (e m)

-- what the bytes before a number's last spell, of at most eight bytes
pub spelled_small : (most more acc : ℕ) → most ≤ 7 → Within (spelled_bounds most more acc) → acc < 72057594037927936
spelled_small most more acc h w = (spelled_within most more 7 0 acc (omega arith) (omega arith) w).1.0
