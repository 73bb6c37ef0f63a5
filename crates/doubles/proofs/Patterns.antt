-- Which bits are a not-a-number's: those above infinity's, but for the sign.
use Prim.Native.Nat.{ℕ, suc, ◌/◌, ◌%◌, ◌≤◌, ◌<◌}
use mathlib.Core.Path.{◌≡◌, refl, ap}
use mathlib.Core.Bool.{Bool, true, false, not, cond, ◌&&◌}
use native.Mathlib.Omega.{arith}
use lib.Dec.{T, leb, eqb}
use lib.Ieee.{nan, inf, binary64, of_fields, of_bits, nan_bits}
use borrow.Author.Tests.{eqb-true, eq-eqb, ne_eqb}

-- above infinity: the exponent is all ones, and the fraction is not 0
pub above_infinity : (b : ℕ) → 9218868437227405312 < b % 9223372036854775808 → of_bits binary64 b ≡ nan
unfolding of_bits of_fields
above_infinity b h =
    let e : b % 9223372036854775808 / 4503599627370496 ≡ suc 2046 = omega arith in
    rw e (ap (λ (t : Bool). cond t (inf (leb 9223372036854775808 b)) nan) (ne_eqb (b % 4503599627370496) 0 (λ q. omega arith)))

-- up to infinity: the exponent is not all ones, or the fraction is 0
pub up_to_infinity : (b : ℕ) → b % 9223372036854775808 ≤ 9218868437227405312 → T (not (nan_bits binary64 b))
unfolding nan_bits
up_to_infinity b h = at (eqb (b % 9223372036854775808 / 4503599627370496) 2047) refl
  where
    at : (c : Bool) → eqb (b % 9223372036854775808 / 4503599627370496) 2047 ≡ c → T (not (c && not (eqb (b % 4503599627370496) 0)))
    at false e = tt
    at true e = rw (eq-eqb (b % 4503599627370496) 0 (zero e)) tt
      where
        zero : eqb (b % 9223372036854775808 / 4503599627370496) 2047 ≡ true → b % 4503599627370496 ≡ 0
        zero q = let k = eqb-true (b % 9223372036854775808 / 4503599627370496) 2047 q in omega arith
