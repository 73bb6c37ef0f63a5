-- Laws of tests joined by "and" and "or", and of tests that come to one.
use Prim.Native.Nat.{ℕ}
use mathlib.Core.Path.{◌≡◌, refl}
use mathlib.Core.Bool.{Bool, true, false, ◌&&◌, ◌||◌}
use native.Mathlib.Omega.{arith}
use lib.Dec.{eqb}
use borrow.Author.Tests.{eqb-true, eqb-false, eq-eqb, ne_eqb}

-- both of two tests hold
pub and_both : (a b : Bool) → a && b ≡ true → (a ≡ true) × (b ≡ true)
and_both true b e = (refl, e)
and_both false b e = let z : ◌≡◌ {A = ℕ} 0 1 = cc in absurd (omega arith)

-- the first of two tests holds and not both do: the second does not
pub and_not : (a b : Bool) → a ≡ true → a && b ≡ false → b ≡ false
and_not true b e k = k
and_not false b e k = let z : ◌≡◌ {A = ℕ} 0 1 = cc in absurd (omega arith)

-- neither of two tests holds
pub or_neither : (a b : Bool) → a || b ≡ false → (a ≡ false) × (b ≡ false)
or_neither true b e = let z : ◌≡◌ {A = ℕ} 0 1 = cc in absurd (omega arith)
or_neither false b e = (refl, e)

-- two tests of equality that come to one
pub same_test : (a b c d : ℕ) → (a ≡ b → c ≡ d) → (c ≡ d → a ≡ b) → eqb a b ≡ eqb c d
same_test a b c d f g = at (eqb c d) refl
  where
    at : (t : Bool) → eqb c d ≡ t → eqb a b ≡ t
    at true e = eq-eqb a b (g (eqb-true c d e))
    at false e = ne_eqb a b (λ q. eqb-false c d e (f q))
