-- "If one byte shows several, the lowest number is given."
use Prim.Native.Nat.{ℕ, ◌≤◌}
use mathlib.Core.Path.{◌≡◌, refl, ap, ◌∙◌}
use mathlib.Core.List.{List, [], ◌∷◌, ◌++◌}
use mathlib.Core.Bool.{Bool, true, false}
use native.Mathlib.Omega.{arith}
use lib.Dec.{ltb}
use borrow.Author.Tests.{ltb-true, ltb-false, le-ltb}
use Rattle.basics.specs.Choose.{pick}
use Rattle.basics.proofs.Picks.{pick_no}
use Rattle.machine.specs.Faults.{refusal, shows, lowest, unless}
use Rattle.machine.specs.declared.Refusal.{Refusal}

-- a number at most that of each
abbrev pub AtMostEach : ℕ → List Refusal → Type 0
AtMostEach n [] = Unit {0}
AtMostEach n (x ∷ xs) = (n ≤ x.number) × AtMostEach n xs

-- the number given is at most that of each fault shown
pub lowest_of_all : (x : Refusal) (ys : List Refusal) → AtMostEach (lowest x ys).number (x ∷ ys)
unfolding lowest pick
lowest_of_all x [] = (omega arith, tt)
lowest_of_all x (y ∷ ys) = at (lowest_of_all y ys) (lowest_of_all x ys) (ltb y.number x.number) refl
  where
    at : AtMostEach (lowest y ys).number (y ∷ ys) → AtMostEach (lowest x ys).number (x ∷ ys) → (t : Bool) → ltb y.number x.number ≡ t →
        AtMostEach (pick t (lowest y ys) (lowest x ys)).number (x ∷ y ∷ ys)
    at of-y of-x true e = let (a, b) = of-y in let less = ltb-true y.number x.number e in (omega arith, (a, b))
    at of-y of-x false e = let (a, b) = of-x in let more = ltb-false y.number x.number e in (a, (omega arith, b))

-- a fault before others none of which has a lower number
pub lowest_first : (x : Refusal) (ys : List Refusal) → AtMostEach x.number ys → lowest x ys ≡ x
unfolding lowest
lowest_first x [] h = refl
lowest_first x (y ∷ ys) h = pick_no (ltb y.number x.number) _ _ (le-ltb _ _ h.0) ∙ lowest_first x ys h.1

module _ {X : Type 0} (n p : ℕ) (ys : List Refusal) (worse : Refusal → X) (x : X) where
  pub unless_first : (t : Bool) → AtMostEach n ys → unless (shows t n p ++ ys) worse x ≡ pick t (worse (refusal n p)) (unless ys worse x)
  unfolding unless shows pick
  unless_first true h = ap worse (lowest_first (refusal n p) ys h)
  unless_first false h = refl

-- one fault
pub unless_one : {X : Type 0} (t : Bool) (n p : ℕ) (worse : Refusal → X) (x : X) → unless (shows t n p) worse x ≡ pick t (worse (refusal n p)) x
unfolding unless shows pick lowest
unless_one true n p worse x = refl
unless_one false n p worse x = refl

-- numbers that are high enough are so for a lower bound too
pub lower_each : (m n : ℕ) (ys : List Refusal) → m ≤ n → AtMostEach n ys → AtMostEach m ys
lower_each m n [] h g = tt
lower_each m n (y ∷ ys) h g = (omega (arith, g.0), lower_each m n ys h g.1)
