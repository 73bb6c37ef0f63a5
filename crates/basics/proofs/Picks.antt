-- Laws of a choice by a test, and of two numbers one of which is less.
use Prim.Native.Nat.{ℕ, ◌≤◌, ◌<◌}
use mathlib.Core.Path.{◌≡◌, refl}
use mathlib.Core.Bool.{Bool, true, false}
use mathlib.Core.Logic.{◌⊎◌, inl, inr}
use lib.Dec.{ltb}
use borrow.Author.Tests.{ltb-true, ltb-false}
use Rattle.basics.specs.Choose.{pick}

-- of two numbers the first is less, or it is not
pub lt_or_ge : (a b : ℕ) → (a < b) ⊎ (b ≤ a)
lt_or_ge a b = at (ltb a b) refl
  where
    at : (t : Bool) → ltb a b ≡ t → (a < b) ⊎ (b ≤ a)
    at true e = inl (ltb-true a b e)
    at false e = inr (ltb-false a b e)

-- a choice whose test holds
pub pick_yes : {A : Type 0} (t : Bool) (x y : A) → t ≡ true → pick t x y ≡ x
unfolding pick
pick_yes t x y e = rw e

-- a choice whose test fails
pub pick_no : {A : Type 0} (t : Bool) (x y : A) → t ≡ false → pick t x y ≡ y
unfolding pick
pick_no t x y e = rw e

-- two choices by one test, alike in both cases
pub pick_both : {A B C : Type 0} (t : Bool) (F : A → C) (G : B → C) (x y : A) (x' y' : B) → F x ≡ G x' → F y ≡ G y' → F (pick t x y) ≡ G (pick t x' y')
unfolding pick
pick_both true F G x y x' y' p q = p
pick_both false F G x y x' y' p q = q

-- the same, where each case may use what the test says
pub pick_with : {A B C : Type 0} (t : Bool) (F : A → C) (G : B → C) (x y : A) (x' y' : B) → (t ≡ true → F x ≡ G x') → (t ≡ false → F y ≡ G y') → F (pick t x y) ≡ G (pick t x' y')
unfolding pick
pick_with true F G x y x' y' p q = p refl
pick_with false F G x y x' y' p q = q refl

-- a choice that comes to one thing in both cases
pub pick_if : {A C : Type 0} (t : Bool) (F : A → C) (x y : A) (c : C) → (t ≡ true → F x ≡ c) → (t ≡ false → F y ≡ c) → F (pick t x y) ≡ c
unfolding pick
pick_if true F x y c p q = p refl
pick_if false F x y c p q = q refl

-- what holds of both choices holds of the one taken; each case may use what the test says
pub pick_holds : {A : Type 0} (K : A → Type 0) (t : Bool) (x y : A) → (t ≡ true → K x) → (t ≡ false → K y) → K (pick t x y)
unfolding pick
pick_holds K true x y p q = p refl
pick_holds K false x y p q = q refl
