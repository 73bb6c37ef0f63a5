-- Laws of an answer or none, and of what follows it.
use Prim.Native.Nat.{ℕ}
use mathlib.Core.Path.{◌≡◌, refl}
use mathlib.Core.Option.{Option, some, none}
use mathlib.Core.Bool.{Bool, true, false}
use native.Mathlib.Omega.{arith}
use Rattle.basics.specs.Choose.{pick, and_then}

-- none is no answer
pub absurd_some : {A B : Type 0} {a : A} → ◌≡◌ {A = Option A} none (some a) → B
absurd_some e = let z : ◌≡◌ {A = ℕ} 0 1 = cc in absurd (omega arith)

pub then_cong : {A B : Type 0} (o : Option A) (g h : A → Option B) → ((a : A) → o ≡ some a → g a ≡ h a) → and_then o g ≡ and_then o h
unfolding and_then
then_cong none g h e = refl
then_cong (some a) g h e = e a refl

pub then_none : {A B : Type 0} (o : Option A) → and_then {A = A} {B = B} o (λ a. none) ≡ none
unfolding and_then
then_none none = refl
then_none (some a) = refl

pub then_assoc : {A B C : Type 0} (o : Option A) (g : A → Option B) (h : B → Option C) → and_then (and_then o g) h ≡ and_then o (λ a. and_then (g a) h)
unfolding and_then
then_assoc none g h = refl
then_assoc (some a) g h = refl

pub then_some : {A : Type 0} (o : Option A) → and_then o (λ a. some a) ≡ o
unfolding and_then
then_some none = refl
then_some (some a) = refl

-- an answer came from an answer
pub then_inv : {A B : Type 0} (o : Option A) (g : A → Option B) (b : B) → and_then o g ≡ some b → (a : A) × (o ≡ some a) × (g a ≡ some b)
unfolding and_then
then_inv none g b e = absurd_some e
then_inv (some a) g b e = (a, refl, e)

-- what follows a test is what follows its case
pub then_pick : {A B : Type 0} (t : Bool) (o : Option A) (g : A → Option B) → and_then (pick t o none) g ≡ pick t (and_then o g) none
unfolding and_then pick
then_pick true o g = refl
then_pick false o g = refl

pub pick_then : {A B : Type 0} (t : Bool) (o : Option A) (g : A → Option B) → and_then (pick t none o) g ≡ pick t none (and_then o g)
unfolding and_then pick
pick_then true o g = refl
pick_then false o g = refl

-- an answer under a test
pub pick_some : {A : Type 0} (t : Bool) (o : Option A) (a : A) → pick t o none ≡ some a → (t ≡ true) × (o ≡ some a)
unfolding pick
pick_some true o a e = (refl, e)
pick_some false o a e = absurd_some e

pub pick_else : {A : Type 0} (t : Bool) (o : Option A) (a : A) → pick t none o ≡ some a → (t ≡ false) × (o ≡ some a)
unfolding pick
pick_else true o a e = absurd_some e
pick_else false o a e = (refl, e)
