-- Laws of the faults that one byte shows: two readings that look at the same faults.
use mathlib.Core.Path.{◌≡◌, refl}
use Prim.Native.Nat.{ℕ}
use mathlib.Core.Bool.{Bool, true, false}
use mathlib.Core.List.{List, [], ◌∷◌, ◌++◌, append-eq-nil_iff}
use native.Mathlib.Omega.{arith}
use Rattle.machine.specs.Faults.{shows, lowest, unless}
use Rattle.machine.specs.declared.Refusal.{Refusal}

module _ {X Y C : Type 0} (F : X → C) (G : Y → C) (worse : Refusal → X) (worse' : Refusal → Y) (x : X) (y : Y) where
  -- alike for every refusal, and alike where no fault is shown
  pub unless_both : (xs : List Refusal) → ((z : Refusal) → F (worse z) ≡ G (worse' z)) → F x ≡ G y → F (unless xs worse x) ≡ G (unless xs worse' y)
  unfolding unless
  unless_both [] p q = q
  unless_both (z ∷ zs) p q = p (lowest z zs)

  -- the same, where what goes on may use that no fault is shown
  pub unless_with : (xs : List Refusal) → ((z : Refusal) → F (worse z) ≡ G (worse' z)) → (xs ≡ [] → F x ≡ G y) → F (unless xs worse x) ≡ G (unless xs worse' y)
  unfolding unless
  unless_with [] p q = q refl
  unless_with (z ∷ zs) p q = p (lowest z zs)

-- no fault is shown
pub unless_none : {X : Type 0} (xs : List Refusal) (worse : Refusal → X) (x : X) → xs ≡ [] → unless xs worse x ≡ x
unfolding unless
unless_none xs worse x e = rw e

-- of two lists of faults, none is shown in either
pub none_first : (xs ys : List Refusal) → xs ++ ys ≡ [] → xs ≡ []
none_first xs ys e = (append-eq-nil_iff.0 e).0

pub none_second : (xs ys : List Refusal) → xs ++ ys ≡ [] → ys ≡ []
none_second xs ys e = ((append-eq-nil_iff {p = xs}).0 e).1

-- where no fault is shown the test fails
pub shows_none : (t : Bool) (n p : ℕ) → shows t n p ≡ [] → t ≡ false
unfolding shows
shows_none true n p e = let z : ◌≡◌ {A = ℕ} 0 1 = cc in absurd (omega arith)
shows_none false n p e = refl
