-- A header by structure is the header read byte by byte.
use Prim.Native.Nat.{ℕ, suc}
use mathlib.Core.Path.{◌≡◌, refl}
use mathlib.Core.List.{List, [], ◌∷◌}
use lib.Dec.{eqb}
use Rattle.basics.proofs.Picks.{pick_both}
use Rattle.machine.specs.Run.{go, done, okay, cont_by, run, cont, field_d, plain}
use Rattle.machine.specs.Heads.{under_eight, under_sixteen, header, sized, step_head, sized_d, head_d}
use Rattle.machine.specs.declared.Head.TheVariants as at
use Rattle.machine.proofs.Faults.{unless_both}
use Rattle.machine.proofs.Fields.{field_run}

module _ {F L : Type 0} (left : F → L) (end : ℕ) where
  -- the 64-bit size
  large_run : (pos kind m acc : ℕ) (f : F) (n : ℕ) (bs : List ℕ) →
      field_d left plain (λ large g m' cs. okay (header pos kind large 16) g m' cs) (suc m) acc f n bs ≡ run left (step_head left end) (at.Large pos kind m acc) f n bs
  unfolding step_head cont_by
  large_run pos kind = field_run left (step_head left end) plain (at.Large pos kind) (λ v g m. done (header pos kind v 16) g) (λ acc f n b. refl) (λ m acc f n b. refl) _ (λ v f n bs. refl)

  -- from the type's last byte on
  sized_run : (pos size kind : ℕ) (f : F) (n : ℕ) (bs : List ℕ) → sized_d left end pos size kind f n bs ≡ cont left (step_head left end) n bs (sized left end pos size kind f)
  unfolding sized_d sized cont_by
  sized_run pos size kind f n bs =
      pick_both (eqb size 1) (λ r. r) (cont left (step_head left end) n bs) _ _ _ _
      (unless_both (λ r. r) (cont left (step_head left end) n bs) _ _ _ _ (under_sixteen end pos) (λ x. refl) (large_run pos kind 7 0 f n bs))
      refl

  -- the type
  kind_run : (pos size m acc : ℕ) (f : F) (n : ℕ) (bs : List ℕ) →
      field_d left plain (λ kind g m' cs. sized_d left end pos size kind g m' cs) (suc m) acc f n bs ≡ run left (step_head left end) (at.Kind pos size m acc) f n bs
  unfolding step_head
  kind_run pos size =
      field_run left (step_head left end) plain (at.Kind pos size) (λ v g m. sized left end pos size v g) (λ acc f n b. refl) (λ m acc f n b. refl) _
      (λ v f n bs. sized_run pos size v f n bs)

  -- the size
  size_run : (pos m acc : ℕ) (f : F) (n : ℕ) (bs : List ℕ) →
      field_d left plain (λ size g m' cs. field_d left plain (λ kind g' m'' cs'. sized_d left end pos size kind g' m'' cs') 4 0 g m' cs) (suc m) acc f n bs
      ≡ run left (step_head left end) (at.Size pos m acc) f n bs
  unfolding step_head cont_by
  size_run pos = field_run left (step_head left end) plain (at.Size pos) (λ v g m. go (at.Kind pos v 3 0) g) (λ acc f n b. refl) (λ m acc f n b. refl) _ (λ v f n bs. kind_run pos v 3 0 f n bs)

  -- a whole header
  pub head_run : (f : F) (n : ℕ) (bs : List ℕ) → head_d left end f n bs ≡ run left (step_head left end) at.First f n bs
  unfolding head_d run step_head cont_by
  head_run f n [] = refl
  head_run f n (b ∷ bs) =
      unless_both (λ r. r) (cont left (step_head left end) (suc n) bs) _ _ _ _ (under_eight end n) (λ x. refl) (size_run n 2 b f (suc n) bs)
