-- Laws of the lowest number as the code answers it: of a size and a length, and back to the number.
use Prim.Native.Nat.{ℕ}
use mathlib.Core.Path.{◌≡◌, refl, sym, ap, subst, ◌∙◌}
use mathlib.Core.List.{List, ◌++◌}
use mathlib.Core.Bool.{Bool, true, false}
use lib.Dec.{eqb}
use borrow.Author.Tests.{eqb-true, eqb-false}
use Rattle.std.specs.Prelude.{Option, Some, None}
use Rattle.std.specs.Option.{option_or}
use Rattle.basics.specs.Choose.{pick}
use Rattle.machine.specs.Heads.{size_faults}
use Rattle.machine.specs.declared.Header.{Header}
use Rattle.machine.specs.declared.Refusal.{Refusal}
use Rattle.machine.proofs.Kept.{Each}
use Rattle.state.specs.Rows.{top_lengths}
use Rattle.flaws.specs.Flaws.{flaw_of, numbered}
use Rattle.flaws.proofs.Flaws.{Beyond, all_flaws, length_beyond}
use Rattle.flaws.proofs.Flaws.{all_flaws, length_beyond, length_or}

-- whether an answer is none
abbrev Without : Option ℕ → Type 0
Without None = Unit {0}
Without (Some n) = ⊥

pub apart : {n : ℕ} → None ≡ Some n → ⊥
apart e = subst Without e tt

-- the number that an answer gives, which is not 0; and an answer without a number is one of 0
pub some_number : (m n : ℕ) → numbered m ≡ Some n → (m ≡ n) × (m ≡ 0 → ⊥)
unfolding numbered pick
some_number m n e = at (eqb m 0) refl e
  where
    at : (t : Bool) → eqb m 0 ≡ t → pick t None (Some m) ≡ Some n → (m ≡ n) × (m ≡ 0 → ⊥)
    at true z e = absurd (apart e)
    at false z e = (search e, eqb-false m 0 z)

pub no_number : (m : ℕ) → numbered m ≡ None → m ≡ 0
unfolding numbered pick
no_number m e = at (eqb m 0) refl e
  where
    at : (t : Bool) → eqb m 0 ≡ t → pick t None (Some m) ≡ None → m ≡ 0
    at true z e = eqb-true m 0 z
    at false z e = absurd (apart (sym e))

-- the first of two
pub first_of : (s t : ℕ) → numbered (pick (eqb s 0) t s) ≡ option_or (numbered s) (numbered t)
unfolding numbered pick
first_of s t = at (eqb s 0) refl
  where
    at : (b : Bool) → eqb s 0 ≡ b → numbered (pick b t s) ≡ option_or (pick b None (Some s)) (numbered t)
    at true z = refl
    at false z = rw z refl

-- a size, and else what is shown beyond it
pub size_or : (end : ℕ) (h : Header) (ys : List Refusal) → Each (Beyond h.pos) ys →
    numbered (flaw_of (size_faults end h ++ ys)) ≡ option_or (numbered (flaw_of (size_faults end h))) (numbered (flaw_of ys))
size_or end h ys g = ap numbered (all_flaws end h ys g) ∙ first_of _ _

chained : {A : Type 0} (x y z : Option A) → option_or x (option_or y z) ≡ option_or (option_or x y) z
chained None y z = refl
chained (Some x) y z = refl

pub size_or_length : (end : ℕ) (h : Header) (other : Option ℕ) → option_or (numbered (flaw_of (size_faults end h))) (option_or (numbered (flaw_of (top_lengths h))) other)
    ≡ option_or (numbered (flaw_of (size_faults end h ++ top_lengths h))) other
size_or_length end h other =
    chained _ _ other ∙ ap (λ (x : Option ℕ). option_or x other) (sym (size_or end h (top_lengths h) (length_beyond h)))

-- what a type shows, as the code answers it, and what a length shows before it
pub two_kinds : (s m : Bool) → pick s (Some 7) (pick m (Some 9) None) ≡ numbered (pick s 7 (pick m 9 0))
unfolding pick numbered
two_kinds true m = refl
two_kinds false true = refl
two_kinds false false = refl

pub three_kinds : (s m d : Bool) → pick s (Some 7) (pick m (Some 9) (pick d (Some 13) None)) ≡ numbered (pick s 7 (pick m 9 (pick d 13 0)))
unfolding pick numbered
three_kinds true m d = refl
three_kinds false true d = refl
three_kinds false false true = refl
three_kinds false false false = refl

pub length_first : (h : Header) (kind : ℕ) {shown other : Option ℕ} → shown ≡ option_or (numbered (flaw_of (top_lengths h))) other → other ≡ numbered kind →
    shown ≡ numbered (length_or h kind)
length_first h kind e q = e ∙ ap (λ (x : Option ℕ). option_or (numbered (flaw_of (top_lengths h))) x) q ∙ sym (first_of (flaw_of (top_lengths h)) kind)
