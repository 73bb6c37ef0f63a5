-- What a header shows beyond its size, told by the code's number, wherever the header stands.
use Prim.Native.Nat.{ℕ}
use mathlib.Core.Path.{◌≡◌, ap, sym, ◌∙◌}
use mathlib.Core.List.{List, [], ◌∷◌}
use native.Mathlib.Omega.{arith}
use lib.Dec.{eqb}
use Rattle.basics.specs.Choose.{pick}
use Rattle.machine.specs.Faults.{refusal, unless}
use Rattle.machine.specs.Heads.{header}
use Rattle.machine.specs.declared.Header.{Header}
use Rattle.machine.specs.declared.Refusal.{Refusal}
use Rattle.machine.proofs.Kept.{Each}
use Rattle.machine.proofs.Lowest.{AtMostEach}
use Rattle.std.specs.Prelude.{Option, Some, None}
use Rattle.flaws.specs.Flaws.{flaw_of, numbered}
use Rattle.flaws.proofs.Numbered.{some_number, no_number}
use Rattle.flaws.proofs.Flaws.{Beyond, beyond_placed, length_tests, length_or, flaw_none, flaw_some}

-- numbers hang on a header's type and length, not on its place
pub moved_length : (pos : ℕ) (h : Header) (other : ℕ) → length_or (header pos h.kind h.size h.head) other ≡ length_or h other
moved_length pos h other = ap (λ (n : ℕ). pick (eqb n 0) other n) (length_tests (header pos h.kind h.size h.head) ∙ sym (length_tests h))

-- faults beyond a header's size, told the lowest number among them
module _ {X : Type 0} (p : ℕ) (xs : List Refusal) (g : Each (Beyond p) xs) (flaw : Option ℕ) (e : flaw ≡ numbered (flaw_of xs)) (worse : Refusal → X) (x : X) where
  pub told_some : (number : ℕ) → flaw ≡ Some number → unless xs worse x ≡ worse (refusal number p)
  told_some number z =
      let told = some_number _ number (sym e ∙ z) in
      flaw_some p worse x xs (beyond_placed p xs g) told.1 ∙ ap (λ (m : ℕ). worse (refusal m p)) told.0

  pub told_none : flaw ≡ None → unless xs worse x ≡ x
  told_none z = flaw_none p worse x xs (beyond_placed p xs g) (no_number _ (sym e ∙ z))

-- their numbers are no lower than those of a header's size
pub beyond_high : (p : ℕ) (xs : List Refusal) → Each (Beyond p) xs → AtMostEach 5 xs
unfolding Each
beyond_high p [] g = tt
beyond_high p (x ∷ xs) g = (omega (arith, g.0.1), beyond_high p xs g.1)
