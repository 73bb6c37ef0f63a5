-- What a header shows before the material, told by the code's number, where the lent bytes stand in the segment.
use Prim.Native.Nat.{ℕ, ◌+◌, ◌%◌}
use mathlib.Core.Path.{◌≡◌, refl, sym, ◌∙◌}
use mathlib.Core.Bool.{Bool, true, false, not, ◌&&◌, ◌||◌}
use native.Mathlib.Omega.{arith}
use lib.Dec.{eqb, ltb}
use borrow.Author.Tests.{eqb-true, eq-eqb, ltb-false}
use Rattle.std.specs.Prelude.{Option, Some, None}
use Rattle.std.specs.Option.{option_or}
use Rattle.basics.specs.Choose.{pick}
use Rattle.basics.proofs.Picks.{pick_no}
use Rattle.segment.specs.Constants.{styp, sidx}
use Rattle.machine.specs.declared.Header.{Header}
use Rattle.state.specs.Rows.{body_length, top_lengths, opening_faults, gap_faults}
use Rattle.fields.specs.Onward.{placed}
use Rattle.flaws.specs.Flaws.{flaw_of}
use Rattle.flaws.proofs.Flaws.{length_tests, length_or}
use Rattle.flaws.proofs.Numbered.{apart}
use Rattle.flaws.proofs.Places.{opening_flaws, gap_flaws}
use Rattle.flaws.proofs.Told.{moved_length}
use Rattle.walk_opening.specs.Steps.{StypLong}

-- what a length shows goes before what a type shows, which is next where the length shows nothing
pub length_kept : (x y : Option ℕ) {n : ℕ} → option_or x None ≡ Some n → Some n ≡ option_or x y
length_kept None y e = absurd (apart e)
length_kept (Some m) y e = sym e

pub kind_next : (x y : Option ℕ) → option_or x None ≡ None → y ≡ option_or x y
kind_next None y e = refl
kind_next (Some m) y e = absurd (apart (sym e))

-- where no number is shown, the length shows none
length_none : (h : Header) (kind : ℕ) → length_or h kind ≡ 0 → flaw_of (top_lengths h) ≡ 0
length_none h kind e = at (eqb (flaw_of (top_lengths h)) 0) refl
  where
    at : (t : Bool) → eqb (flaw_of (top_lengths h)) 0 ≡ t → flaw_of (top_lengths h) ≡ 0
    at true t = eqb-true (flaw_of (top_lengths h)) 0 t
    at false t = sym (pick_no (eqb (flaw_of (top_lengths h)) 0) kind _ t) ∙ e

module _ (base : ℕ) (h : Header) where
  pub gap_placed : flaw_of (gap_faults h) ≡ flaw_of (gap_faults (placed base h))
  gap_placed = gap_flaws h ∙ sym (gap_flaws (placed base h) ∙ moved_length (base + h.pos) h _)

  pub opening_placed : (branded : Bool) → flaw_of (opening_faults branded h) ≡ flaw_of (opening_faults branded (placed base h))
  opening_placed branded = opening_flaws branded h ∙ sym (opening_flaws branded (placed base h) ∙ moved_length (base + h.pos) h _)

-- a `styp` that shows no number has a length that it may have
styp_tests : (off short whole other : Bool) → ◌≡◌ {A = ℕ} (pick (off && (short || not whole)) 6 (pick other 6 0)) 0 → off ≡ true → (short ≡ false) × (whole ≡ true)
unfolding pick
styp_tests true false true other e z = (refl, refl)
styp_tests true true whole other e z = absurd (omega arith)
styp_tests true false false other e z = absurd (omega arith)
styp_tests false short whole other e z = let n : ◌≡◌ {A = ℕ} 0 1 = cc in absurd (omega arith)

pub styp_long : (branded : Bool) (h : Header) → flaw_of (opening_faults branded h) ≡ 0 → h.kind ≡ styp → StypLong h
styp_long branded h e k =
    let none = length_none h _ (sym (opening_flaws branded h) ∙ e) in
    let w = styp_tests (eqb h.kind styp) (ltb (body_length h) 8) (eqb (body_length h % 4) 0) (eqb h.kind sidx && ltb (body_length h) 24)
    (sym (length_tests h) ∙ none) (eq-eqb h.kind styp k) in
    record { long = ltb-false (body_length h) 8 w.0; even = eqb-true (body_length h % 4) 0 w.1 }
