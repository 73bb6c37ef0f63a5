-- The lowest number that a header shows where it stands, as the code answers it: by its size, by its length, and else by its type.
use Prim.Native.Nat.{ℕ}
use mathlib.Core.Path.{◌≡◌, refl, sym, ap, ◌∙◌}
use mathlib.Core.List.{List, ◌++◌}
use mathlib.Core.Bool.{Bool, true, false, not, ◌&&◌, ◌||◌}
use lib.Dec.{eqb, leb}
use Rattle.std.specs.Prelude.{Option, Some, None}
use Rattle.std.specs.Option.{option_or}
use Rattle.basics.specs.Choose.{pick}
use Rattle.segment.specs.Constants.{levels, styp, sidx, moof, mdat}
use Rattle.machine.specs.Heads.{size_faults}
use Rattle.machine.specs.declared.Header.{Header}
use Rattle.machine.specs.declared.Refusal.{Refusal}
use Rattle.machine.proofs.Kept.{Each}
use Rattle.state.specs.Rows.{top_lengths, gap_faults, inner_faults}
use Rattle.flaws.specs.Flaws.{flaw_of, numbered}
use Rattle.flaws.proofs.Flaws.{Beyond, length_or, header_flaws}
use Rattle.flaws.proofs.Numbered.{first_of}
use Rattle.flaws.proofs.Places.{gap_flaws, gap_beyond, inner_flaws, inner_beyond}

module _ (end : ℕ) (h : Header) where
  -- told what a type shows, as a number and as the code answers it
  pub header_shown : (ys : List Refusal) (other : ℕ) (told : Option ℕ) → numbered other ≡ told → Each (Beyond h.pos) ys → flaw_of ys ≡ length_or h other →
      option_or (numbered (flaw_of (size_faults end h ++ top_lengths h))) told ≡ numbered (flaw_of (size_faults end h ++ ys))
  header_shown ys other told t g e =
      ap (λ (x : Option ℕ). option_or (numbered (flaw_of (size_faults end h ++ top_lengths h))) x) (sym t)
      ∙ sym (ap numbered (header_flaws end h ys other g e) ∙ first_of _ _)

  two_told : (t u : Bool) → numbered (pick t 7 (pick u 9 0)) ≡ pick t (Some 7) (pick u (Some 9) None)
  unfolding numbered pick
  two_told true u = refl
  two_told false true = refl
  two_told false false = refl

  three_told : (t u v : Bool) → numbered (pick t 7 (pick u 9 (pick v 13 0))) ≡ pick t (Some 7) (pick u (Some 9) (pick v (Some 13) None))
  unfolding numbered pick
  three_told true u v = refl
  three_told false true v = refl
  three_told false false true = refl
  three_told false false false = refl

  pub gap_shown : option_or (numbered (flaw_of (size_faults end h ++ top_lengths h)))
      (pick (eqb h.kind styp) (Some 7) (pick (eqb h.kind moof || eqb h.kind mdat || eqb h.kind sidx) (Some 9) None))
      ≡ numbered (flaw_of (size_faults end h ++ gap_faults h))
  gap_shown = header_shown _ _ _ (two_told _ _) (gap_beyond h) (gap_flaws h)

  pub inner_shown : (around : ℕ) → option_or (numbered (flaw_of (size_faults end h ++ top_lengths h)))
      (pick (eqb h.kind styp) (Some 7) (pick (not (eqb h.kind sidx)) (Some 9) (pick (eqb h.kind sidx && leb levels around) (Some 13) None)))
      ≡ numbered (flaw_of (size_faults end h ++ inner_faults around h))
  inner_shown around = header_shown _ _ _ (three_told _ _ _) (inner_beyond around h) (inner_flaws around h)
