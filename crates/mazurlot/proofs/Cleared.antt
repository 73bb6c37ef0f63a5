-- The law of a reading's numbers that has ended: both halves made 0, with the numbers in use at their front.
use Prim.Native.Nat.{ℕ, ◌-◌}
use mathlib.Core.Path.{◌≡◌, ap, ◌∙◌}
use mathlib.Core.List.{List, [], ◌++◌, append-nil}
use native.Mathlib.Omega.{arith}
use lib.ListN.{length, take, drop, replicate, length-drop, length-replicate, drop_of_length-le}
use lib.Seq.{length-take-le}
use borrow.Rule.Slice.PartMut.{mid_of, put_mid, same_len_mid}
use Rattle.std.proofs.lemmas.List.{take_at, drop_at, drop-drop}
use Rattle.numbered.specs.Numbers.{state_numbers}

module _ (old vs far : List ℕ) (long : length old ≡ state_numbers) (few : length vs ≡ 7) (cleared : far ≡ replicate (length (mid_of 32 (length old - 32) old)) 0) where
  -- the numbers with the far half made 0, and then with those in use at the front
  abbrev half : List ℕ
  half = put_mid 32 (length old - 32) old far

  abbrev front : List ℕ
  front = vs ++ drop 7 half

  far_behind : drop 32 half ≡ replicate 25 0
  far_behind =
      let behind = length-drop 32 old in
      let many : length (mid_of 32 (length old - 32) old) ≡ 25 = length-take-le (length old - 32) (drop 32 old) (omega arith) ∙ ap (λ (n : ℕ). n - 32) long in
      let over : drop (length old - 32) (drop 32 old) ≡ [] = drop_of_length-le (drop 32 old) (omega arith) in
      drop_at (take 32 old) (far ++ drop (length old - 32) (drop 32 old)) 32 (length-take-le 32 old (omega arith))
      ∙ ap (λ (l : List ℕ). far ++ l) over
      ∙ append-nil far
      ∙ cleared
      ∙ ap (λ (n : ℕ). replicate n 0) many

  near_behind : drop 25 (drop 7 front) ≡ replicate 25 0
  near_behind = ap (λ (l : List ℕ). drop 25 l) (drop_at vs (drop 7 half) 7 few) ∙ drop-drop 25 7 half ∙ far_behind

  near_long : length (mid_of 7 25 front) ≡ 25
  near_long =
      let whole : length half ≡ length old = same_len_mid 32 (length old - 32) old far (ap length cleared ∙ length-replicate _ 0) in
      let rest : length (drop 7 front) ≡ length half - 7 = ap length (drop_at vs (drop 7 half) 7 few) ∙ length-drop 7 half in
      length-take-le 25 (drop 7 front) (omega arith)

  pub both_halves : (near : List ℕ) → near ≡ replicate (length (mid_of 7 25 front)) 0 → put_mid 7 25 front near ≡ vs ++ replicate 50 0
  both_halves near rest =
      ap (λ (l : List ℕ). l ++ (near ++ drop 25 (drop 7 front))) (take_at vs (drop 7 half) 7 few)
      ∙ ap (λ (l : List ℕ). vs ++ (near ++ l)) near_behind
      ∙ ap (λ (l : List ℕ). vs ++ (l ++ replicate 25 0)) (rest ∙ ap (λ (n : ℕ). replicate n 0) near_long)
