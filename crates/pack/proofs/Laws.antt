-- What was put stands before zeros, also when more is put behind it (`zeros_behind`) or it is padded (`view_padded`).
use Rattle.std.proofs.Common.{ℕ, ◌+◌, ◌-◌, ◌≤◌, ◌≡◌, refl, sym, ap, ◌∙◌, arith, Bool, true, false, List, [], ◌∷◌, ◌++◌, length, take, drop, replicate}
use mathlib.Core.Bool.{◌&&◌}
use lib.Dec.{eqb}
use lib.Pointwise.{pointwise}
use Rattle.std.specs.Int.{from_bool}
use mathlib.Core.List.{append_assoc}
use lib.ListN.{take-append-drop, length-append, length-drop}
use Rattle.std.proofs.lemmas.Slice.{drop-put_mid}
use lib.Seq.{drop-drop, take_all, take-append-add, length-take-le}
use borrow.Rule.Slice.PartMut.{put_mid}
use Rattle.std.proofs.lemmas.List.{drop-replicate, take-replicate}
use Rattle.basics.specs.Choose.{pick}
use Rattle.numbered.specs.Numbers.{flag_number, padded}
use Rattle.numbered.specs.Unpacked.{same_numbers}

pub flag_is : (b : Bool) → from_bool b ≡ flag_number b
unfolding flag_number pick
flag_is true = refl
flag_is false = refl

-- what is put behind what was put
pub behind : (old xs ys : List ℕ) → (old ++ xs) ++ ys ≡ old ++ (xs ++ ys)
behind old xs ys = append_assoc old xs ys

-- what the puts of a block rest on
pub ruleset puts = (flag_is, behind)

-- numbers compared by `==`
pub same_is : (xs ys : List ℕ) → same_numbers xs ys ≡ pointwise eqb xs ys
unfolding same_numbers
same_is [] [] = refl
same_is [] (y ∷ ys) = refl
same_is (x ∷ xs) [] = refl
same_is (x ∷ xs) (y ∷ ys) = ap (λ t. eqb x y && t) (same_is xs ys)

-- what a slice from a place on holds
pub rest_is : (at : ℕ) (ns : List ℕ) → take (length ns - at) (drop at ns) ≡ drop at ns
rest_is at ns = take_all (length ns - at) (drop at ns) (omega (arith, length-drop at ns))

-- in a list of n numbers, with zeros from a place on
module _ (all : List ℕ) (n at : ℕ) (long : length all ≡ n) (within : at ≤ n) (zeros : drop at all ≡ replicate (n - at) 0) where
  -- zeros stand from any later place on
  pub zeros_from : (end : ℕ) → at ≤ end → drop end all ≡ replicate (n - end) 0
  zeros_from end h =
      let e : end ≡ at + (end - at) = omega arith in
      let left : n - at - (end - at) ≡ n - end = omega arith in
      ap (λ k. drop k all) e ∙ sym (drop-drop (end - at) at all) ∙ ap (drop (end - at)) zeros ∙ drop-replicate (end - at) (n - at) 0 ∙ ap (λ k. replicate k 0) left

  -- more put from there on
  pub zeros_behind : (ns : List ℕ) → at + length ns ≤ n → drop (at + length ns) (put_mid at (at + length ns - at) all ns) ≡ replicate (n - (at + length ns)) 0
  zeros_behind ns h = drop-put_mid at (at + length ns - at) all ns (at + length ns) (omega arith) (omega arith) (omega arith) ∙ zeros_from (at + length ns) (omega arith)

  view_zeros : all ≡ take at all ++ replicate (n - at) 0
  view_zeros = sym (take-append-drop at all) ∙ ap (λ l. take at all ++ l) zeros

  -- the zeros up to a place taken too
  pub view_padded : (end : ℕ) → at ≤ end → end ≤ n → take end all ≡ padded end (take at all)
  unfolding padded
  view_padded end h k =
      let xs : List ℕ = take at all in
      let held : length xs ≡ at = length-take-le at all (omega arith) in
      let e : end ≡ length xs + (end - length xs) = omega arith in
      let left : end - length xs ≤ n - at = omega arith in
      ap (take end) view_zeros ∙ ap (λ k. take k (xs ++ replicate (n - at) 0)) e ∙ take-append-add xs (replicate (n - at) 0) (end - length xs)
      ∙ ap (λ l. xs ++ l) (take-replicate (end - length xs) (n - at) 0 left)

  pub view_all : all ≡ padded n (take at all)
  unfolding padded
  view_all = let held : length (take at all) ≡ at = length-take-le at all (omega arith) in view_zeros ∙ ap (λ k. take at all ++ replicate (n - k) 0) (sym held)

-- padded, and all put behind numbers: padded there
pub padded_behind : (old xs : List ℕ) (n end : ℕ) → end ≡ length old + n → padded end (old ++ xs) ≡ old ++ padded n xs
unfolding padded
padded_behind old xs n end e =
    let left : end - length (old ++ xs) ≡ n - length xs = omega (arith, length-append old xs) in
    ap (λ k. (old ++ xs) ++ replicate k 0) left ∙ append_assoc old xs (replicate (n - length xs) 0)
