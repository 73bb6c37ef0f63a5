-- The bytes of the number at hand in a leaf, but for its last, taken together.
use Prim.Native.Nat.{ℕ, suc, ◌+◌, ◌-◌, ◌*◌, ◌≤◌, ◌<◌}
use mathlib.Core.Path.{◌≡◌, refl, ap, sym, ◌∙◌}
use mathlib.Core.List.{List, [], ◌∷◌}
use mathlib.Core.Bool.{Bool}
use mathlib.Core.Option.{none}
use native.Mathlib.Omega.{arith}
use lib.ListN.{length, take, drop, length-drop}
use lib.Seq.{length-take-le}
use Rattle.std.specs.Prelude.{slice_range}
use Rattle.basics.specs.Bytes.{number_from}
use Rattle.machine.specs.Run.{Sub, go}
use Rattle.machine.specs.declared.Head.{Head}
use Rattle.machine.specs.declared.Head.TheVariants as at
use Rattle.state.specs.declared.Slot.{Slot}
use Rattle.state.specs.declared.TrafBody.TheVariants as trafs
use Rattle.state.specs.Boxed.{TrafBoxes}
use Rattle.machine.specs.declared.BoxesSo.TheVariants as inBoxes
use Rattle.state.specs.declared.MoofBody.TheVariants as moofs
use Rattle.state.specs.Boxed.{MoofBoxes}
use Rattle.state.specs.declared.LeafBody.TheVariants as leaves
use Rattle.state.specs.Boxed.{LeafBoxes}
use Rattle.state.specs.Flow.{Flow, Left}
use Rattle.state.specs.Jump.{least}
use Rattle.state.specs.Leaf.{step_leaf}
use Rattle.state.specs.Numbers.{Number, head_number, traf_body_number, traf_number, moof_body_number, moof_number, leaf_body_number, leaf_number}
use Rattle.state.specs.Ranges.{Within, leaf_bounds, spelled_bounds}
use Rattle.state.proofs.Jump.{least_first, least_second}
use Rattle.state.proofs.Numbers.{keep_in, Spells, leaf_spells}
use Rattle.state.proofs.RangeNumbers.{leaf_fits}
use Rattle.state.proofs.RangeTests.{spelled_within}
use Rattle.number_at_hand.specs.declared.AtHand.{AtHand}
use Rattle.number_at_hand.specs.Views.{at_hand_of}
use Rattle.law_leap.specs.Over.{on_by, over}
use Rattle.leap_leaf.specs.Goes.{From}

-- bytes that a phase spells on with, and that are stored nowhere
spells_over : {S R : Type 0} (step : S → Flow → ℕ → ℕ → Sub S R Flow Left) (x : Number S) (s : S) → Spells step x s → x.place ≡ none → 0 < x.more →
    (xs : List ℕ) (f : Flow) (n m a : ℕ) → over step (x.again (m + length xs) a) f n xs ≡ go (x.again m (number_from a xs)) f
unfolding over on_by number_from keep_in
spells_over step x s spells nowhere going [] f n m a = let e : m + 0 ≡ m = omega arith in rw e refl
spells_over step x s spells nowhere going (b ∷ xs) f n m a =
    let e : m + suc (length xs) ≡ suc (m + length xs) = omega arith in
    rw (e, spells.on going f n b (m + length xs) a, nowhere) (spells_over step x s spells nowhere going xs f (suc n) m (a * 256 + b))

-- no number of a leaf is stored
head_nowhere : (h : Head) → (head_number h).place ≡ none
unfolding head_number
head_nowhere at.First = refl
head_nowhere (at.Size pos more acc) = refl
head_nowhere (at.Kind pos size more acc) = refl
head_nowhere (at.Large pos kind more acc) = refl

traf_nowhere : (s : TrafBoxes) → (traf_number s).place ≡ none
unfolding traf_number traf_body_number
traf_nowhere (inBoxes.Head so h) = head_nowhere h
traf_nowhere (inBoxes.Body so (trafs.Skip stop)) = refl
traf_nowhere (inBoxes.Body so (trafs.Rest stop r)) = refl
traf_nowhere (inBoxes.Body so (trafs.Field p more acc)) = refl

moof_nowhere : (s : MoofBoxes) → (moof_number s).place ≡ none
unfolding moof_number moof_body_number
moof_nowhere (inBoxes.Head seen h) = head_nowhere h
moof_nowhere (inBoxes.Body seen (moofs.Skip stop)) = refl
moof_nowhere (inBoxes.Body seen (moofs.Traf span s)) = traf_nowhere s

leaf_nowhere : (s : LeafBoxes) → (leaf_number s).place ≡ none
unfolding leaf_number leaf_body_number
leaf_nowhere (inBoxes.Head so h) = head_nowhere h
leaf_nowhere (inBoxes.Body so (leaves.Skip stop)) = refl
leaf_nowhere (inBoxes.Body so (leaves.Moof end s)) = moof_nowhere s

module _ (s : LeafBoxes) (bs : List ℕ) (i k : ℕ) (e : k ≡ least (leaf_number s).more (length bs - i)) where
  -- they are there, and so many at the most
  pub taken_more : k ≤ (leaf_number s).more
  taken_more = rw e (least_first (leaf_number s).more (length bs - i))

  pub taken_there : k ≤ length bs - i
  taken_there = rw e (least_second (leaf_number s).more (length bs - i))

  -- what is spelled fits
  pub spelled_fits : Within (leaf_bounds s) → Within (spelled_bounds 7 k (leaf_number s).acc)
  spelled_fits w =
      let fits = (leaf_fits s w).0 in
      spelled_within 7 (leaf_number s).more 7 k (leaf_number s).acc (omega (arith, fits.0, taken_more)) (omega (arith, taken_more)) fits

  -- the boxes after them
  from_spelled : (id : ℕ) (slot : Slot) (full : Bool) (n : ℕ) (r : LeafBoxes) → i ≤ length bs → 0 < (leaf_number s).more →
      r ≡ (leaf_number s).again ((leaf_number s).more - k) (number_from (leaf_number s).acc (take k (drop i bs))) → From id slot full n bs s i r (i + k)
  from_spelled id slot full n r h going er =
      let x : Number LeafBoxes = leaf_number s in
      let xs : List ℕ = take k (drop i bs) in
      let z : i + k - i ≡ k = omega arith in
      let l : length xs ≡ k = length-take-le k (drop i bs) (simp length-drop taken_there) in
      let d : x.more - k + length xs ≡ x.more = omega (arith, l, taken_more) in
      record {
        later = omega arith;
        there = omega (arith, taken_there, h);
        goes = λ f told.
            rw (z, er) (ap (λ (q : LeafBoxes). over (step_leaf id slot) q f (n + i) xs) (sym (leaf_spells id slot s).same ∙ ap (λ (m : ℕ). x.again m x.acc) (sym d))
            ∙ spells_over (step_leaf id slot) x s (leaf_spells id slot s) (leaf_nowhere s) going xs f (n + i) (x.more - k) x.acc);
      }

  -- the same, with the number told in the code's words
  pub from_told : (x : AtHand) → x ≡ at_hand_of (leaf_number s) → 0 < x.more → (id : ℕ) (slot : Slot) (full : Bool) (n acc : ℕ) (r : LeafBoxes) → i ≤ length bs →
      acc ≡ number_from x.acc (take k (drop i bs)) → r ≡ (leaf_number s).again (x.more - k) acc → From id slot full n bs s i r (i + k)
  from_told x ex going id slot full n acc r h ea er = from_spelled id slot full n r h (rw ex at going) (rw (er, ea, ex) refl)

-- a part of the bytes, as they are taken
pub taken_part : (bs : List ℕ) (i k : ℕ) → slice_range bs i (i + k) ≡ take k (drop i bs)
taken_part bs i k = let e : i + k - i ≡ k = omega arith in rw e

pub length_taken : (bs : List ℕ) (i k : ℕ) → i + k ≤ length bs → length (slice_range bs i (i + k)) ≡ k
length_taken bs i k h = ap length (taken_part bs i k) ∙ length-take-le k (drop i bs) (simp length-drop (omega (arith, h)))
