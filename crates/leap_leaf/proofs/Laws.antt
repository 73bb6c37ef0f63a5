-- Going on in a leaf: by no bytes, by some and then others, by the bytes of a skipped body, and by one byte; and what it keeps of the ranges.
use Prim.Native.Nat.{ℕ, suc, ◌+◌, ◌-◌, ◌≤◌, ◌<◌}
use mathlib.Core.Path.{◌≡◌, refl, ap, sym, ◌∙◌}
use mathlib.Core.List.{List, [], ◌∷◌, ◌++◌}
use mathlib.Core.Bool.{Bool, true, false}
use native.Mathlib.Omega.{arith}
use lib.ListN.{length, take, drop, get_or, take-append-drop, length-drop}
use lib.Seq.{take-add, length-take-le, drop-drop, drop-cons}
use Rattle.basics.specs.Bytes.{AllBytes}
use Rattle.basics.proofs.Bytes.{each_byte_all, bytes_first, all_drop}
use Rattle.segment.specs.Constants.{limit}
use Rattle.machine.specs.Run.{Sub, go, done, bad}
use Rattle.state.specs.declared.Seen.{Seen}
use Rattle.state.specs.declared.Slot.{Slot}
use Rattle.state.specs.Boxed.{LeafBoxes}
use Rattle.state.specs.Flow.{Flow, Left}
use Rattle.state.specs.Jump.{leaf_skips, least}
use Rattle.state.specs.Leaf.{step_leaf}
use Rattle.state.specs.Ranges.{Within, leaf_bounds}
use Rattle.state.specs.Rows.{no_room}
use Rattle.state.proofs.Jump.{leaf_stays, least_first, least_second}
use Rattle.state.proofs.RangeKept.{Flows, KeptIn}
use Rattle.state.proofs.RangeLeaf.{Roomy, step_leaf_lem}
use Rattle.std.specs.Prelude.{Result, Ok}
use Rattle.machine.specs.declared.Refusal.{Refusal}
use Rattle.machine.specs.declared.Step.{Step}
use Rattle.machine.specs.declared.Step.TheVariants as steps
use Rattle.state.specs.Views.{view}
use Rattle.leaf.specs.Rooms.{roomy, roomy_is}
use Rattle.law_leap.specs.Over.{on_by, over}
use Rattle.law_leap.proofs.Over.{over_then, over_still}
use Rattle.leap_leaf.specs.Goes.{Goes, From}

-- bytes from one place up to another, and on to a third
pub taken_on : (i j k : ℕ) (bs : List ℕ) → i ≤ j → j ≤ k → take (k - i) (drop i bs) ≡ take (j - i) (drop i bs) ++ take (k - j) (drop j bs)
taken_on i j k bs h h' =
    let e : k - i ≡ (j - i) + (k - j) = omega (arith, h, h') in
    let d : i + (j - i) ≡ j = omega (arith, h) in
    rw e (take-add (j - i) (k - j) (drop i bs) ∙ rw (drop-drop (j - i) i bs, d) refl)

module _ (id : ℕ) (slot : Slot) where
  abbrev step : LeafBoxes → Flow → ℕ → ℕ → Sub LeafBoxes Seen Flow Left
  step = step_leaf id slot

  -- What a leaf keeps of the ranges.
  kept_from : (n : ℕ) (bs : List ℕ) →
      ((s : LeafBoxes) (f : Flow) → Within (leaf_bounds s) → Flows 0 f → (t : LeafBoxes) (g : Flow) → over step s f n bs ≡ go t g → Within (leaf_bounds t)) →
      (q : Sub LeafBoxes Seen Flow Left) → KeptIn 0 leaf_bounds (Roomy 0) q → (t : LeafBoxes) (g : Flow) → on_by (λ s f. over step s f n bs) q ≡ go t g → Within (leaf_bounds t)
  unfolding on_by
  kept_from n bs h (go s f) k t g e = h s f k.0 k.1 t g e
  kept_from n bs h (done r f) k t g e = let z : ◌≡◌ {A = ℕ} 0 1 = cc in absurd (omega arith)
  kept_from n bs h (bad x l) k t g e = let z : ◌≡◌ {A = ℕ} 0 1 = cc in absurd (omega arith)

  over_within : (bs : List ℕ) (n : ℕ) → AllBytes bs → n + length bs ≤ limit → (s : LeafBoxes) (f : Flow) → Within (leaf_bounds s) → Flows 0 f →
      (t : LeafBoxes) (g : Flow) → over step s f n bs ≡ go t g → Within (leaf_bounds t)
  unfolding over
  over_within [] n all low s f w k t g e = let a : s ≡ t = cc in rw (← a) w
  over_within (b ∷ bs) n all low s f w k t g e =
      kept_from (suc n) bs (λ s' f' w' k' t' g' e'. over_within bs (suc n) all.1 (omega (arith, low)) s' f' w' k' t' g' e')
      (step s f n b) (step_leaf_lem 0 id slot s f n b (omega (arith, low)) all.0 w k) t g e

module _ (id : ℕ) (slot : Slot) (full : Bool) where
  pub goes_within : (s : LeafBoxes) (n : ℕ) (bs : List ℕ) (t : LeafBoxes) → AllBytes bs → n + length bs ≤ limit → Within (leaf_bounds s) → Goes id slot full s n bs t →
      Within (leaf_bounds t)
  goes_within s n bs t all low w h = over_within id slot bs n all low s (roomy full) w (roomy_flows full) t (roomy full) (h (roomy full) (roomy_is full))
    where
      roomy_flows : (full' : Bool) → Flows 0 (roomy full')
      roomy_flows true = (omega arith, refl)
      roomy_flows false = (omega arith, refl)

module _ (id : ℕ) (slot : Slot) (full : Bool) (n : ℕ) (bs : List ℕ) where
  -- no byte
  pub from_none : (s : LeafBoxes) (i : ℕ) → i ≤ length bs → From id slot full n bs s i s i
  unfolding over
  from_none s i h = let z : i - i ≡ 0 = omega arith in record { later = omega arith; there = h; goes = λ f full'. rw z refl }

  -- some bytes, and then others
  pub from_then : (s t u : LeafBoxes) (i j k : ℕ) → From id slot full n bs s i t j → From id slot full n bs t j u k → From id slot full n bs s i u k
  from_then s t u i j k p q =
      let l : length (take (j - i) (drop i bs)) ≡ j - i = length-take-le (j - i) (drop i bs) (simp length-drop (omega (arith, p.there))) in
      let e : n + i + length (take (j - i) (drop i bs)) ≡ n + j = omega (arith, l, p.later) in
      record {
        later = omega (arith, p.later, q.later);
        there = q.there;
        goes = λ f room. rw (taken_on i j k bs p.later q.later) (over_then (step_leaf id slot) (take (j - i) (drop i bs)) s f (n + i) _ t f (p.goes f room) ∙ rw e (q.goes f room));
      }

  -- the bytes of a skipped body but for its last
  pub from_skipped : (s : LeafBoxes) (i k : ℕ) → i ≤ length bs → k ≡ least (length bs - i) (leaf_skips s - suc (n + i)) → From id slot full n bs s i s (i + k)
  from_skipped s i k h e =
      let a : k ≤ length bs - i = rw e (least_first (length bs - i) (leaf_skips s - suc (n + i))) in
      let b : k ≤ leaf_skips s - suc (n + i) = rw e (least_second (length bs - i) (leaf_skips s - suc (n + i))) in
      let z : i + k - i ≡ k = omega arith in
      let l : length (take k (drop i bs)) ≡ k = length-take-le k (drop i bs) (simp length-drop a) in
      record {
        later = omega arith;
        there = omega (arith, h, a);
        goes = λ f room. rw z (over_still (step_leaf id slot) s f (leaf_skips s) (λ m c q. leaf_stays id slot s f m c q) (take k (drop i bs)) (n + i) (rw l b));
      }

  -- one byte
  pub from_byte : (s t : LeafBoxes) (i : ℕ) (r : Result (Step LeafBoxes Seen) Refusal) → i < length bs →
      ((f : Flow) → no_room f.leaves f.table ≡ full → view f r ≡ step_leaf id slot s f (n + i) (get_or bs i 0)) → r ≡ Ok (steps.Going t) → From id slot full n bs s i t (i + 1)
  unfolding over on_by
  from_byte s t i r h told e =
      let z : i + 1 - i ≡ 1 = omega arith in
      record {
        later = omega arith;
        there = omega (arith, h);
        goes = λ f room. rw (z, drop-cons bs i 0 h) (let one : step_leaf id slot s f (n + i) (get_or bs i 0) ≡ go t f = sym (told f room) ∙ ap (λ q. view f q) e in rw one refl);
      }

  -- what the bytes lead to is in its ranges
  pub from_within : ((i : ℕ) → get_or bs i 0 < 256) → n + length bs ≤ limit → (s t : LeafBoxes) (i j : ℕ) → Within (leaf_bounds s) → From id slot full n bs s i t j → Within (leaf_bounds t)
  from_within bytes low s t i j w p =
      let xs : List ℕ = take (j - i) (drop i bs) in
      let l : length xs ≡ j - i = length-take-le (j - i) (drop i bs) (simp length-drop (omega (arith, p.there))) in
      let all : AllBytes xs = bytes_first xs (drop (j - i) (drop i bs)) (rw (take-append-drop (j - i) (drop i bs)) (all_drop i bs (each_byte_all bs bytes))) in
      goes_within id slot full s (n + i) xs t all (omega (arith, low, l, p.later, p.there)) w p.goes

-- from the first byte on
pub from_first : (id : ℕ) (slot : Slot) (full : Bool) (n : ℕ) (bs : List ℕ) (s t : LeafBoxes) (j : ℕ) → From id slot full n bs s 0 t j → Goes id slot full s n (take j bs) t
from_first id slot full n bs s t j p f room = let a : n + 0 ≡ n = omega arith in let b : j - 0 ≡ j = omega arith in rw (a, b) at (p.goes f room)
