-- The first seven bytes of a box's header in a leaf, taken together, at each level.
use Prim.Native.Nat.{ℕ, ◌+◌, ◌-◌, ◌*◌, ◌/◌, ◌≤◌, ◌<◌}
use mathlib.Core.Path.{◌≡◌, refl, ap, sym, ◌∙◌}
use mathlib.Core.List.{List, [], ◌∷◌}
use mathlib.Core.Bool.{Bool}
use native.Mathlib.Omega.{arith}
use lib.ListN.{length, take, drop, get_or, length-drop}
use lib.Seq.{drop-drop}
use borrow.Author.Tests.{le-ltb}
use Rattle.std.specs.Prelude.{Some}
use Rattle.basics.specs.Choose.{pick}
use Rattle.basics.specs.Bytes.{number_from, number, AllBytes}
use Rattle.basics.proofs.Bytes.{each_byte_all, all_drop}
use Rattle.machine.specs.Faults.{shows, unless}
use Rattle.machine.specs.Run.{go, lift}
use Rattle.machine.specs.Heads.{step_head}
use Rattle.machine.specs.declared.Head.{Head}
use Rattle.machine.specs.declared.Head.TheVariants as at
use Rattle.state.specs.declared.Span.{Span}
use Rattle.state.specs.declared.Slot.{Slot}
use Rattle.state.specs.Boxed.{TrafBoxes}
use Rattle.machine.specs.declared.BoxesSo.TheVariants as inBoxes
use Rattle.state.specs.declared.MoofBody.TheVariants as moofs
use Rattle.state.specs.Boxed.{MoofBoxes}
use Rattle.state.specs.declared.LeafBody.TheVariants as leaves
use Rattle.state.specs.Boxed.{LeafBoxes}
use Rattle.state.specs.Flow.{Flow, left}
use Rattle.state.specs.Traf.{traf_boxes, wrap_traf, step_traf}
use Rattle.state.specs.Leaf.{step_moof_body, moof_boxes, wrap_moof, step_moof, step_leaf_body, leaf_boxes, wrap_leaf, step_leaf}
use Rattle.state.proofs.Jump.{body_moves}
use Rattle.state.proofs.Numbers.{head_moves}
use Rattle.fields.specs.Answers.{number_at}
use Rattle.law_leap.specs.Over.{on_by, over}
use Rattle.law_leap.proofs.Over.{over_moves}
use Rattle.leap_leaf.specs.Goes.{From}
use Rattle.leap_leaf.specs.Begun.{head_end, traf_end, traf_with, moof_end, moof_with, leaf_end, leaf_with}

-- What holds the header goes on as the header does.
traf_moves : (id : ℕ) (span : Span) (s : TrafBoxes) (e : ℕ) → traf_end span s ≡ Some e → (h h' : Head) (f g : Flow) (n b : ℕ) →
    step_head left e h f n b ≡ go h' g → step_traf id span (traf_with s h) f n b ≡ go (traf_with s h') g
unfolding traf_end head_end traf_with step_traf
traf_moves id span (inBoxes.Head so at.First) e next h h' f g n b k = let q : e ≡ span.end = cc in head_moves (traf_boxes id span) wrap_traf so h h' f g n b (rw q at k)
traf_moves id span (inBoxes.Head so (at.Size pos more acc)) e next h h' f g n b k = let z : ◌≡◌ {A = ℕ} 0 1 = cc in absurd (omega arith)
traf_moves id span (inBoxes.Head so (at.Kind pos size more acc)) e next h h' f g n b k = let z : ◌≡◌ {A = ℕ} 0 1 = cc in absurd (omega arith)
traf_moves id span (inBoxes.Head so (at.Large pos kind more acc)) e next h h' f g n b k = let z : ◌≡◌ {A = ℕ} 0 1 = cc in absurd (omega arith)
traf_moves id span (inBoxes.Body so s) e next h h' f g n b k = let z : ◌≡◌ {A = ℕ} 0 1 = cc in absurd (omega arith)

moof_moves : (id end : ℕ) (s : MoofBoxes) (e : ℕ) → moof_end end s ≡ Some e → (h h' : Head) (f g : Flow) (n b : ℕ) →
    step_head left e h f n b ≡ go h' g → step_moof id end (moof_with s h) f n b ≡ go (moof_with s h') g
unfolding moof_end head_end moof_with step_moof step_moof_body lift
moof_moves id end (inBoxes.Head seen at.First) e next h h' f g n b k = let q : e ≡ end = cc in head_moves (moof_boxes id end) wrap_moof seen h h' f g n b (rw q at k)
moof_moves id end (inBoxes.Head seen (at.Size pos more acc)) e next h h' f g n b k = let z : ◌≡◌ {A = ℕ} 0 1 = cc in absurd (omega arith)
moof_moves id end (inBoxes.Head seen (at.Kind pos size more acc)) e next h h' f g n b k = let z : ◌≡◌ {A = ℕ} 0 1 = cc in absurd (omega arith)
moof_moves id end (inBoxes.Head seen (at.Large pos kind more acc)) e next h h' f g n b k = let z : ◌≡◌ {A = ℕ} 0 1 = cc in absurd (omega arith)
moof_moves id end (inBoxes.Body seen (moofs.Skip stop)) e next h h' f g n b k = let z : ◌≡◌ {A = ℕ} 0 1 = cc in absurd (omega arith)
moof_moves id end (inBoxes.Body seen (moofs.Traf span s)) e next h h' f g n b k =
    body_moves (moof_boxes id end) wrap_moof seen (moofs.Traf span (traf_with s h)) (moofs.Traf span (traf_with s h')) f g n b (rw (traf_moves id span s e next h h' f g n b k) refl)

leaf_moves : (id : ℕ) (slot : Slot) (s : LeafBoxes) (e : ℕ) → leaf_end slot s ≡ Some e → (h h' : Head) (f g : Flow) (n b : ℕ) →
    step_head left e h f n b ≡ go h' g → step_leaf id slot (leaf_with s h) f n b ≡ go (leaf_with s h') g
unfolding leaf_end head_end leaf_with step_leaf step_leaf_body lift
leaf_moves id slot (inBoxes.Head so at.First) e next h h' f g n b k = let q : e ≡ slot.end = cc in head_moves (leaf_boxes id slot) wrap_leaf so h h' f g n b (rw q at k)
leaf_moves id slot (inBoxes.Head so (at.Size pos more acc)) e next h h' f g n b k = let z : ◌≡◌ {A = ℕ} 0 1 = cc in absurd (omega arith)
leaf_moves id slot (inBoxes.Head so (at.Kind pos size more acc)) e next h h' f g n b k = let z : ◌≡◌ {A = ℕ} 0 1 = cc in absurd (omega arith)
leaf_moves id slot (inBoxes.Head so (at.Large pos kind more acc)) e next h h' f g n b k = let z : ◌≡◌ {A = ℕ} 0 1 = cc in absurd (omega arith)
leaf_moves id slot (inBoxes.Body so (leaves.Skip stop)) e next h h' f g n b k = let z : ◌≡◌ {A = ℕ} 0 1 = cc in absurd (omega arith)
leaf_moves id slot (inBoxes.Body so (leaves.Moof end s)) e next h h' f g n b k =
    body_moves (leaf_boxes id slot) wrap_leaf so (leaves.Moof end (moof_with s h)) (leaves.Moof end (moof_with s h')) f g n b (rw (moof_moves id end s e next h h' f g n b k) refl)

-- before its first byte it is itself
traf_first : (span : Span) (s : TrafBoxes) (e : ℕ) → traf_end span s ≡ Some e → traf_with s at.First ≡ s
unfolding traf_end head_end traf_with
traf_first span (inBoxes.Head so at.First) e next = refl
traf_first span (inBoxes.Head so (at.Size pos more acc)) e next = let z : ◌≡◌ {A = ℕ} 0 1 = cc in absurd (omega arith)
traf_first span (inBoxes.Head so (at.Kind pos size more acc)) e next = let z : ◌≡◌ {A = ℕ} 0 1 = cc in absurd (omega arith)
traf_first span (inBoxes.Head so (at.Large pos kind more acc)) e next = let z : ◌≡◌ {A = ℕ} 0 1 = cc in absurd (omega arith)
traf_first span (inBoxes.Body so s) e next = refl

moof_first_lem : (end : ℕ) (s : MoofBoxes) (e : ℕ) → moof_end end s ≡ Some e → moof_with s at.First ≡ s
unfolding moof_end head_end moof_with
moof_first_lem end (inBoxes.Head seen at.First) e next = refl
moof_first_lem end (inBoxes.Head seen (at.Size pos more acc)) e next = let z : ◌≡◌ {A = ℕ} 0 1 = cc in absurd (omega arith)
moof_first_lem end (inBoxes.Head seen (at.Kind pos size more acc)) e next = let z : ◌≡◌ {A = ℕ} 0 1 = cc in absurd (omega arith)
moof_first_lem end (inBoxes.Head seen (at.Large pos kind more acc)) e next = let z : ◌≡◌ {A = ℕ} 0 1 = cc in absurd (omega arith)
moof_first_lem end (inBoxes.Body seen (moofs.Skip stop)) e next = refl
moof_first_lem end (inBoxes.Body seen (moofs.Traf span s)) e next = ap (λ (t : TrafBoxes). inBoxes.Body seen (moofs.Traf span t)) (traf_first span s e next)

leaf_first : (slot : Slot) (s : LeafBoxes) (e : ℕ) → leaf_end slot s ≡ Some e → leaf_with s at.First ≡ s
unfolding leaf_end head_end leaf_with
leaf_first slot (inBoxes.Head so at.First) e next = refl
leaf_first slot (inBoxes.Head so (at.Size pos more acc)) e next = let z : ◌≡◌ {A = ℕ} 0 1 = cc in absurd (omega arith)
leaf_first slot (inBoxes.Head so (at.Kind pos size more acc)) e next = let z : ◌≡◌ {A = ℕ} 0 1 = cc in absurd (omega arith)
leaf_first slot (inBoxes.Head so (at.Large pos kind more acc)) e next = let z : ◌≡◌ {A = ℕ} 0 1 = cc in absurd (omega arith)
leaf_first slot (inBoxes.Body so (leaves.Skip stop)) e next = refl
leaf_first slot (inBoxes.Body so (leaves.Moof end s)) e next = ap (λ (t : MoofBoxes). inBoxes.Body so (leaves.Moof end t)) (moof_first_lem end s e next)

-- seven bytes of a header, with the eighth in its container
seven_over : (end n : ℕ) (f : Flow) → n + 8 ≤ end → (ys : List ℕ) → 7 ≤ length ys →
    over (step_head left end) at.First f n (take 7 ys) ≡ go (at.Kind n (number (take 4 ys)) 0 (number (take 3 (drop 4 ys)))) f
unfolding over on_by step_head shows unless pick number_from
seven_over end n f room [] h = absurd (omega arith)
seven_over end n f room (a ∷ []) h = absurd (omega arith)
seven_over end n f room (a ∷ b ∷ []) h = absurd (omega arith)
seven_over end n f room (a ∷ b ∷ c ∷ []) h = absurd (omega arith)
seven_over end n f room (a ∷ b ∷ c ∷ d ∷ []) h = absurd (omega arith)
seven_over end n f room (a ∷ b ∷ c ∷ d ∷ p ∷ []) h = absurd (omega arith)
seven_over end n f room (a ∷ b ∷ c ∷ d ∷ p ∷ q ∷ []) h = absurd (omega arith)
seven_over end n f room (a ∷ b ∷ c ∷ d ∷ p ∷ q ∷ r ∷ ys) h =
    let z : 0 * 256 + a ≡ a = omega arith in
    rw (le-ltb end (n + 8) room, z) refl

-- four bytes but for the last
word_but_last : (ys : List ℕ) → AllBytes ys → 4 ≤ length ys → number (take 4 ys) / 256 ≡ number (take 3 ys)
unfolding number_from
word_but_last [] all h = absurd (omega arith)
word_but_last (a ∷ []) all h = absurd (omega arith)
word_but_last (a ∷ b ∷ []) all h = absurd (omega arith)
word_but_last (a ∷ b ∷ c ∷ []) all h = absurd (omega arith)
word_but_last (a ∷ b ∷ c ∷ d ∷ ys) all h = omega (arith, all.1.1.1.0)

-- the boxes after them
module _ (id : ℕ) (slot : Slot) (full : Bool) (n : ℕ) (bs : List ℕ) (s : LeafBoxes) (i : ℕ) (bytes : (j : ℕ) → get_or bs j 0 < 256) where
  pub from_begun : (end size word : ℕ) (r : LeafBoxes) → leaf_end slot s ≡ Some end → n + i + 8 ≤ end → i + 8 ≤ length bs →
      size ≡ number_at 4 bs i → word ≡ number_at 4 bs (i + 4) → r ≡ leaf_with s (at.Kind (n + i) size 0 (word / 256)) → From id slot full n bs s i r (i + 7)
  from_begun end size word r next room there es ew er =
      let ys : List ℕ = drop i bs in
      let l : length ys ≡ length bs - i = length-drop i bs in
      let k : drop 4 ys ≡ drop (i + 4) bs = drop-drop 4 i bs in
      let z : i + 7 - i ≡ 7 = omega arith in
      let m : 4 ≤ length (drop (i + 4) bs) = rw (length-drop (i + 4) bs) (omega (arith, there)) in
      let v : word / 256 ≡ number (take 3 (drop 4 ys)) = rw (ew, k) (word_but_last (drop (i + 4) bs) (all_drop (i + 4) bs (each_byte_all bs bytes)) m) in
      record {
        later = omega arith;
        there = omega (arith, there);
        goes = λ f told.
            rw (z, er, es, v) (ap (λ (q : LeafBoxes). over (step_leaf id slot) q f (n + i) (take 7 ys)) (sym (leaf_first slot s end next))
            ∙ over_moves (step_head left end) (step_leaf id slot) (leaf_with s) (leaf_moves id slot s end next) (take 7 ys) at.First f (n + i) _ f
            (seven_over end (n + i) f room ys (omega (arith, l, there))));
      }
