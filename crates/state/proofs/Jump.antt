-- The jump law: the bytes of a skipped body, but for its last, change nothing but the count of bytes read.
use Prim.Native.Nat.{ℕ, zero, suc, ◌+◌, ◌-◌, ◌≤◌, ◌<◌}
use mathlib.Core.Path.{◌≡◌, refl, ap, sym, ◌∙◌}
use mathlib.Core.List.{List, [], ◌∷◌, ◌++◌}
use native.Mathlib.Omega.{arith}
use lib.Dec.{leb, ltb}
use lib.ListN.{length, take, drop, take-append-drop, length-drop}
use lib.Seq.{length-take-le, drop-drop}
use borrow.Author.Tests.{lt-leb, ne_eqb, ltb-true, ltb-false}
use Rattle.basics.specs.Choose.{pick}
use Rattle.basics.proofs.Picks.{pick_no, pick_holds}
use Rattle.segment.specs.Constants.{limit}
use Rattle.machine.specs.Faults.{shows, unless}
use Rattle.machine.specs.Run.{Sub, go, done, lift}
use Rattle.machine.specs.Lists.{BoxPhase, in_body, step_box, Boxes, step_boxes}
use Rattle.state.specs.declared.Span.{Span}
use Rattle.state.specs.declared.Slot.{Slot}
use Rattle.state.specs.declared.TrafBody.TheVariants as trafs
use Rattle.state.specs.Boxed.{TrafBoxes}
use Rattle.machine.specs.declared.BoxesSo.TheVariants as inBoxes
use Rattle.state.specs.declared.MoofBody.TheVariants as moofs
use Rattle.state.specs.Boxed.{MoofBoxes}
use Rattle.state.specs.declared.LeafBody.TheVariants as leaves
use Rattle.state.specs.Boxed.{LeafBoxes}
use Rattle.state.specs.declared.OpeningBody.TheVariants as openings
use Rattle.state.specs.Boxed.{OpeningBoxes}
use Rattle.state.specs.declared.GapBoxes.{GapBoxes}
use Rattle.state.specs.declared.GapBoxes.TheVariants as gaps
use Rattle.state.specs.declared.Stage.{Stage}
use Rattle.state.specs.declared.Stage.TheVariants as stage
use Rattle.state.specs.Flow.{Flow, Left}
use Rattle.state.specs.Traf.{nothing, headed, step_traf_body, traf_boxes, wrap_traf, step_traf}
use Rattle.state.specs.Leaf.{skipped, step_moof_body, moof_boxes, wrap_moof, step_moof, step_leaf_body, leaf_boxes, wrap_leaf, step_leaf}
use Rattle.state.specs.Opening.{passed, step_opening_body, opening, wrap_opening, step_opening}
use Rattle.state.specs.Stages.{gap_boxes, wrap_gap, step_gap, step_stage}
use Rattle.state.specs.Step.{World, reading, settle, past_limit, step, step_all}
use Rattle.state.specs.Jump.{traf_body_skips, traf_skips, moof_body_skips, moof_skips, leaf_body_skips, leaf_skips, opening_body_skips, opening_skips, gap_skips, skips, least, passing}

-- before the last byte of a skipped body nothing ends
module _ {S R : Type 0} (r : R) (s : S) where
  skip_stays : (stop n : ℕ) (f : Flow) → suc n < stop → pick {A = Sub S R Flow Left} (leb stop (suc n)) (done r f) (go s f) ≡ go s f
  skip_stays stop n f h = pick_no (leb stop (suc n)) (done r f) (go s f) (lt-leb stop (suc n) h)

-- a list of boxes moves on, or stays, as its box's body does
module _ {A B R Q S : Type 0} (l : Boxes A B R Q Flow Left) (wrap : A → BoxPhase B → S) where
  pub body_moves : (a : A) (s s' : B) (f g : Flow) (n b : ℕ) → (l.box a).body s f n b ≡ go s' g → step_boxes l wrap a (in_body s) f n b ≡ go (wrap a (in_body s')) g
  unfolding step_box lift
  body_moves a s s' f g n b e = rw e

traf_stays : (id : ℕ) (span : Span) (s : TrafBoxes) (f : Flow) (n b : ℕ) → suc n < traf_skips s → step_traf id span s f n b ≡ go s f
unfolding step_traf step_traf_body traf_skips traf_body_skips
traf_stays id span (inBoxes.Head so x) f n b h = absurd (omega arith)
traf_stays id span (inBoxes.Body so (trafs.Skip stop)) f n b h = body_moves (traf_boxes id span) wrap_traf so _ _ f f n b (skip_stays nothing (trafs.Skip stop) stop n f h)
traf_stays id span (inBoxes.Body so (trafs.Rest stop r)) f n b h = body_moves (traf_boxes id span) wrap_traf so _ _ f f n b (skip_stays (headed r) (trafs.Rest stop r) stop n f h)
traf_stays id span (inBoxes.Body so (trafs.Field p more acc)) f n b h = absurd (omega arith)

moof_stays : (id end : ℕ) (s : MoofBoxes) (f : Flow) (n b : ℕ) → suc n < moof_skips s → step_moof id end s f n b ≡ go s f
unfolding step_moof step_moof_body moof_skips moof_body_skips lift
moof_stays id end (inBoxes.Head seen x) f n b h = absurd (omega arith)
moof_stays id end (inBoxes.Body seen (moofs.Skip stop)) f n b h = body_moves (moof_boxes id end) wrap_moof seen _ _ f f n b (skip_stays skipped (moofs.Skip stop) stop n f h)
moof_stays id end (inBoxes.Body seen (moofs.Traf span s)) f n b h = body_moves (moof_boxes id end) wrap_moof seen _ (moofs.Traf span s) f f n b (rw (traf_stays id span s f n b h))

pub leaf_stays : (id : ℕ) (slot : Slot) (s : LeafBoxes) (f : Flow) (n b : ℕ) → suc n < leaf_skips s → step_leaf id slot s f n b ≡ go s f
unfolding step_leaf step_leaf_body leaf_skips leaf_body_skips lift
leaf_stays id slot (inBoxes.Head so x) f n b h = absurd (omega arith)
leaf_stays id slot (inBoxes.Body so (leaves.Skip stop)) f n b h = body_moves (leaf_boxes id slot) wrap_leaf so _ _ f f n b (skip_stays skipped (leaves.Skip stop) stop n f h)
leaf_stays id slot (inBoxes.Body so (leaves.Moof end s)) f n b h = body_moves (leaf_boxes id slot) wrap_leaf so _ (leaves.Moof end s) f f n b (rw (moof_stays id end s f n b h))

opening_stays : (brand : ℕ) (s : OpeningBoxes) (f : Flow) (n b : ℕ) → suc n < opening_skips s → step_opening brand s f n b ≡ go s f
unfolding step_opening step_opening_body opening_skips opening_body_skips
opening_stays brand (inBoxes.Head branded x) f n b h = absurd (omega arith)
opening_stays brand (inBoxes.Body branded (openings.Skip stop)) f n b h =
    body_moves (opening brand) wrap_opening branded _ _ f f n b (skip_stays passed (openings.Skip stop) stop n f h)
opening_stays brand (inBoxes.Body branded (openings.Styp span p found more acc)) f n b h = absurd (omega arith)
opening_stays brand (inBoxes.Body branded (openings.Index span s)) f n b h = absurd (omega arith)

gap_stays : (end : ℕ) (s : GapBoxes) (f : Flow) (n b : ℕ) → suc n < gap_skips s → step_gap end s f n b ≡ go s f
unfolding step_gap gap_skips
gap_stays end (gaps.Head x) f n b h = absurd (omega arith)
gap_stays end (gaps.Body stop) f n b h = body_moves (gap_boxes end) wrap_gap tt stop stop f f n b (skip_stays tt stop stop n f h)

stage_stays : (s : Stage) (f : Flow) (n b : ℕ) → suc n < skips s → step_stage s f n b ≡ go s f
unfolding step_stage skips lift
stage_stays (stage.Opening brand s) f n b h = rw (opening_stays brand s f n b h)
stage_stays (stage.Gap top l end s) f n b h = rw (gap_stays end s f n b h)
stage_stays (stage.Entry top ls) f n b h = absurd (omega arith)
stage_stays (stage.Leaf top ls slot s) f n b h = rw (leaf_stays top.id slot s f n b h)
stage_stays (stage.Inner top ls slot s) f n b h = absurd (omega arith)

-- row 3 does not show before the limit
pub past_none : (n : ℕ) → n < limit → past_limit n ≡ []
unfolding shows pick
past_none n low = rw (ne_eqb n limit (λ e. omega arith))

-- one byte of a skipped body, and all of them but the last
step_stays : (n : ℕ) (s : Stage) (f : Flow) (b : ℕ) → n < limit → suc n < skips s → step (reading n s f) b ≡ reading (suc n) s f
unfolding step settle unless
step_stays n s f b low h = rw (past_none n low, stage_stays s f n b h)

pub jump : (xs bytes : List ℕ) (n : ℕ) (s : Stage) (f : Flow) → n + length xs ≤ limit → n + length xs < skips s →
    step_all (reading n s f) (xs ++ bytes) ≡ step_all (reading (n + length xs) s f) bytes
unfolding step_all
jump [] bytes n s f low h = let e : n + length {A = ℕ} [] ≡ n = omega arith in rw e
jump (x ∷ xs) bytes n s f low h =
    let e : suc n + length xs ≡ n + length (x ∷ xs) = omega arith in
    ap (λ (w : World). step_all w (xs ++ bytes)) (step_stays n s f x (omega arith) (omega arith))
    ∙ jump xs bytes (suc n) s f (omega arith) (omega arith)
    ∙ ap (λ (m : ℕ). step_all (reading m s f) bytes) e

pub least_first : (a b : ℕ) → least a b ≤ a
unfolding least
least_first a b = pick_holds (λ (k : ℕ). k ≤ a) (ltb a b) a b (λ e. omega arith) (λ e. ltb-false a b e)

pub least_second : (a b : ℕ) → least a b ≤ b
unfolding least
least_second a b = pick_holds (λ (k : ℕ). k ≤ b) (ltb a b) a b (λ e. let h = ltb-true a b e in omega arith) (λ e. omega arith)

-- the bytes that pass at once are there, within the limit and before the last of their body
pub passing_there : (s : Stage) (n rest : ℕ) → passing s n rest ≤ rest
unfolding passing
passing_there s n rest = least_first rest (least (skips s) limit - suc n)

pub passing_limit : (s : Stage) (n rest : ℕ) → n ≤ limit → n + passing s n rest ≤ limit
unfolding passing
passing_limit s n rest low =
    omega (arith, low, least_second rest (least (skips s) limit - suc n), least_second (skips s) limit)

passing_before : (s : Stage) (n rest : ℕ) → 0 < passing s n rest → n + passing s n rest < skips s
unfolding passing
passing_before s n rest some =
    omega (arith, some, least_second rest (least (skips s) limit - suc n), least_first (skips s) limit)

-- so many bytes from a place on, all of them there
passes : (bytes : List ℕ) (i k n : ℕ) (s : Stage) (f : Flow) → i + k ≤ length bytes → n + k ≤ limit → n + k < skips s →
    step_all (reading n s f) (drop i bytes) ≡ step_all (reading (n + k) s f) (drop (i + k) bytes)
passes bytes i k n s f there low before =
    let e : length (take k (drop i bytes)) ≡ k = length-take-le k (drop i bytes) (simp length-drop (omega arith)) in
    ap (λ (xs : List ℕ). step_all (reading n s f) xs) (sym (take-append-drop k (drop i bytes)))
    ∙ jump (take k (drop i bytes)) (drop k (drop i bytes)) n s f (rw e low) (rw e before)
    ∙ ap (λ (m : ℕ). step_all (reading (n + m) s f) (drop k (drop i bytes))) e
    ∙ ap (λ (xs : List ℕ). step_all (reading (n + k) s f) xs) (drop-drop k i bytes)

-- the bytes that pass at once, passed
pub steps_passing : (bytes : List ℕ) (i n : ℕ) (s : Stage) (f : Flow) → n ≤ limit → i ≤ length bytes →
    let k : ℕ = passing s n (length bytes - i) in step_all (reading n s f) (drop i bytes) ≡ step_all (reading (n + k) s f) (drop (i + k) bytes)
steps_passing bytes i n s f low there = at (passing s n (length bytes - i)) refl
  where
    at : (k : ℕ) → k ≡ passing s n (length bytes - i) → step_all (reading n s f) (drop i bytes) ≡ step_all (reading (n + k) s f) (drop (i + k) bytes)
    at zero e = let a : n + 0 ≡ n = omega arith in let b : i + 0 ≡ i = omega arith in rw (a, b) refl
    at (suc k) e =
        passes bytes i (suc k) n s f (omega (arith, e, passing_there s n (length bytes - i))) (omega (arith, e, passing_limit s n (length bytes - i) low))
        (omega (arith, e, passing_before s n (length bytes - i) (omega arith)))
