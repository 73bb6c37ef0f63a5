-- A `moof` and a leaf as lists of boxes; what a leaf lacks at its end; and the number that a header shows in a leaf.
use Prim.Native.Nat.{ℕ}
use mathlib.Core.Path.{◌≡◌, refl, ap, sym, ◌∙◌}
use mathlib.Core.List.{[], ◌++◌}
use mathlib.Core.Bool.{Bool, true, false, not, ◌&&◌, ◌||◌}
use native.Mathlib.Omega.{arith}
use lib.Dec.{eqb, ltb}
use borrow.Author.Tests.{le-ltb, ltb-false}
use Rattle.std.specs.Prelude.{Some, None, Result, Ok}
use Rattle.std.specs.Option.{option_or}
use Rattle.basics.specs.Choose.{pick}
use Rattle.basics.proofs.Picks.{pick_no, pick_with, pick_both}
use Rattle.segment.specs.Constants.{styp, sidx, mdat}
use Rattle.machine.specs.Faults.{shows, lowest, unless}
use Rattle.machine.specs.Lists.{over}
use Rattle.machine.specs.declared.BoxesSo.TheVariants as inBoxes
use Rattle.machine.specs.declared.Refusal.{Refusal}
use Rattle.machine.specs.declared.Header.{Header}
use Rattle.machine.specs.declared.Step.{Step}
use Rattle.machine.specs.declared.Step.TheVariants as step
use Rattle.state.specs.Boxed.{MoofBoxes, LeafBoxes}
use Rattle.state.specs.Flow.{Flow, left}
use Rattle.state.specs.Leaf.{moof_boxes, step_moof, leaf_lacks, leaf_next, leaf_boxes, step_leaf}
use Rattle.state.specs.Ranges.{Within, moof_body_bounds, moof_bounds, leaf_body_bounds, leaf_bounds}
use Rattle.state.specs.Rows.{top_lengths, leaf_faults, no_room}
use Rattle.state.specs.Views.{view}
use Rattle.state.specs.declared.Seen.{Seen}
use Rattle.state.specs.declared.Slot.{Slot}
use Rattle.state.specs.declared.LeafSo.{LeafSo}
use Rattle.flaws.specs.Flaws.{flaw_of, numbered}
use Rattle.flaws.proofs.Numbered.{first_of}
use Rattle.flaws.proofs.Places.{leaf_flaws}
use Rattle.lists.specs.Listed.{lower, ended, on_from, list_bounds, step_list}
use Rattle.leaf.specs.Leaf.{RoomIs, lack_of}

-- a `moof`, and a leaf, as a list of boxes
pub moof_within : (s : MoofBoxes) → Within (moof_bounds s) → Within (list_bounds moof_body_bounds s)
unfolding moof_bounds list_bounds
moof_within (inBoxes.Head a h) w = w
moof_within (inBoxes.Body a s) w = w

pub leaf_within : (s : LeafBoxes) → Within (leaf_bounds s) → Within (list_bounds leaf_body_bounds s)
unfolding leaf_bounds list_bounds
leaf_within (inBoxes.Head a h) w = w
leaf_within (inBoxes.Body a s) w = w

pub moof_listed : (id end : ℕ) (s : MoofBoxes) (f : Flow) (n b : ℕ) → step_list (moof_boxes id end) s f n b ≡ step_moof id end s f n b
unfolding step_list step_moof
moof_listed id end (inBoxes.Head a h) f n b = refl
moof_listed id end (inBoxes.Body a s) f n b = refl

pub leaf_listed : (id : ℕ) (slot : Slot) (s : LeafBoxes) (f : Flow) (n b : ℕ) → step_list (leaf_boxes id slot) s f n b ≡ step_leaf id slot s f n b
unfolding step_list step_leaf
leaf_listed id slot (inBoxes.Head a h) f n b = refl
leaf_listed id slot (inBoxes.Body a s) f n b = refl

-- what a leaf lacks at its end, beside a refusal and where none is
lowest_lacks : (a s : Bool) (x : Refusal) (p : ℕ) → lowest x (shows a 15 p ++ shows (not s) 19 p) ≡ lower (lack_of a s) p x
unfolding lowest shows lack_of pick lower
lowest_lacks true true x p = refl
lowest_lacks true false x p =
    pick_with (ltb 15 x.number) (λ q. q) (λ q. q) _ _ _ _ (λ e. refl) (λ e. pick_no _ _ _ (le-ltb 19 x.number (omega (arith, ltb-false 15 x.number e))))
lowest_lacks false true x p = refl
lowest_lacks false false x p = refl

over_lacks : (a s : Bool) (p : ℕ) (seen : Seen) (f : Flow) → view {S = LeafSo} f (ended (lack_of a s) p (step.Done seen)) ≡ on_from (over seen (shows a 15 p ++ shows (not s) 19 p)) f
unfolding unless lowest shows lack_of pick ended on_from
over_lacks true true p seen f = refl
over_lacks true false p seen f = refl
over_lacks false true p seen f = refl
over_lacks false false p seen f = refl

module _ (slot : Slot) (so : LeafSo) (f : Flow) (full : Bool) (room : RoomIs full f) (n : ℕ) where
  pub lacks_beside : (x : Refusal) → lowest x (pick (eqb n slot.end) (leaf_lacks slot so (left f)) []) ≡ pick (eqb n slot.end) (lower (lack_of full so.seen.any) slot.pos x) x
  unfolding leaf_lacks lowest
  lacks_beside x =
      pick_both (eqb n slot.end) (lowest x) (λ y. y) _ _ _ _
      (ap (λ (t : Bool). lowest x (shows t 15 slot.pos ++ shows (not so.seen.any) 19 slot.pos)) room ∙ lowest_lacks full so.seen.any x slot.pos)
      refl

  pub faultless : (r : Result (Step LeafSo Seen) Refusal) →
      r ≡ pick (eqb n slot.end) (ended (lack_of full so.seen.any) slot.pos (step.Done so.seen)) (Ok (step.Going so)) → view f r ≡ on_from (leaf_next slot so f n) f
  unfolding leaf_next leaf_lacks on_from unless
  faultless r e =
      rw e
      (pick_both (eqb n slot.end) (view f) (λ q. on_from q f) _ _ _ _
      (over_lacks full so.seen.any slot.pos so.seen f ∙ ap (λ (t : Bool). on_from (over so.seen (shows t 15 slot.pos ++ shows (not so.seen.any) 19 slot.pos)) f) (sym room))
      refl)

-- the number that a type shows
by_kind : (s m r : Bool) → numbered (pick s 7 (pick m 9 (pick r 15 0))) ≡ pick s (Some 7) (pick m (Some 9) (pick r (Some 15) None))
unfolding numbered pick
by_kind true m r = refl
by_kind false true r = refl
by_kind false false true = refl
by_kind false false false = refl

pub leaf_told : (pos : ℕ) (had full : Bool) (h : Header) (f : Flow) → RoomIs full f → numbered (flaw_of (leaf_faults pos had h f))
    ≡ option_or (numbered (flaw_of (top_lengths h)))
    (pick (eqb h.kind styp) (Some 7) (pick (eqb h.kind sidx || eqb h.kind mdat && not had) (Some 9) (pick (eqb h.pos pos && full) (Some 15) None)))
leaf_told pos had full h f room =
    ap numbered (leaf_flaws pos had h f)
    ∙ first_of _ _
    ∙ ap (option_or _) (by_kind (eqb h.kind styp) (eqb h.kind sidx || eqb h.kind mdat && not had) (eqb h.pos pos && no_room f.leaves f.table)
    ∙ ap (λ (t : Bool). pick (eqb h.kind styp) (Some 7) (pick (eqb h.kind sidx || eqb h.kind mdat && not had) (Some 9) (pick (eqb h.pos pos && t) (Some 15) None))) room)
