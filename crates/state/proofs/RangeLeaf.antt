-- The ranges in a leaf: a `traf`, a `moof`, and the leaf's own boxes.
use Prim.Native.Nat.{ℕ, zero, suc, ◌+◌, ◌*◌, ◌≤◌, ◌<◌, ◌/◌}
use mathlib.Core.Path.{◌≡◌}
use mathlib.Core.List.{List, []}
use mathlib.Core.Bool.{Bool, true, false, ◌&&◌}
use native.Mathlib.Omega.{arith}
use lib.Dec.{eqb, ltb, leb}
use lib.ListN.{length}
use borrow.Author.Tests.{ltb-false, leb-false}
use Rattle.basics.proofs.Picks.{pick_holds}
use Rattle.segment.specs.Constants.{limit, tfhd, tfdt, traf, moof}
use Rattle.machine.specs.Run.{Sub, done, bad}
use Rattle.machine.specs.Heads.{box_end}
use Rattle.machine.specs.Lists.{BoxPhase, in_head, in_body, step_boxes}
use Rattle.machine.specs.declared.Refusal.{Refusal}
use Rattle.machine.specs.declared.Header.{Header}
use Rattle.machine.proofs.Kept.{lift_kept, Each, each_none}
use Rattle.machine.proofs.Faults.{shows_none, none_first}
use Rattle.state.specs.declared.Span.{Span}
use Rattle.state.specs.declared.Seen.{Seen}
use Rattle.state.specs.declared.Slot.{Slot}
use Rattle.state.specs.declared.TrafPhase.{TrafPhase}
use Rattle.state.specs.declared.TrafPhase.TheVariants as track
use Rattle.state.specs.declared.TrafSo.{TrafSo}
use Rattle.state.specs.declared.TrafPart.{TrafPart}
use Rattle.state.specs.declared.TrafPart.TheVariants as part
use Rattle.state.specs.declared.TrafBody.{TrafBody}
use Rattle.state.specs.declared.TrafBody.TheVariants as trafs
use Rattle.state.specs.Boxed.{TrafBoxes}
use Rattle.machine.specs.declared.BoxesSo.TheVariants as inBoxes
use Rattle.state.specs.declared.MoofBody.{MoofBody}
use Rattle.state.specs.declared.MoofBody.TheVariants as moofs
use Rattle.state.specs.Boxed.{MoofBoxes}
use Rattle.state.specs.declared.LeafSo.{LeafSo}
use Rattle.state.specs.declared.LeafBody.{LeafBody}
use Rattle.state.specs.declared.LeafBody.TheVariants as leaves
use Rattle.state.specs.Boxed.{LeafBoxes}
use Rattle.state.specs.Flow.{Flow, Left, left}
use Rattle.table.specs.Table.{room, most_records, record_numbers}
use Rattle.state.specs.Rows.{is, top_lengths, traf_faults, leaf_faults, no_room}
use Rattle.state.specs.Opening.{span_of}
use Rattle.state.specs.Traf.{Gave, nothing, headed, timed, tfdt_version_faults, fall_faults, skip_traf, rest_from, traf_ends, begin_traf, step_traf_body, traf_now, lacking, traf_next, traf_boxes}
use Rattle.state.specs.Traf.{traf_kind as traf_kind, wrap_traf, step_traf, traf_so0, begin_traf_boxes}
use Rattle.state.specs.Leaf.{seeing, seen_now, skip_moof, lift_traf, begin_moof, step_moof_body, moof_kind}
use Rattle.state.specs.Leaf.{moof_next, moof_boxes, wrap_moof, step_moof, begin_moof_boxes, skip_leaf, lift_moof, begin_leaf}
use Rattle.state.specs.Leaf.{step_leaf_body, leaf_kind, leaf_now, leaf_lacks, leaf_next, leaf_boxes, wrap_leaf, step_leaf}
use Rattle.state.specs.Ranges.{Within, traf_most, traf_body_bounds, traf_bounds, moof_body_bounds, moof_bounds, leaf_body_bounds, leaf_bounds}
use Rattle.state.proofs.RangeTests.{spelled_first, spelled_next}
use Rattle.state.proofs.RangeKept.{Numbered, Flows, Refuses, Goes, KeptIn, shown, both, unless_kept, pick_kept, box_bounds, box_kept, Closes, go_on_kept, boxes_kept}

-- Faults of headers where they stand.
pub top_lengths_lem : (h : Header) → Each Numbered (top_lengths h)
unfolding top_lengths
top_lengths_lem h = both _ _ (shown _ _ _ (omega arith)) (shown _ _ _ (omega arith))

traf_faults_lem : (t : TrafPhase) (h : Header) → Each Numbered (traf_faults t h)
unfolding traf_faults
traf_faults_lem t h = both _ _ (shown _ _ _ (omega arith)) (both _ _ (shown _ _ _ (omega arith)) (shown _ _ _ (omega arith)))

leaf_faults_lem : (pos : ℕ) (had : Bool) (h : Header) (f : Flow) → Each Numbered (leaf_faults pos had h f)
unfolding leaf_faults
leaf_faults_lem pos had h f =
    both _ _ (top_lengths_lem h) (both _ _ (shown _ 7 _ (omega arith)) (both _ _ (shown _ 9 _ (omega arith)) (shown _ 15 _ (omega arith))))

-- the room is at most the most records
room_most : (table : List ℕ) → room table ≤ most_records
unfolding room
room_most table =
    pick_holds (λ n. n ≤ most_records) (ltb most_records (length table / record_numbers)) _ _ (λ e. omega arith) (λ e. ltb-false _ _ e)

module _ (t : ℕ) where
  -- what a box or a list leaves when it is done: what flows, in range
  abbrev Fine : {R : Type 0} → R → Flow → Type 0
  Fine r f = Flows t f

  -- A `traf`: the body of a box.
  rest_from_lem : (end : ℕ) (r : Bool) (f : Flow) (n : ℕ) → Flows t f → KeptIn t traf_body_bounds Fine (rest_from end r f n)
  unfolding traf_body_bounds
  rest_from_lem end r f n k = pick_kept t traf_body_bounds Fine (leb end n) _ _ k (tt, k)

  skip_traf_lem : (stop : ℕ) (f : Flow) (n : ℕ) → Flows t f → KeptIn t traf_body_bounds Fine (skip_traf nothing trafs.Skip stop f n)
  unfolding traf_body_bounds
  skip_traf_lem stop f n k = pick_kept t traf_body_bounds Fine (leb stop n) _ _ k (tt, k)

  traf_ends_lem : (id : ℕ) (tr : TrafPhase) (p : TrafPart) (v : ℕ) (f : Flow) (n : ℕ) → Flows t f → KeptIn t traf_body_bounds Fine (traf_ends id tr p v f n)
  unfolding traf_ends traf_body_bounds traf_most tfdt_version_faults
  traf_ends_lem id tr (part.HeadFlags end) v f n k = (spelled_first 3 3 (omega arith), k)
  traf_ends_lem id tr (part.TrackId end) v f n k = rest_from_lem end (eqb v id) f n k
  traf_ends_lem id tr (part.Version pos end) v f n k =
      unless_kept t traf_body_bounds Fine (tfdt_version_faults pos end v n) (left f) _ (both _ _ (shown _ 10 _ (omega arith)) (shown _ 6 _ (omega arith))) k.0
      (λ e. (spelled_first 2 2 (omega arith), k))
  traf_ends_lem id tr (part.TimeFlags pos true) v f n k = (spelled_first 7 7 (omega arith), k)
  traf_ends_lem id tr (part.TimeFlags pos false) v f n k = (spelled_first 7 3 (omega arith), k)
  traf_ends_lem id tr (part.Time pos) v f n k = k

  begin_traf_lem : (h : Header) (f : Flow) (n : ℕ) → Flows t f → KeptIn t traf_body_bounds Fine (begin_traf h f n)
  unfolding begin_traf traf_body_bounds traf_most
  begin_traf_lem h f n k =
      pick_kept t traf_body_bounds Fine (is h tfhd) _ _ (spelled_first 3 3 (omega arith), k)
      (pick_kept t traf_body_bounds Fine (is h tfdt) _ _ (spelled_first 0 0 (omega arith), k) (skip_traf_lem (box_end h) f n k))

  step_traf_body_lem : (id : ℕ) (tr : TrafPhase) (s : TrafBody) (f : Flow) (n b : ℕ) → n ≤ limit → b < 256 → Within (traf_body_bounds s) → Flows t f →
      KeptIn t traf_body_bounds Fine (step_traf_body id tr s f n b)
  unfolding step_traf_body traf_body_bounds
  step_traf_body_lem id tr (trafs.Skip stop) f n b hn hb w k = skip_traf_lem stop f (suc n) k
  step_traf_body_lem id tr (trafs.Rest stop r) f n b hn hb w k = rest_from_lem stop r f (suc n) k
  step_traf_body_lem id tr (trafs.Field p zero acc) f n b hn hb w k = traf_ends_lem id tr p (acc * 256 + b) f (suc n) k
  step_traf_body_lem id tr (trafs.Field p (suc m) acc) f n b hn hb w k = (spelled_next (traf_most p) m acc b hb w, k)

  -- A `traf`: its boxes.
  lackings : (pos : ℕ) (tr : TrafPhase) → Each Numbered (lacking pos tr)
  unfolding lacking
  lackings pos track.Fresh = shown true 16 pos (omega arith)
  lackings pos (track.Headed r) = shown true 16 pos (omega arith)
  lackings pos track.Timed = each_none Numbered

  falls : (last : ℕ) (gave : Gave) → Each Numbered (fall_faults last gave)
  unfolding fall_faults
  falls last nothing = each_none Numbered
  falls last (headed r) = each_none Numbered
  falls last (timed r pos v) = shown (r && ltb v last) 18 pos (omega arith)

  traf_next_lem : (span : Span) (so : TrafSo) (xs : List Refusal) (f : Flow) (n : ℕ) → Each Numbered xs → Flows t f → Closes t (Fine {R = Seen}) f (traf_next span so xs n)
  unfolding traf_next
  traf_next_lem span so xs f n g k =
      pick_holds (Closes t (Fine {R = Seen}) f) (eqb n span.end) _ _ (λ e. (both xs _ g (lackings span.pos so.track), k.0, λ e'. k)) (λ e. (g, k))

  begin_traf_boxes_lem : (id : ℕ) (span : Span) (seen : Seen) (f : Flow) (n : ℕ) → Flows t f → KeptIn t traf_bounds Fine (begin_traf_boxes id span seen f n)
  unfolding traf_bounds
  begin_traf_boxes_lem id span seen f n k =
      go_on_kept t (traf_boxes id span) wrap_traf traf_bounds Fine (λ g h. h) (λ a h w. w) (traf_next span (traf_so0 seen) [] n) f (traf_next_lem span (traf_so0 seen) [] f n (each_none Numbered) k)

  traf_box : (id : ℕ) (span : Span) (so : TrafSo) (s : BoxPhase TrafBody) (f : Flow) (n b : ℕ) → n ≤ limit → b < 256 → Within (box_bounds traf_body_bounds s) → Flows t f →
      KeptIn t traf_bounds Fine (step_boxes (traf_boxes id span) wrap_traf so s f n b)
  unfolding traf_bounds
  traf_box id span so s f n b hn hb w k =
      boxes_kept t (traf_boxes id span) wrap_traf traf_bounds Fine (λ g h. h) (λ a h y. y) traf_body_bounds Fine (λ a x y. y)
      (λ a r g m h. traf_next_lem span (traf_now a r) (fall_faults a.seen.last r) g m (falls a.seen.last r) h)
      (λ a kept m. pick_holds (Each Numbered) (eqb m span.end) _ _ (λ e. lackings span.pos a.track) (λ e. each_none Numbered))
      so s f n b
      (box_kept t (traf_kind id span.end so) traf_body_bounds Fine (λ g h. h) (λ h g. traf_faults_lem so.track h) (λ h g m e z. begin_traf_lem h g m z)
      (step_traf_body_lem id so.track) s f n b hn hb w k)

  step_traf_lem : (id : ℕ) (span : Span) (s : TrafBoxes) (f : Flow) (n b : ℕ) → n ≤ limit → b < 256 → Within (traf_bounds s) → Flows t f → KeptIn t traf_bounds Fine (step_traf id span s f n b)
  unfolding step_traf traf_bounds
  step_traf_lem id span (inBoxes.Head so h) f n b hn hb w k = traf_box id span so (in_head h) f n b hn hb w k
  step_traf_lem id span (inBoxes.Body so s) f n b hn hb w k = traf_box id span so (in_body s) f n b hn hb w k

  -- A `moof`.
  skip_moof_lem : (stop : ℕ) (f : Flow) (n : ℕ) → Flows t f → KeptIn t moof_body_bounds Fine (skip_moof stop f n)
  unfolding moof_body_bounds
  skip_moof_lem stop f n k = pick_kept t moof_body_bounds Fine (leb stop n) _ _ k (tt, k)

  lift_traf_lem : (span : Span) (r : Sub TrafBoxes Seen Flow Left) → KeptIn t traf_bounds Fine r → KeptIn t moof_body_bounds Fine (lift_traf span r)
  unfolding moof_body_bounds
  lift_traf_lem span r h =
      lift_kept (Goes t traf_bounds) Fine Refuses (Goes t moof_body_bounds) Fine Refuses (moofs.Traf span) (λ seen f. done (seeing seen) f) bad r (λ s f y. y) (λ q f y. y) (λ x l y. y) h

  begin_moof_lem : (id : ℕ) (seen : Seen) (h : Header) (f : Flow) (n : ℕ) → Flows t f → KeptIn t moof_body_bounds Fine (begin_moof id seen h f n)
  unfolding begin_moof
  begin_moof_lem id seen h f n k =
      pick_kept t moof_body_bounds Fine (is h traf) _ _ (lift_traf_lem (span_of h) (begin_traf_boxes id (span_of h) seen f n) (begin_traf_boxes_lem id (span_of h) seen f n k))
      (skip_moof_lem (box_end h) f n k)

  step_moof_body_lem : (id : ℕ) (s : MoofBody) (f : Flow) (n b : ℕ) → n ≤ limit → b < 256 → Within (moof_body_bounds s) → Flows t f → KeptIn t moof_body_bounds Fine (step_moof_body id s f n b)
  unfolding step_moof_body moof_body_bounds
  step_moof_body_lem id (moofs.Skip stop) f n b hn hb w k = skip_moof_lem stop f (suc n) k
  step_moof_body_lem id (moofs.Traf span s) f n b hn hb w k = lift_traf_lem span (step_traf id span s f n b) (step_traf_lem id span s f n b hn hb w k)

  moof_next_lem : (end : ℕ) (seen : Seen) (f : Flow) (n : ℕ) → Flows t f → Closes t (Fine {R = Seen}) f (moof_next end seen n)
  unfolding moof_next
  moof_next_lem end seen f n k = pick_holds (Closes t (Fine {R = Seen}) f) (eqb n end) _ _ (λ e. (each_none Numbered, k.0, λ e'. k)) (λ e. (each_none Numbered, k))

  begin_moof_boxes_lem : (id end : ℕ) (seen : Seen) (f : Flow) (n : ℕ) → Flows t f → KeptIn t moof_bounds Fine (begin_moof_boxes id end seen f n)
  unfolding moof_bounds
  begin_moof_boxes_lem id end seen f n k =
      go_on_kept t (moof_boxes id end) wrap_moof moof_bounds Fine (λ g h. h) (λ a h w. w) (moof_next end seen n) f (moof_next_lem end seen f n k)

  moof_box : (id end : ℕ) (seen : Seen) (s : BoxPhase MoofBody) (f : Flow) (n b : ℕ) → n ≤ limit → b < 256 → Within (box_bounds moof_body_bounds s) → Flows t f →
      KeptIn t moof_bounds Fine (step_boxes (moof_boxes id end) wrap_moof seen s f n b)
  unfolding moof_bounds
  moof_box id end seen s f n b hn hb w k =
      boxes_kept t (moof_boxes id end) wrap_moof moof_bounds Fine (λ g h. h) (λ a h y. y) moof_body_bounds Fine (λ a x y. y) (λ a r g m h. moof_next_lem end (seen_now a r) g m h)
      (λ a kept m. each_none Numbered) seen s f n b
      (box_kept t (moof_kind id end seen) moof_body_bounds Fine (λ g h. h) (λ h g. each_none Numbered) (λ h g m e z. begin_moof_lem id seen h g m z) (step_moof_body_lem id) s f n b hn hb w k)

  step_moof_lem : (id end : ℕ) (s : MoofBoxes) (f : Flow) (n b : ℕ) → n ≤ limit → b < 256 → Within (moof_bounds s) → Flows t f → KeptIn t moof_bounds Fine (step_moof id end s f n b)
  unfolding step_moof moof_bounds
  step_moof_lem id end (inBoxes.Head seen h) f n b hn hb w k = moof_box id end seen (in_head h) f n b hn hb w k
  step_moof_lem id end (inBoxes.Body seen s) f n b hn hb w k = moof_box id end seen (in_body s) f n b hn hb w k

  -- A leaf.
  skip_leaf_lem : (stop : ℕ) (f : Flow) (n : ℕ) → Flows t f → KeptIn t leaf_body_bounds Fine (skip_leaf stop f n)
  unfolding leaf_body_bounds
  skip_leaf_lem stop f n k = pick_kept t leaf_body_bounds Fine (leb stop n) _ _ k (tt, k)

  lift_moof_lem : (end : ℕ) (r : Sub MoofBoxes Seen Flow Left) → KeptIn t moof_bounds Fine r → KeptIn t leaf_body_bounds Fine (lift_moof end r)
  unfolding leaf_body_bounds
  lift_moof_lem end r h =
      lift_kept (Goes t moof_bounds) Fine Refuses (Goes t leaf_body_bounds) Fine Refuses (leaves.Moof end) (λ seen f. done (seeing seen) f) bad r (λ s f y. y) (λ q f y. y) (λ x l y. y) h

  begin_leaf_lem : (id : ℕ) (seen : Seen) (h : Header) (f : Flow) (n : ℕ) → Flows t f → KeptIn t leaf_body_bounds Fine (begin_leaf id seen h f n)
  unfolding begin_leaf
  begin_leaf_lem id seen h f n k =
      pick_kept t leaf_body_bounds Fine (is h moof) _ _ (lift_moof_lem (box_end h) (begin_moof_boxes id (box_end h) seen f n) (begin_moof_boxes_lem id (box_end h) seen f n k))
      (skip_leaf_lem (box_end h) f n k)

  step_leaf_body_lem : (id : ℕ) (s : LeafBody) (f : Flow) (n b : ℕ) → n ≤ limit → b < 256 → Within (leaf_body_bounds s) → Flows t f → KeptIn t leaf_body_bounds Fine (step_leaf_body id s f n b)
  unfolding step_leaf_body leaf_body_bounds
  step_leaf_body_lem id (leaves.Skip stop) f n b hn hb w k = skip_leaf_lem stop f (suc n) k
  step_leaf_body_lem id (leaves.Moof end s) f n b hn hb w k = lift_moof_lem end (step_moof id end s f n b) (step_moof_lem id end s f n b hn hb w k)

  leaf_lacks_lem : (slot : Slot) (so : LeafSo) (kept : Left) → Each Numbered (leaf_lacks slot so kept)
  unfolding leaf_lacks
  leaf_lacks_lem slot so kept = both _ _ (shown _ 15 _ (omega arith)) (shown _ 19 _ (omega arith))

  -- a leaf that ends without a fault leaves room for its record
  abbrev pub Roomy : Seen → Flow → Type 0
  Roomy seen f = (f.leaves < most_records) × (f.now ≡ t)

  leaf_next_lem : (slot : Slot) (so : LeafSo) (f : Flow) (n : ℕ) → Flows t f → Closes t Roomy f (leaf_next slot so f n)
  unfolding leaf_next leaf_lacks
  leaf_next_lem slot so f n k =
      pick_holds (Closes t Roomy f) (eqb n slot.end) _ _
      (λ e. (
        leaf_lacks_lem slot so (left f),
        k.0,
        λ e'.
            (let r = leb-false (room f.table) f.leaves (shows_none (no_room f.leaves f.table) 15 slot.pos (none_first _ _ e')) in omega (arith, room_most f.table), k.1),
      )) (λ e. (each_none Numbered, k))

  leaf_box : (id : ℕ) (slot : Slot) (so : LeafSo) (s : BoxPhase LeafBody) (f : Flow) (n b : ℕ) → n ≤ limit → b < 256 → Within (box_bounds leaf_body_bounds s) → Flows t f →
      KeptIn t leaf_bounds Roomy (step_boxes (leaf_boxes id slot) wrap_leaf so s f n b)
  unfolding leaf_bounds
  leaf_box id slot so s f n b hn hb w k =
      boxes_kept t (leaf_boxes id slot) wrap_leaf leaf_bounds Roomy (λ g h. h) (λ a h y. y) leaf_body_bounds Fine (λ a x y. y) (λ a r g m h. leaf_next_lem slot (leaf_now a r) g m h)
      (λ a kept m. pick_holds (Each Numbered) (eqb m slot.end) _ _ (λ e. leaf_lacks_lem slot a kept) (λ e. each_none Numbered))
      so s f n b
      (box_kept t (leaf_kind id slot so) leaf_body_bounds Fine (λ g h. h) (λ h g. leaf_faults_lem slot.pos so.moof h g) (λ h g m e z. begin_leaf_lem id so.seen h g m z)
      (step_leaf_body_lem id) s f n b hn hb w k)

  pub step_leaf_lem : (id : ℕ) (slot : Slot) (s : LeafBoxes) (f : Flow) (n b : ℕ) → n ≤ limit → b < 256 → Within (leaf_bounds s) → Flows t f → KeptIn t leaf_bounds Roomy (step_leaf id slot s f n b)
  unfolding step_leaf leaf_bounds
  step_leaf_lem id slot (inBoxes.Head so h) f n b hn hb w k = leaf_box id slot so (in_head h) f n b hn hb w k
  step_leaf_lem id slot (inBoxes.Body so s) f n b hn hb w k = leaf_box id slot so (in_body s) f n b hn hb w k
