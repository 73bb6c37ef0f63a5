-- Nothing changes but what is lent for it: a byte changes at most its own place of the work area, and at most one record of the leaf table.
use Rattle.std.specs.Prelude.{ℕ, Result, Err}
use Prim.Native.Nat.{ℕ, zero, suc, ◌+◌, ◌*◌, ◌≤◌}
use mathlib.Core.Path.{◌≡◌, refl, ap, sym, ◌∙◌}
use mathlib.Core.List.{List, [], ◌∷◌}
use mathlib.Core.Option.{Option, some, none}
use mathlib.Core.Logic.{◌≢◌}
use mathlib.Core.Bool.{Bool, true, false, ◌||◌}
use lib.Dec.{eqb, leb, ltb}
use lib.ListN.{length, get_or, length-set}
use lib.Seq.{get_or-set_other}
use native.Mathlib.Omega.{arith}
use Rattle.basics.proofs.Put.{put_length, put_before, put_past}
use Rattle.table.specs.declared.Record.{Record}
use Rattle.basics.specs.Choose.{pick}
use Rattle.segment.specs.Constants.{limit, moof, traf, tfhd, tfdt, styp, sidx}
use Rattle.table.specs.Table.{record_numbers, put_record, numbers_of}
use Rattle.machine.specs.Faults.{refusal, shows, unless, lowest}
use Rattle.machine.specs.Run.{Sub, go, done, bad, lift}
use Rattle.machine.specs.Heads.{box_end}
use Rattle.machine.specs.Lists.{in_head, in_body, step_box}
use Rattle.machine.proofs.Left.{left_in, lift_left, pass_left, unless_left, pick_left, body_left, header_left, goes_on_left, boxes_left}
use Rattle.machine.specs.declared.Refusal.{Refusal}
use Rattle.machine.specs.declared.Header.{Header}
use Rattle.machine.specs.declared.Head.{Head}
use Rattle.machine.specs.declared.Head.TheVariants as at
use Rattle.state.specs.declared.Span.{Span}
use Rattle.state.specs.declared.Seen.{Seen}
use Rattle.state.specs.declared.Slot.{Slot}
use Rattle.state.specs.declared.Draft.{Draft}
use Rattle.state.specs.declared.Sums.{Sums}
use Rattle.state.specs.declared.IndexRead.{IndexRead}
use Rattle.state.specs.declared.Top.{Top}
use Rattle.state.specs.declared.TrafPhase.{TrafPhase}
use Rattle.state.specs.declared.TrafPart.{TrafPart}
use Rattle.state.specs.declared.TrafPart.TheVariants as trafPart
use Rattle.state.specs.declared.TrafBody.{TrafBody}
use Rattle.state.specs.declared.TrafBody.TheVariants as trafs
use Rattle.state.specs.Boxed.{TrafBoxes}
use Rattle.machine.specs.declared.BoxesSo.TheVariants as inBoxes
use Rattle.state.specs.declared.MoofBody.{MoofBody}
use Rattle.state.specs.declared.MoofBody.TheVariants as moofs
use Rattle.state.specs.Boxed.{MoofBoxes}
use Rattle.state.specs.declared.LeafBody.{LeafBody}
use Rattle.state.specs.declared.LeafBody.TheVariants as leafs
use Rattle.state.specs.Boxed.{LeafBoxes}
use Rattle.state.specs.declared.Sidx.{Sidx}
use Rattle.state.specs.declared.IndexPart.{IndexPart}
use Rattle.state.specs.declared.IndexPart.TheVariants as part
use Rattle.state.specs.declared.EntryPart.{EntryPart}
use Rattle.state.specs.declared.EntryPart.TheVariants as entry
use Rattle.state.specs.declared.Sidx.TheVariants as sidxs
use Rattle.state.specs.declared.StypPart.{StypPart}
use Rattle.state.specs.declared.StypPart.TheVariants as styps
use Rattle.state.specs.declared.OpeningBody.{OpeningBody}
use Rattle.state.specs.declared.OpeningBody.TheVariants as openings
use Rattle.state.specs.Boxed.{OpeningBoxes}
use Rattle.state.specs.declared.GapBoxes.{GapBoxes}
use Rattle.state.specs.declared.GapBoxes.TheVariants as gaps
use Rattle.state.specs.declared.Level.{Level}
use Rattle.state.specs.declared.Levels.{Levels}
use Rattle.state.specs.declared.Levels.TheVariants as levels
use Rattle.state.specs.declared.InnerBox.TheVariants as inners
use Rattle.state.specs.declared.Stage.{Stage}
use Rattle.state.specs.declared.Stage.TheVariants as stage
use Rattle.state.specs.declared.State.{State}
use Rattle.state.specs.declared.State.TheVariants as state
use Rattle.state.specs.Ranges.{in_range}
use Rattle.state.specs.Flow.{Flow, Left, left, with_now, listed, work_bytes}
use Rattle.state.specs.Rows.{is}
use Rattle.state.specs.Sidx as indexes
use Rattle.state.specs.Sidx.{Place, topmost, under, sum_faults, index_of, close_sidx, field_ends, entry_ends, keep_byte, step_sidx}
use Rattle.state.specs.Traf as traffic
use Rattle.state.specs.Traf.{nothing, traf_ends, begin_traf, step_traf_body, traf_kind, traf_boxes, wrap_traf, traf_next, traf_so0, step_traf, begin_traf_boxes}
use Rattle.state.specs.Leaf.{skipped, seeing, begin_moof, step_moof_body, moof_kind, moof_next, moof_boxes}
use Rattle.state.specs.Leaf.{wrap_moof, step_moof, begin_moof_boxes, begin_leaf, step_leaf_body, leaf_kind, leaf_boxes, wrap_leaf}
use Rattle.state.specs.Leaf.{step_leaf, leaf_so0}
use Rattle.state.specs.Opening.{passed, indexed, span_of, unlisted, brands_from, styp_ends, begin_opening, step_opening_body, opening_kind, opening, wrap_opening, step_opening}
use Rattle.state.specs.Levels.{entry_at, entry_place, inmost, depth, took_entry, push, still_open, entry_faults, slot_of}
use Rattle.state.specs.declared.StoredEntry.{StoredEntry}
use Rattle.state.specs.Stages.{gap_kind, gap_boxes, wrap_gap, step_gap, onward, follow, top_of, top_level}
use Rattle.state.specs.Stages.{index_ends, InnerBody, inner_kind, inner_level, step_inner, leaf_record, lift_leaf, step_in_leaf}
use Rattle.state.specs.Stages.{step_slot, step_entry, step_stage}
use Rattle.state.specs.Places.{sidx_byte, opening_body_byte, opening_byte, stage_byte, stored_at}
use Rattle.state.specs.Step.{World, reading, ended, refused, settle, over_limit, left_over, step, step_all}
use Rattle.state.specs.Calls.{Out, out, flow_of, left_of, fed, state_of, work_of, table_of, feed_state, feed_of}
use Rattle.state.specs.Named.{entry_byte, stored_from, Spared, world_of, leaves_of, leaves_held, Grown}

-- Inside a leaf nothing is stored and nothing listed.

-- a part that is skipped
skip_left : {S R : Type 0} (stop : ℕ) (f : Flow) (n : ℕ) (r : R) (s : S) → left_in left (pick (leb stop n) (done r f) (go s f)) ≡ left f
unfolding left_in
skip_left stop f n r s = pick_left left (leb stop n) (done r f) (go s f) (left f) refl refl

traf_ends_left : (id : ℕ) (t : TrafPhase) (p : TrafPart) (v : ℕ) (f : Flow) (n : ℕ) → left_in left (traf_ends id t p v f n) ≡ left f
unfolding traf_ends left_in
traf_ends_left id t (trafPart.HeadFlags end) v f n = refl
traf_ends_left id t (trafPart.TrackId end) v f n = skip_left end f n (traffic.headed (eqb v id)) (trafs.Rest end (eqb v id))
traf_ends_left id t (trafPart.Version pos end) v f n =
    unless_left left (traffic.tfdt_version_faults pos end v n) f (go (trafs.Field (trafPart.TimeFlags pos (eqb v 1)) 2 0) f) refl
traf_ends_left id t (trafPart.TimeFlags pos true) v f n = refl
traf_ends_left id t (trafPart.TimeFlags pos false) v f n = refl
traf_ends_left id t (trafPart.Time pos) v f n = refl

traf_begin_left : (h : Header) (f : Flow) (n : ℕ) → left_in left (begin_traf h f n) ≡ left f
unfolding begin_traf left_in
traf_begin_left h f n =
    pick_left left (is h tfhd) _ _ (left f) refl
    (pick_left left (is h tfdt) _ _ (left f) refl (skip_left (box_end h) f n nothing (trafs.Skip (box_end h))))

traf_body_left : (id : ℕ) (t : TrafPhase) (s : TrafBody) (f : Flow) (n b : ℕ) → left_in left (step_traf_body id t s f n b) ≡ left f
unfolding step_traf_body left_in
traf_body_left id t (trafs.Skip stop) f n b = skip_left stop f (suc n) nothing (trafs.Skip stop)
traf_body_left id t (trafs.Rest stop r) f n b = skip_left stop f (suc n) (traffic.headed r) (trafs.Rest stop r)
traf_body_left id t (trafs.Field p zero acc) f n b = traf_ends_left id t p (acc * 256 + b) f (suc n)
traf_body_left id t (trafs.Field p (suc m) acc) f n b = refl

traf_left : (id : ℕ) (span : Span) (s : TrafBoxes) (f : Flow) (n b : ℕ) → left_in left (step_traf id span s f n b) ≡ left f
unfolding step_traf
traf_left id span (inBoxes.Head so h) f n b =
    boxes_left (traf_boxes id span) wrap_traf so (in_head h) f n b ∙ header_left (traf_kind id span.end so) traf_begin_left h f n b
traf_left id span (inBoxes.Body so s) f n b =
    boxes_left (traf_boxes id span) wrap_traf so (in_body s) f n b ∙ body_left (traf_kind id span.end so) s f n b ∙ traf_body_left id so.track s f n b

moof_begin_left : (id : ℕ) (seen : Seen) (h : Header) (f : Flow) (n : ℕ) → left_in left (begin_moof id seen h f n) ≡ left f
unfolding begin_moof
moof_begin_left id seen h f n =
    pick_left left (is h traf) _ _ (left f)
    (pass_left left (moofs.Traf (span_of h)) seeing (begin_traf_boxes id (span_of h) seen f n) ∙ goes_on_left (traf_boxes id (span_of h)) wrap_traf (traf_next (span_of h) (traf_so0 seen) [] n) f)
    (skip_left (box_end h) f n skipped (moofs.Skip (box_end h)))

moof_body_left : (id : ℕ) (s : MoofBody) (f : Flow) (n b : ℕ) → left_in left (step_moof_body id s f n b) ≡ left f
unfolding step_moof_body
moof_body_left id (moofs.Skip stop) f n b = skip_left stop f (suc n) skipped (moofs.Skip stop)
moof_body_left id (moofs.Traf span s) f n b = pass_left left (moofs.Traf span) seeing (step_traf id span s f n b) ∙ traf_left id span s f n b

moof_left : (id end : ℕ) (s : MoofBoxes) (f : Flow) (n b : ℕ) → left_in left (step_moof id end s f n b) ≡ left f
unfolding step_moof
moof_left id end (inBoxes.Head seen h) f n b =
    boxes_left (moof_boxes id end) wrap_moof seen (in_head h) f n b ∙ header_left (moof_kind id end seen) (moof_begin_left id seen) h f n b
moof_left id end (inBoxes.Body seen s) f n b =
    boxes_left (moof_boxes id end) wrap_moof seen (in_body s) f n b ∙ body_left (moof_kind id end seen) s f n b ∙ moof_body_left id s f n b

leaf_begin_left : (id : ℕ) (seen : Seen) (h : Header) (f : Flow) (n : ℕ) → left_in left (begin_leaf id seen h f n) ≡ left f
unfolding begin_leaf
leaf_begin_left id seen h f n =
    pick_left left (is h moof) _ _ (left f)
    (pass_left left (leafs.Moof (box_end h)) seeing (begin_moof_boxes id (box_end h) seen f n) ∙ goes_on_left (moof_boxes id (box_end h)) wrap_moof (moof_next (box_end h) seen n) f)
    (skip_left (box_end h) f n skipped (leafs.Skip (box_end h)))

leaf_body_left : (id : ℕ) (s : LeafBody) (f : Flow) (n b : ℕ) → left_in left (step_leaf_body id s f n b) ≡ left f
unfolding step_leaf_body
leaf_body_left id (leafs.Skip stop) f n b = skip_left stop f (suc n) skipped (leafs.Skip stop)
leaf_body_left id (leafs.Moof end s) f n b = pass_left left (leafs.Moof end) seeing (step_moof id end s f n b) ∙ moof_left id end s f n b

pub leaf_left : (id : ℕ) (slot : Slot) (s : LeafBoxes) (f : Flow) (n b : ℕ) → left_in left (step_leaf id slot s f n b) ≡ left f
unfolding step_leaf
leaf_left id slot (inBoxes.Head so h) f n b =
    boxes_left (leaf_boxes id slot) wrap_leaf so (in_head h) f n b ∙ header_left (leaf_kind id slot so) (leaf_begin_left id so.seen) h f n b
leaf_left id slot (inBoxes.Body so s) f n b =
    boxes_left (leaf_boxes id slot) wrap_leaf so (in_body s) f n b ∙ body_left (leaf_kind id slot so) s f n b ∙ leaf_body_left id s f n b

-- In an index only a byte of an entry is stored.

-- what is left with a byte stored, if it has a place
abbrev storing : Flow → Option ℕ → ℕ → Left
storing f place b = record { leaves = f.leaves; work = stored_at f.work place b; table = f.table }

close_left : (p : Place) (span : Span) (x : IndexRead) (f : Flow) (n : ℕ) → left_in left (close_sidx p span x f n) ≡ left f
unfolding close_sidx left_in
close_left p span x f n = unless_left left (sum_faults p span x f.now n) f (done x f) refl

field_left : (p : Place) (span : Span) (i : IndexPart) (d : Draft) (v : ℕ) (f : Flow) (n : ℕ) → left_in left (field_ends p span i d v f n) ≡ left f
unfolding field_ends left_in
field_left p span part.Version d v f n = unless_left left (indexes.sidx_version_faults span v n) f _ refl
field_left p span part.Flags d v f n = refl
field_left p span part.Id d v f n = unless_left left (indexes.id_faults p span v) f _ refl
field_left p span part.Scale d v f n = unless_left left (indexes.scale_faults p span v) f _ refl
field_left p span part.Time d v f n = unless_left left (indexes.time_faults p span f.now v) f _ refl
field_left p span part.Offset d v f n = unless_left left (indexes.offset_faults p span v) f _ refl
field_left p span part.Reserved d v f n = refl
field_left p span part.Count d v f n = unless_left left (indexes.count_faults span v n) f _ refl

entry_left : (p : Place) (span : Span) (e : EntryPart) (d : Draft) (s : Sums) (v : ℕ) (f : Flow) (n : ℕ) → left_in left (entry_ends p span e d s v f n) ≡ left f
unfolding entry_ends left_in
entry_left p span entry.Size d s v f n = unless_left left (indexes.entry_size_faults span v) f _ refl
entry_left p span entry.Duration d s v f n = refl
entry_left p span entry.Sap d s v f n = pick_left left (eqb (suc s.next) s.count) _ _ (left f) (close_left p span (index_of d s) f n) refl

sidx_left : (p : Place) (span : Span) (s : Sidx) (f : Flow) (n b : ℕ) → left_in left (step_sidx p span s f n b) ≡ storing f (sidx_byte p s) b
unfolding step_sidx sidx_byte stored_at left_in
sidx_left p span (sidxs.Field i d zero acc) f n b = field_left p span i d (acc * 256 + b) f (suc n)
sidx_left p span (sidxs.Field i d (suc m) acc) f n b = refl
sidx_left p span (sidxs.Entry e d s zero acc) f n b = entry_left p span e d s (acc * 256 + b) (keep_byte p e s f 0 b) (suc n)
sidx_left p span (sidxs.Entry e d s (suc m) acc) f n b = refl

-- Up to the top index.

brands_left : (span : Span) (found : Bool) (f : Flow) (n : ℕ) → left_in left (brands_from span found f n) ≡ left f
unfolding brands_from left_in
brands_left span found f n = pick_left left (eqb n span.end) _ _ (left f) (unless_left left (unlisted span found) f (done passed f) refl) refl

styp_left : (brand : ℕ) (span : Span) (p : StypPart) (found : Bool) (v : ℕ) (f : Flow) (n : ℕ) → left_in left (styp_ends brand span p found v f n) ≡ left f
unfolding styp_ends left_in
styp_left brand span styps.Major found v f n = refl
styp_left brand span styps.Minor found v f n = brands_left span found f n
styp_left brand span styps.Brand found v f n = brands_left span (found || eqb v brand) f n

opening_begin_left : (h : Header) (f : Flow) (n : ℕ) → left_in left (begin_opening h f n) ≡ left f
unfolding begin_opening left_in
opening_begin_left h f n =
    pick_left left (is h styp) _ _ (left f) refl
    (pick_left left (is h sidx) _ _ (left f) refl (skip_left (box_end h) f n passed (openings.Skip (box_end h))))

opening_body_left : (brand : ℕ) (s : OpeningBody) (f : Flow) (n b : ℕ) → left_in left (step_opening_body brand s f n b) ≡ storing f (opening_body_byte s) b
unfolding step_opening_body opening_body_byte stored_at left_in
opening_body_left brand (openings.Skip stop) f n b = skip_left stop f (suc n) passed (openings.Skip stop)
opening_body_left brand (openings.Styp span p found zero acc) f n b = styp_left brand span p found (acc * 256 + b) f (suc n)
opening_body_left brand (openings.Styp span p found (suc m) acc) f n b = refl
opening_body_left brand (openings.Index span s) f n b = pass_left left (openings.Index span) indexed (step_sidx topmost span s f n b) ∙ sidx_left topmost span s f n b

opening_left : (brand : ℕ) (s : OpeningBoxes) (f : Flow) (n b : ℕ) → left_in left (step_opening brand s f n b) ≡ storing f (opening_byte s) b
unfolding step_opening opening_byte stored_at
opening_left brand (inBoxes.Head branded h) f n b =
    boxes_left (opening brand) wrap_opening branded (in_head h) f n b ∙ header_left (opening_kind brand branded) opening_begin_left h f n b
opening_left brand (inBoxes.Body branded s) f n b =
    boxes_left (opening brand) wrap_opening branded (in_body s) f n b ∙ body_left (opening_kind brand branded) s f n b ∙ opening_body_left brand s f n b

-- In the gap.
gap_left : (end : ℕ) (s : GapBoxes) (f : Flow) (n b : ℕ) → left_in left (step_gap end s f n b) ≡ left f
unfolding step_gap
gap_left end (gaps.Head h) f n b =
    boxes_left (gap_boxes end) wrap_gap tt (in_head h) f n b ∙ header_left (gap_kind end) (λ h' g m. skip_left (box_end h') g m tt (box_end h')) h f n b
gap_left end (gaps.Body stop) f n b =
    boxes_left (gap_boxes end) wrap_gap tt (in_body stop) f n b ∙ body_left (gap_kind end) stop f n b ∙ skip_left stop f (suc n) tt stop

-- What follows a leaf, an index or the gap leaves everything.
onward_left : (top : Top) (o : Option Levels) (f : Flow) → left_in left (onward top o f) ≡ left f
unfolding onward left_in
onward_left top none f = refl
onward_left top (some ls) f = refl

-- In an inner index.
inner_head_left : (top : Top) (ls : Levels) (slot : Slot) (h : Head) (f : Flow) (n b : ℕ) → left_in left (step_inner top ls slot (in_head h) f n b) ≡ left f
unfolding left_in
inner_head_left top ls slot h f n b =
    lift_left left _ _ bad (λ x g. onward_left top (still_open (push ls (inner_level x slot))) g) (λ x l. refl) (step_box (inner_kind top slot (depth ls)) (in_head h) f n b)
    ∙ header_left (inner_kind top slot (depth ls)) (λ h' g m. refl) h f n b

inner_body_left : (top : Top) (ls : Levels) (slot : Slot) (s : InnerBody) (f : Flow) (n b : ℕ) →
    left_in left (step_inner top ls slot (in_body s) f n b) ≡ storing f (sidx_byte (under top slot (depth ls)) s.sidx) b
unfolding left_in
inner_body_left top ls slot s f n b =
    lift_left left _ _ bad (λ x g. onward_left top (still_open (push ls (inner_level x slot))) g) (λ x l. refl) (step_box (inner_kind top slot (depth ls)) (in_body s) f n b)
    ∙ body_left (inner_kind top slot (depth ls)) s f n b
    ∙ pass_left left (λ t. record { span = s.span; sidx = t }) (λ x. x) (step_sidx (under top slot (depth ls)) s.span s.sidx f n b)
    ∙ sidx_left (under top slot (depth ls)) s.span s.sidx f n b

-- A table that stays, one with a further record, and one that grows twice.

pub grown_same : (leaves : ℕ) (table : List ℕ) → Grown leaves table leaves table
grown_same leaves table = record { more = omega arith; long = refl; before = λ j h. refl; past = λ j h. refl }

grown_one : (leaves : ℕ) (table : List ℕ) (r : Record) → Grown leaves table (suc leaves) (put_record table leaves r)
grown_one leaves table r = record {
  more = omega arith;
  long = put_length table (record_numbers * leaves) (numbers_of r);
  before = λ j h. put_before table (record_numbers * leaves) (numbers_of r) j h;
  past = λ j h. put_past table (record_numbers * leaves) (numbers_of r) j (omega arith);
}

pub grown_twice : (k : ℕ) (t : List ℕ) (k' : ℕ) (t' : List ℕ) (k'' : ℕ) (t'' : List ℕ) → Grown k t k' t' → Grown k' t' k'' t'' → Grown k t k'' t''
grown_twice k t k' t' k'' t'' g h =
    let first : k ≤ k' = g.more in
    let second : k' ≤ k'' = h.more in
    record {
      more = omega arith;
      long = h.long ∙ g.long;
      before = λ j lt. h.before j (omega arith) ∙ g.before j lt;
      past = λ j le. h.past j le ∙ g.past j (omega arith);
    }

-- What one byte leaves, stored at a place if it has one: the work area with it, and the leaf table grown.
record Framed (l : Left) (place : Option ℕ) (b : ℕ) (l' : Left) : Type 0 where
  works : l'.work ≡ stored_at l.work place b
  one : l'.leaves ≤ suc l.leaves
  grown : Grown l.leaves l.table l'.leaves l'.table

framed_storing : (f : Flow) (place : Option ℕ) (b : ℕ) (l : Left) → l ≡ storing f place b → Framed (left f) place b l
framed_storing f place b l e = rw e (record { works = refl; one = omega arith; grown = grown_same f.leaves f.table })

framed_listed : (f g : Flow) (b now first last : ℕ) (slot : Slot) → left g ≡ left f → Framed (left f) none b (left (listed g (leaf_record slot now first) slot.until last))
unfolding stored_at listed
framed_listed f g b now first last slot e =
    rw (← e) (record { works = refl; one = omega arith; grown = grown_one g.leaves g.table (leaf_record slot now first) })

-- "No record is written" for a byte that is refused: a refusal leaves the list and the leaf table.
abbrev Unlisted : Flow → Sub Stage Top Flow Left → Type 0
Unlisted f (go s g) = Unit {0}
Unlisted f (done top g) = Unit {0}
Unlisted f (bad x kept) = (kept.leaves ≡ f.leaves) × (kept.table ≡ f.table)

unlisted_storing : (f : Flow) (place : Option ℕ) (b : ℕ) (r : Sub Stage Top Flow Left) → left_in left r ≡ storing f place b → Unlisted f r
unfolding left_in
unlisted_storing f place b (go s g) e = tt
unlisted_storing f place b (done top g) e = tt
unlisted_storing f place b (bad x kept) e = (ap (λ (l : Left). l.leaves) e, ap (λ (l : Left). l.table) e)

onward_unlisted : (f : Flow) (top : Top) (o : Option Levels) (g : Flow) → Unlisted f (onward top o g)
unfolding onward
onward_unlisted f top none g = tt
onward_unlisted f top (some ls) g = tt

-- What an answer to one byte leaves, and that a refusal lists nothing.
abbrev Frames : Flow → Option ℕ → ℕ → Sub Stage Top Flow Left → Type 0
Frames f place b r = Framed (left f) place b (left_in left r) × Unlisted f r

frames_storing : (f : Flow) (place : Option ℕ) (b : ℕ) (r : Sub Stage Top Flow Left) → left_in left r ≡ storing f place b → Frames f place b r
frames_storing f place b r e = (framed_storing f place b (left_in left r) e, unlisted_storing f place b r e)

frames_none : (f : Flow) (b : ℕ) (r : Sub Stage Top Flow Left) → left_in left r ≡ left f → Frames f none b r
unfolding stored_at
frames_none f b r e = frames_storing f none b r e

-- A byte of a leaf: its record is written at its last byte.

listing_frames : (top : Top) (ls : Levels) (slot : Slot) (f : Flow) (b : ℕ) (r : Sub LeafBoxes Seen Flow Left) → left_in left r ≡ left f → Frames f none b (lift_leaf top ls slot r)
unfolding lift left_in
listing_frames top ls slot f b (go s g) e = frames_none f b (go (stage.Leaf top ls slot s) g) e
listing_frames top ls slot f b (done seen g) e =
    let g' = listed g (leaf_record slot g.now seen.first) slot.until seen.last in
    (rw (onward_left top (still_open ls) g') (framed_listed f g b g.now seen.first seen.last slot e), onward_unlisted f top (still_open ls) g')
listing_frames top ls slot f b (bad x kept) e = frames_none f b (bad x kept) e

leaf_frames : (top : Top) (ls : Levels) (slot : Slot) (s : LeafBoxes) (f : Flow) (n b : ℕ) → Frames f none b (step_in_leaf top ls slot s f n b)
leaf_frames top ls slot s f n b = listing_frames top ls slot f b (step_leaf top.id slot s f n b) (leaf_left top.id slot s f n b)

-- An entry at its first byte.

slot_frames : (top : Top) (ls : Levels) (inner : Bool) (slot : Slot) (f : Flow) (n b : ℕ) → Frames f none b (step_slot top ls inner slot f n b)
unfolding step_slot
slot_frames top ls true slot f n b = frames_none f b _ (inner_head_left top ls slot at.First f n b)
slot_frames top ls false slot f n b = leaf_frames top ls slot (inBoxes.Head (leaf_so0 f.last) at.First) f n b

frames_unless : (xs : List Refusal) (f : Flow) (b : ℕ) (r : Sub Stage Top Flow Left) → Frames f none b r → Frames f none b (unless xs (λ x. bad x (left f)) r)
unfolding unless left_in
frames_unless [] f b r h = h
frames_unless (x ∷ xs) f b r h = frames_none f b (bad (lowest x xs) (left f)) refl

index_ends_left : (x : IndexRead) (f : Flow) (n : ℕ) → left_in left (index_ends x f n) ≡ left f
unfolding index_ends left_in
index_ends_left x f n = pick_left left (eqb x.offset 0) _ _ (left f) (onward_left (top_of x) (still_open (levels.One (top_level x n))) (with_now f x.time)) refl

opening_stage_left : (brand : ℕ) (s : OpeningBoxes) (f : Flow) (n b : ℕ) → left_in left (step_stage (stage.Opening brand s) f n b) ≡ storing f (opening_byte s) b
unfolding step_stage left_in
opening_stage_left brand s f n b =
    lift_left left (stage.Opening brand) (λ x g. index_ends x g (suc n)) bad (λ x g. index_ends_left x g (suc n)) (λ x l. refl) (step_opening brand s f n b)
    ∙ opening_left brand s f n b

gap_stage_left : (top : Top) (l : Level) (end : ℕ) (s : GapBoxes) (f : Flow) (n b : ℕ) → left_in left (step_stage (stage.Gap top l end s) f n b) ≡ left f
unfolding step_stage left_in
gap_stage_left top l end s f n b =
    lift_left left (stage.Gap top l end) (λ u g. follow top (levels.One l) g) bad (λ u g. onward_left top (still_open (levels.One l)) g) (λ x k. refl) (step_gap end s f n b) ∙ gap_left end s f n b

-- A byte of a stage.
stage_frames : (s : Stage) (f : Flow) (n b : ℕ) → Frames f (stage_byte s) b (step_stage s f n b)
unfolding step_stage stage_byte step_entry
stage_frames (stage.Opening brand s) f n b = frames_storing f (opening_byte s) b _ (opening_stage_left brand s f n b)
stage_frames (stage.Gap top l end s) f n b = frames_none f b _ (gap_stage_left top l end s f n b)
stage_frames (stage.Entry top ls) f n b =
    let e : StoredEntry = entry_at f.work (entry_place ls) in
    frames_unless (entry_faults (inmost ls) e f.now n) f b _ (slot_frames top (took_entry ls) e.inner (slot_of e f.now n) f n b)
stage_frames (stage.Leaf top ls slot s) f n b = leaf_frames top ls slot s f n b
stage_frames (stage.Inner top ls slot (inners.Head h)) f n b = frames_none f b _ (inner_head_left top ls slot h f n b)
stage_frames (stage.Inner top ls slot (inners.Body span s)) f n b =
    frames_storing f (sidx_byte (under top slot (depth ls)) s) b _ (inner_body_left top ls slot (record { span = span; sidx = s }) f n b)

-- A byte of a reading.

-- what is left of a reading
abbrev left_world : World → Left
left_world w = record { leaves = leaves_of w; work = work_of w; table = table_of w }

settle_left : (n : ℕ) (r : Sub Stage Top Flow Left) → left_world (settle n r) ≡ left_in left r
unfolding settle left_in leaves_of work_of table_of
settle_left n (go s f) = refl
settle_left n (done top f) = refl
settle_left n (bad x kept) = refl

limit_framed : (t : Bool) (n : ℕ) (s : Stage) (f : Flow) (b : ℕ) →
    Framed (left f) (stage_byte s) b (left_world (unless (shows t 3 limit) (λ x. refused (suc n) (over_limit s f n x) (left_over s f b)) (settle (suc n) (step_stage s f n b))))
unfolding shows unless leaves_of work_of table_of
limit_framed true n s f b = framed_storing f (stage_byte s) b (left_over s f b) refl
limit_framed false n s f b = rw (settle_left (suc n) (step_stage s f n b)) (stage_frames s f n b).0

step_framed : (w : World) (b : ℕ) → Framed (left_world w) (entry_byte w) b (left_world (step w b))
unfolding step entry_byte leaves_of work_of table_of stored_at
step_framed (reading n s f) b = limit_framed (eqb n limit) n s f b
step_framed (ended n top kept) b = record { works = refl; one = omega arith; grown = grown_same kept.leaves kept.table }
step_framed (refused n x kept) b = record { works = refl; one = omega arith; grown = grown_same kept.leaves kept.table }

-- a byte is stored at its place, if it has one, and the rest of the work area stays
pub work_step : (w : World) (b : ℕ) → work_of (step w b) ≡ stored_at (work_of w) (entry_byte w) b
work_step w b = (step_framed w b).works

-- of the leaf table at most records after those listed change, and no more than are listed then
pub table_step : (w : World) (b : ℕ) → Grown (leaves_of w) (table_of w) (leaves_of (step w b)) (table_of (step w b))
table_step w b = (step_framed w b).grown

-- a byte lists one leaf at the most
pub leaves_step : (w : World) (b : ℕ) → leaves_of (step w b) ≤ suc (leaves_of w)
leaves_step w b = (step_framed w b).one

-- "No record is written" for a byte that is refused.

settle_unlisted : (f : Flow) (n : ℕ) (r : Sub Stage Top Flow Left) → Unlisted f r → (m : ℕ) (x : Refusal) (kept : Left) → settle n r ≡ refused m x kept →
    (kept.leaves ≡ f.leaves) × (kept.table ≡ f.table)
unfolding settle
settle_unlisted f n (go s g) h m x kept e = let z : ◌≡◌ {A = ℕ} 0 1 = cc in absurd (omega arith)
settle_unlisted f n (done top g) h m x kept e = let z : ◌≡◌ {A = ℕ} 0 1 = cc in absurd (omega arith)
settle_unlisted f n (bad y l) h m x kept e = let same : l ≡ kept = cc in rw (← same) h

limit_unlisted : (t : Bool) (n : ℕ) (s : Stage) (f : Flow) (b m : ℕ) (x : Refusal) (kept : Left) →
    unless (shows t 3 limit) (λ y. refused (suc n) (over_limit s f n y) (left_over s f b)) (settle (suc n) (step_stage s f n b)) ≡ refused m x kept →
    (kept.leaves ≡ f.leaves) × (kept.table ≡ f.table)
unfolding shows unless
limit_unlisted true n s f b m x kept e = let same : left_over s f b ≡ kept = cc in rw (← same) (refl, refl)
limit_unlisted false n s f b m x kept e = settle_unlisted f (suc n) (step_stage s f n b) (stage_frames s f n b).1 m x kept e

-- a byte that is refused lists no leaf and changes nothing of the leaf table
pub refused_step : (w : World) (b n : ℕ) (x : Refusal) (kept : Left) → step w b ≡ refused n x kept → (kept.leaves ≡ leaves_of w) × (kept.table ≡ table_of w)
unfolding step leaves_of table_of
refused_step (reading n s f) b m x kept e = limit_unlisted (eqb n limit) n s f b m x kept e
refused_step (ended n top l) b m x kept e = let same : l ≡ kept = cc in rw (← same) (refl, refl)
refused_step (refused n y l) b m x kept e = let same : l ≡ kept = cc in rw (← same) (refl, refl)

-- neither buffer changes its length
stored_length : (work : List ℕ) (place : Option ℕ) (b : ℕ) → length (stored_at work place b) ≡ length work
unfolding stored_at
stored_length work none b = refl
stored_length work (some i) b = length-set work i b

pub work_length : (w : World) (b : ℕ) → length (work_of (step w b)) ≡ length (work_of w)
work_length w b = ap length (work_step w b) ∙ stored_length (work_of w) (entry_byte w) b

pub table_length : (w : World) (b : ℕ) → length (table_of (step w b)) ≡ length (table_of w)
table_length w b = (table_step w b).long

-- a place that the byte is not stored at stays
stored_other : (work : List ℕ) (place : Option ℕ) (b i : ℕ) → place ≢ some i → get_or (stored_at work place b) i 0 ≡ get_or work i 0
unfolding stored_at
stored_other work none b i h = refl
stored_other work (some j) b i h = get_or-set_other work j i b 0 (λ e. h (ap some (sym e)))

pub work_other : (w : World) (b i : ℕ) → entry_byte w ≢ some i → get_or (work_of (step w b)) i 0 ≡ get_or (work_of w) i 0
work_other w b i h = ap (λ (l : List ℕ). get_or l i 0) (work_step w b) ∙ stored_other (work_of w) (entry_byte w) b i h

-- Run: many bytes.

pub work_length_run : (bs : List ℕ) (w : World) → length (work_of (step_all w bs)) ≡ length (work_of w)
unfolding step_all
work_length_run [] w = refl
work_length_run (b ∷ bs) w = work_length_run bs (step w b) ∙ work_length w b

-- each byte is stored at its place, if it has one
pub work_run : (bs : List ℕ) (w : World) → work_of (step_all w bs) ≡ stored_from w bs (work_of w)
unfolding step_all stored_from
work_run [] w = refl
work_run (b ∷ bs) w = work_run bs (step w b) ∙ ap (stored_from (step w b) bs) (work_step w b)

-- and where none is stored a place stays
pub spared_run : (bs : List ℕ) (w : World) (i : ℕ) → Spared w bs i → get_or (work_of (step_all w bs)) i 0 ≡ get_or (work_of w) i 0
unfolding step_all
spared_run [] w i h = refl
spared_run (b ∷ bs) w i h = spared_run bs (step w b) i h.1 ∙ work_other w b i h.0

pub table_run : (bs : List ℕ) (w : World) → Grown (leaves_of w) (table_of w) (leaves_of (step_all w bs)) (table_of (step_all w bs))
unfolding step_all
table_run [] w = grown_same (leaves_of w) (table_of w)
table_run (b ∷ bs) w = grown_twice (leaves_of w) (table_of w) _ _ _ _ (table_step w b) (table_run bs (step w b))

pub table_length_run : (bs : List ℕ) (w : World) → length (table_of (step_all w bs)) ≡ length (table_of w)
table_length_run bs w = (table_run bs w).long

-- Feed.

leaves_of_lem : (w : World) → leaves_held (state_of w) ≡ leaves_of w
unfolding leaves_held state_of leaves_of
leaves_of_lem (reading n s f) = refl
leaves_of_lem (ended n top kept) = refl
leaves_of_lem (refused n x kept) = refl

-- what a feed leaves, stated of a state's reading and of the buffers
record Framing (s : State) (piece work table : List ℕ) (o : Out (Result ℕ Refusal)) : Type 0 where
  work_long : length o.work ≡ length work
  spared : (i : ℕ) → ((w : World) → world_of s work table ≡ some w → Spared w piece i) → get_or o.work i 0 ≡ get_or work i 0
  grown : Grown (leaves_held s) table (leaves_held o.state) o.table

framing_same : (s : State) (piece work table : List ℕ) (a : Result ℕ Refusal) → Framing s piece work table (out a s work table)
framing_same s piece work table a = record { work_long = refl; spared = λ i h. refl; grown = grown_same (leaves_held s) table }

framing_run : (s : State) (piece work table : List ℕ) (w : World) → world_of s work table ≡ some w → work_of w ≡ work → table_of w ≡ table → leaves_of w ≡ leaves_held s →
    Framing s piece work table (fed (step_all w piece))
framing_run s piece work table w e p q r =
    record {
      work_long = work_length_run piece w ∙ ap length p;
      spared = λ i h. spared_run piece w i (h w e) ∙ ap (λ (l : List ℕ). get_or l i 0) p;
      grown = rw (← q, ← r, leaves_of_lem (step_all w piece)) (table_run piece w);
    }

state_framing : (s : State) (piece work table : List ℕ) → Framing s piece work table (feed_state s piece work table)
unfolding feed_state world_of work_of table_of leaves_of leaves_held
state_framing (state.Reading n leaves now last s) piece work table =
    framing_run (state.Reading n leaves now last s) piece work table (reading n s (flow_of leaves now last work table)) refl refl refl refl
state_framing (state.Ended n leaves top) piece work table =
    framing_run (state.Ended n leaves top) piece work table (ended n top (left_of leaves work table)) refl refl refl refl
state_framing (state.Refused n leaves x) piece work table = framing_same (state.Refused n leaves x) piece work table (Err x)
state_framing (state.Accepted n leaves top) piece work table = framing_same (state.Accepted n leaves top) piece work table (Err (refusal 22 0))

pick_framing : (s : State) (piece work table : List ℕ) (t : Bool) (o p : Out (Result ℕ Refusal)) → Framing s piece work table o → Framing s piece work table p → Framing s piece work table (pick t o p)
unfolding pick
pick_framing s piece work table true o p f g = f
pick_framing s piece work table false o p f g = g

feed_framing : (s : State) (piece work table : List ℕ) → Framing s piece work table (feed_of s piece work table)
unfolding feed_of
feed_framing s piece work table =
    pick_framing s piece work table (ltb (length work) work_bytes) _ _ (framing_same s piece work table (Err (refusal 1 0)))
    (pick_framing s piece work table (in_range s) _ _ (state_framing s piece work table) (framing_same s piece work table (Err (refusal 2 0))))

-- a feed leaves both buffers as long as they were
pub feed_work_length : (s : State) (piece work table : List ℕ) → length (feed_of s piece work table).work ≡ length work
feed_work_length s piece work table = (feed_framing s piece work table).work_long

pub feed_table_length : (s : State) (piece work table : List ℕ) → length (feed_of s piece work table).table ≡ length table
feed_table_length s piece work table = (feed_framing s piece work table).grown.long

-- a place of the work area that no byte of the piece is stored at stays
pub feed_spared : (s : State) (piece work table : List ℕ) (i : ℕ) → ((w : World) → world_of s work table ≡ some w → Spared w piece i) →
    get_or (feed_of s piece work table).work i 0 ≡ get_or work i 0
feed_spared s piece work table i h = (feed_framing s piece work table).spared i h

-- records listed before stay, and so do those past the ones listed after
pub feed_table : (s : State) (piece work table : List ℕ) → Grown (leaves_held s) table (leaves_held (feed_of s piece work table).state) (feed_of s piece work table).table
feed_table s piece work table = (feed_framing s piece work table).grown
