-- The segment: the boxes up to the top index, the gap, and what the entries cover.
use Rattle.std.specs.Prelude.{ℕ, suc, ◌+◌, ◌-◌, [], Bool, true, false, eqb, leb}
use Rattle.std.proofs.Math.Option.{Option, some, none}
use Rattle.basics.specs.Choose.{pick}
use Rattle.machine.specs.Faults.{unless}
use Rattle.machine.specs.Run.{Sub, go, done, bad, lift}
use Rattle.machine.specs.Heads.{box_end}
use Rattle.machine.specs.Lists.{BoxPhase, in_head, in_body, Kind, step_box, Next, again, over, Boxes, step_boxes}
use Rattle.machine.specs.declared.Header.{Header}
use Rattle.table.specs.declared.Record.{Record}
use Rattle.machine.specs.declared.Head.TheVariants as at
use Rattle.state.specs.declared.Span.{Span}
use Rattle.state.specs.declared.Top.{Top}
use Rattle.state.specs.declared.Level.{Level}
use Rattle.state.specs.declared.Levels.{Levels}
use Rattle.state.specs.declared.Levels.TheVariants as levels
use Rattle.state.specs.declared.Seen.{Seen}
use Rattle.state.specs.declared.Slot.{Slot}
use Rattle.state.specs.declared.IndexRead.{IndexRead}
use Rattle.state.specs.declared.Sidx.{Sidx}
use Rattle.machine.specs.declared.BoxesSo.TheVariants as inBoxes
use Rattle.state.specs.declared.GapBoxes.{GapBoxes}
use Rattle.state.specs.declared.GapBoxes.TheVariants as gaps
use Rattle.state.specs.declared.InnerBox.{InnerBox}
use Rattle.state.specs.declared.InnerBox.TheVariants as inners
use Rattle.state.specs.Boxed.{LeafBoxes}
use Rattle.state.specs.declared.Stage.{Stage}
use Rattle.state.specs.declared.Stage.TheVariants as stage
use Rattle.state.specs.Flow.{Flow, Left, left, with_now, listed}
use Rattle.state.specs.Rows.{gap_faults, inner_faults}
use Rattle.state.specs.Opening.{span_of, step_opening}
use Rattle.state.specs.Sidx.{under, sidx_start, step_sidx}
use Rattle.state.specs.Leaf.{leaf_so0, step_leaf}
use Rattle.state.specs.Levels.{entry_at, entry_place, inmost, depth, took_entry, push, still_open, entry_faults, slot_of}
use Rattle.state.specs.declared.StoredEntry.{StoredEntry}

abbrev Sub' : Type 0
Sub' = Sub Stage Top Flow Left

-- Rule 1: only skipped boxes stand in the gap.
abbrev pub skip_gap : ℕ → Flow → ℕ → Sub ℕ (Unit {0}) Flow Left
skip_gap stop f n = pick (leb stop n) (done tt f) (go stop f)

abbrev pub gap_kind : ℕ → Kind ℕ (Unit {0}) Flow Left
gap_kind end =
    record { left = left; end = end; shown = λ h f. gap_faults h; begin = λ h f n. skip_gap (box_end h) f n; body = λ stop f n b. skip_gap stop f (suc n) }

unfoldable pub gap_next : ℕ → ℕ → Next (Unit {0}) (Unit {0})
gap_next end n = pick (eqb n end) (over tt []) (again tt [])

abbrev pub gap_boxes : ℕ → Boxes (Unit {0}) ℕ (Unit {0}) (Unit {0}) Flow Left
gap_boxes end = record { kept = left; box = λ u. gap_kind end; close = λ u r f n. gap_next end n; beside = λ u kept n. [] }

abbrev pub wrap_gap : Unit {0} → BoxPhase ℕ → GapBoxes
wrap_gap u (in_head h) = gaps.Head h
wrap_gap u (in_body stop) = gaps.Body stop

unfoldable pub step_gap : ℕ → GapBoxes → Flow → ℕ → ℕ → Sub GapBoxes (Unit {0}) Flow Left
step_gap end (gaps.Head h) f n b = step_boxes (gap_boxes end) wrap_gap tt (in_head h) f n b
step_gap end (gaps.Body stop) f n b = step_boxes (gap_boxes end) wrap_gap tt (in_body stop) f n b

-- The indexes that still have an entry to come, or the end of the material.
unfoldable pub onward : Top → Option Levels → Flow → Sub'
onward top none f = done top f
onward top (some ls) f = go (stage.Entry top ls) f

-- what follows a leaf, an index or the gap
abbrev pub follow : Top → Levels → Flow → Sub'
follow top ls f = onward top (still_open ls) f

-- What the top index says of the segment; where and when its material ends, when the box of the index ends with byte n.
abbrev pub top_of : IndexRead → Top
top_of x = record { id = x.id; scale = x.scale; start = x.time; durations = x.durations }

abbrev pub top_level : IndexRead → ℕ → Level
top_level x n = record { next = 0; count = x.count; end = n + x.offset + x.sizes; until = x.time + x.durations }

-- "The material starts at the end of the top index plus its first offset."
unfoldable pub index_ends : IndexRead → Flow → ℕ → Sub'
index_ends x f n =
    pick (eqb x.offset 0)
    (follow (top_of x) (levels.One (top_level x n)) (with_now f x.time))
    (go (stage.Gap (top_of x) (top_level x n) (n + x.offset) (gaps.Head at.First)) (with_now f x.time))

-- The first box of an index entry: an inner index, with the entry's size and duration to fill.
pub record InnerBody : Type 0 where
  pub span : Span
  pub sidx : Sidx

abbrev pub lift_sidx : Span → Sub Sidx IndexRead Flow Left → Sub InnerBody IndexRead Flow Left
lift_sidx span r = lift (λ s. record { span = span; sidx = s }) done bad r

abbrev pub begin_inner : Header → Flow → ℕ → Sub InnerBody IndexRead Flow Left
begin_inner h f n = go (record { span = span_of h; sidx = sidx_start }) f

abbrev pub inner_kind : Top → Slot → ℕ → Kind InnerBody IndexRead Flow Left
inner_kind top slot around =
    record {
      left = left;
      end = slot.end;
      shown = λ h f. inner_faults around h;
      begin = begin_inner;
      body = λ s f n b. lift_sidx s.span (step_sidx (under top slot around) s.span s.sidx f n b);
    }

abbrev pub wrap_inner : BoxPhase InnerBody → InnerBox
wrap_inner (in_head h) = inners.Head h
wrap_inner (in_body s) = inners.Body s.span s.sidx

abbrev pub inner_level : IndexRead → Slot → Level
inner_level x slot = record { next = 0; count = x.count; end = slot.end; until = slot.until }

-- after an inner index its entries follow, on the next level
abbrev pub lift_inner : Top → Levels → Slot → Sub (BoxPhase InnerBody) IndexRead Flow Left → Sub'
lift_inner top ls slot r =
    lift (λ s. stage.Inner top ls slot (wrap_inner s)) (λ x f. follow top (push ls (inner_level x slot)) f) bad r

abbrev pub step_inner : Top → Levels → Slot → BoxPhase InnerBody → Flow → ℕ → ℕ → Sub'
step_inner top ls slot s f n b = lift_inner top ls slot (step_box (inner_kind top slot (depth ls)) s f n b)

-- the record of a leaf in its slot that starts at `now`, with its first decode time of the reference track
abbrev pub leaf_record : Slot → ℕ → ℕ → Record
leaf_record slot now first =
    record { position = slot.pos; size = slot.end - slot.pos; start = now; duration = slot.until - now; sap = slot.sap; time = first }

abbrev pub lift_leaf : Top → Levels → Slot → Sub LeafBoxes Seen Flow Left → Sub'
lift_leaf top ls slot r =
    lift (stage.Leaf top ls slot) (λ seen f. follow top ls (listed f (leaf_record slot f.now seen.first) slot.until seen.last)) bad r

abbrev pub step_in_leaf : Top → Levels → Slot → LeafBoxes → Flow → ℕ → ℕ → Sub'
step_in_leaf top ls slot s f n b = lift_leaf top ls slot (step_leaf top.id slot s f n b)

-- an entry, at its first byte: type 0 is a leaf, type 1 covers an inner index
unfoldable pub step_slot : Top → Levels → Bool → Slot → Flow → ℕ → ℕ → Sub'
step_slot top ls true slot f n b = step_inner top ls slot (in_head at.First) f n b
step_slot top ls false slot f n b = step_in_leaf top ls slot (inBoxes.Head (leaf_so0 f.last) at.First) f n b

-- "An entry is read back from the work area when its first byte comes."
unfoldable pub step_entry : Top → Levels → StoredEntry → Flow → ℕ → ℕ → Sub'
step_entry top ls e f n b =
    unless (entry_faults (inmost ls) e f.now n) (λ x. bad x (left f)) (step_slot top (took_entry ls) e.inner (slot_of e f.now n) f n b)

-- one byte, by where the reading stands
unfoldable pub step_stage : Stage → Flow → ℕ → ℕ → Sub'
step_stage (stage.Opening brand s) f n b = lift (stage.Opening brand) (λ x g. index_ends x g (suc n)) bad (step_opening brand s f n b)
step_stage (stage.Gap top l end s) f n b = lift (stage.Gap top l end) (λ u g. follow top (levels.One l) g) bad (step_gap end s f n b)
step_stage (stage.Entry top ls) f n b = step_entry top ls (entry_at f.work (entry_place ls)) f n b
step_stage (stage.Leaf top ls slot s) f n b = step_in_leaf top ls slot s f n b
step_stage (stage.Inner top ls slot (inners.Head h)) f n b = step_inner top ls slot (in_head h) f n b
step_stage (stage.Inner top ls slot (inners.Body span s)) f n b = step_inner top ls slot (in_body (record { span = span; sidx = s })) f n b
