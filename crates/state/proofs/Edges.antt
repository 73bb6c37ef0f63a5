-- What the byte definition says where a slip is likely: when the time line starts, where the material starts and ends, what a leaf's
-- record says, which sums are compared and how, and which of two faults of one byte is given.
use Prim.Native.Nat.{ℕ, ◌+◌, ◌-◌, ◌*◌, ◌≤◌, ◌<◌}
use mathlib.Core.Path.{◌≡◌, refl}
use mathlib.Core.List.{[]}
use mathlib.Core.Option.{Option, none}
use mathlib.Core.Bool.{Bool, true, not, ◌&&◌, ◌||◌}
use native.Mathlib.Omega.{arith}
use lib.Dec.{eqb, ltb, leb}
use borrow.Author.Tests.{ltb-false, leb-false, eqb-true, not-false, ne_eqb, lt-ltb}
use Rattle.basics.proofs.Picks.{pick_if}
use Rattle.basics.proofs.Tests.{and_both, or_neither}
use Rattle.segment.specs.Constants.{limit, time_limit, entry_bytes}
use Rattle.machine.specs.Faults.{refusal, shows, lowest, unless}
use Rattle.machine.specs.Run.{Sub, go, done, bad}
use Rattle.machine.specs.Lists.{Next, go_on}
use Rattle.machine.proofs.Faults.{shows_none}
use Rattle.state.specs.declared.Span.{Span}
use Rattle.state.specs.declared.Slot.{Slot}
use Rattle.state.specs.declared.Top.{Top}
use Rattle.state.specs.declared.IndexRead.{IndexRead}
use Rattle.state.specs.declared.Levels.{Levels}
use Rattle.state.specs.declared.Draft.{Draft}
use Rattle.state.specs.declared.IndexPart.TheVariants as part
use Rattle.state.specs.declared.Seen.{Seen}
use Rattle.state.specs.declared.TrafSo.{TrafSo}
use Rattle.state.specs.declared.Stage.{Stage}
use Rattle.state.specs.declared.Stage.TheVariants as stage
use Rattle.state.specs.Flow.{Flow, Left, left, with_now}
use Rattle.state.specs.Sidx.{Place, topmost, under, count_faults, sum_faults, field_ends}
use Rattle.state.specs.Traf.{timed, fall_faults, traf_now, lacking, traf_next, traf_boxes, wrap_traf}
use Rattle.state.specs.Levels.{inmost, still_one, still_open, slot_of}
use Rattle.state.specs.declared.StoredEntry.{StoredEntry}
use Rattle.state.specs.Stages.{onward, top_of, index_ends, leaf_record}
use Rattle.state.proofs.BoxLengths.{six_before}

-- After the top index: the time at which the next entry starts, and where the material starts and ends, when the index ended at `n`.
abbrev pub now_of : Sub Stage Top Flow Left → ℕ
now_of (go s f) = f.now
now_of (done top f) = f.now
now_of (bad x kept) = 0

abbrev pub opens_at : ℕ → Stage → ℕ
opens_at n (stage.Opening brand s) = n
opens_at n (stage.Gap top l end s) = end
opens_at n (stage.Entry top ls) = n
opens_at n (stage.Leaf top ls slot s) = n
opens_at n (stage.Inner top ls slot s) = n

abbrev pub ends_at : ℕ → Stage → ℕ
ends_at n (stage.Opening brand s) = n
ends_at n (stage.Gap top l end s) = l.end
ends_at n (stage.Entry top ls) = (inmost ls).end
ends_at n (stage.Leaf top ls slot s) = (inmost ls).end
ends_at n (stage.Inner top ls slot s) = (inmost ls).end

abbrev pub stage_of : (ℕ → Stage → ℕ) → ℕ → Sub Stage Top Flow Left → ℕ
stage_of what n (go s f) = what n s
stage_of what n (done top f) = n
stage_of what n (bad x kept) = n

-- What a state keeps of the top index: its reference ID, its timescale, its start and the sum of its durations.
pub top_kept : (x : IndexRead) → top_of x ≡ record { id = x.id; scale = x.scale; start = x.time; durations = x.durations }
top_kept x = refl

-- Rule 7: the first leaf starts at the top index's earliest presentation time.
pub time_line_starts : (x : IndexRead) (f : Flow) (n : ℕ) → now_of (index_ends x f n) ≡ x.time
unfolding index_ends still_open still_one onward
time_line_starts x f n =
    pick_if (eqb x.offset 0) now_of _ _ x.time
    (λ e. pick_if (eqb 0 x.count) (λ (o : Option Levels). now_of (onward (top_of x) o (with_now f x.time))) none _ x.time (λ c. refl) (λ c. refl))
    (λ e. refl)

-- Rule 2: the material starts at the end of the top index plus its first offset, and is as long as the sum of its entry sizes.
pub material_starts : (x : IndexRead) (f : Flow) (n : ℕ) → stage_of opens_at n (index_ends x f n) ≡ n + x.offset
unfolding index_ends still_open still_one onward
material_starts x f n =
    pick_if (eqb x.offset 0) (stage_of opens_at n) _ _ (n + x.offset)
    (λ e.
    let none_between = eqb-true x.offset 0 e in
    let at_once : n ≡ n + x.offset = omega arith in
    pick_if (eqb 0 x.count) (λ (o : Option Levels). stage_of opens_at n (onward (top_of x) o (with_now f x.time))) none _ (n + x.offset) (λ c. at_once) (λ c. at_once))
    (λ e. refl)

pub material_ends : (x : IndexRead) (f : Flow) (n : ℕ) → (0 ≡ x.count → ⊥) → stage_of ends_at n (index_ends x f n) ≡ n + x.offset + x.sizes
unfolding index_ends still_open still_one onward inmost
material_ends x f n some-entry =
    pick_if (eqb x.offset 0) (stage_of ends_at n) _ _ (n + x.offset + x.sizes)
    (λ e.
    pick_if (eqb 0 x.count) (λ (o : Option Levels). stage_of ends_at n (onward (top_of x) o (with_now f x.time))) none _ (n + x.offset + x.sizes)
    (λ c. absurd (some-entry (eqb-true 0 x.count c))) (λ c. refl))
    (λ e. refl)

-- The record of a leaf whose first byte is byte `n`, when the time line stands at `now`: that place and that time, and the rest as its
-- entry says.
pub leaf_record_lem : (e : StoredEntry) (now n first : ℕ) → leaf_record (slot_of e now n) now first ≡
    record { position = n; size = e.size; start = now; duration = e.duration; sap = e.sap; time = first }
leaf_record_lem e now n first =
    let size : n + e.size - n ≡ e.size = omega arith in
    let duration : now + e.duration - now ≡ e.duration = omega arith in
    rw (size, duration)

-- Rule 4: an inner index that shows no fault at its end has exactly the sums that its entry says.
pub inner_sums : (top : Top) (slot : Slot) (depth : ℕ) (span : Span) (x : IndexRead) (now n : ℕ) → sum_faults (under top slot depth) span x now n ≡ [] →
    (n + x.sizes ≡ slot.end) × (now + x.durations ≡ slot.until)
unfolding sum_faults
inner_sums top slot depth span x now n e =
    let sizes : Bool = eqb (n + x.sizes) slot.end in
    let durations : Bool = eqb (now + x.durations) slot.until in
    let (whole, through) = and_both sizes durations (not-false (sizes && durations) (shows_none (not (sizes && durations)) 12 span.pos e)) in
    (eqb-true _ _ whole, eqb-true _ _ through)

-- Row 14: a top index that shows no fault at its end has exact sums within both limits.
pub top_sums : (span : Span) (x : IndexRead) (now n : ℕ) → sum_faults topmost span x now n ≡ [] →
    (n + x.offset + x.sizes ≤ limit) × (x.time + x.durations < time_limit)
unfolding sum_faults
top_sums span x now n e =
    let long : Bool = ltb limit (n + x.offset + x.sizes) in
    let late : Bool = leb time_limit (x.time + x.durations) in
    let (within, before) = or_neither long late (shows_none (long || late) 14 span.pos e) in
    (ltb-false _ _ within, leb-false _ _ before)

-- 6 before 11: a count that the length of the box does not fit gives 6, whatever the count.
pub length_before_count : (p : Place) (span : Span) (d : Draft) (v : ℕ) (f : Flow) (n : ℕ) → (span.end ≡ n + entry_bytes * v → ⊥) →
    field_ends p span part.Count d v f n ≡ bad (refusal 6 span.pos) (left f)
unfolding field_ends count_faults
length_before_count p span d v f n misfit =
    rw (ne_eqb span.end (n + entry_bytes * v) misfit) (six_before _ _ _ _ _ _ (omega arith))

-- 18 and nothing else: a decode time of the reference track that falls at the end of its `tfdt` is no fault of a `traf` that ends there.
pub fall_alone : (id : ℕ) (span : Span) (so : TrafSo) (pos v : ℕ) (f : Flow) (n : ℕ) → v < so.seen.last →
    go_on (traf_boxes id span) wrap_traf ((traf_boxes id span).close so (timed true pos v) f n) f ≡ bad (refusal 18 pos) (left f)
unfolding go_on traf_next traf_now fall_faults lacking shows unless lowest
fall_alone id span so pos v f n falls =
    rw (lt-ltb v so.seen.last falls) (pick_if (eqb n span.end) (λ (x : Next TrafSo Seen). go_on (traf_boxes id span) wrap_traf x f) _ _ _ (λ e. refl) (λ e. refl))
