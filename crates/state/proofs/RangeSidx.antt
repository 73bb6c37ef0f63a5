-- The ranges in an index box: its numbers, its entries, and what is known of an index that was read whole.
use Prim.Native.Nat.{ℕ, zero, suc, ◌+◌, ◌*◌, ◌^◌, ◌≤◌, ◌<◌}
use mathlib.Core.Path.{◌≡◌}
use mathlib.Core.List.{List, [], ◌∷◌, ◌++◌}
use mathlib.Core.Bool.{not}
use native.Mathlib.Omega.{arith}
use lib.Dec.{eqb, ltb, leb}
use borrow.Author.Tests.{ltb-false, leb-false, eqb-false}
use Rattle.basics.proofs.Picks.{pick_holds}
use Rattle.basics.proofs.Tests.{or_neither}
use Rattle.segment.specs.Constants.{limit, time_limit, entry_bytes, most_entries}
use Rattle.machine.specs.Faults.{shows}
use Rattle.machine.proofs.Kept.{Each, each_none}
use Rattle.machine.proofs.Faults.{shows_none, none_first, none_second}
use Rattle.state.specs.declared.Span.{Span}
use Rattle.state.specs.declared.Draft.{Draft}
use Rattle.state.specs.declared.Sums.{Sums}
use Rattle.state.specs.declared.IndexRead.{IndexRead}
use Rattle.state.specs.declared.IndexPart.{IndexPart}
use Rattle.state.specs.declared.IndexPart.TheVariants as part
use Rattle.state.specs.declared.EntryPart.{EntryPart}
use Rattle.state.specs.declared.EntryPart.TheVariants as entry
use Rattle.state.specs.declared.Sidx.{Sidx}
use Rattle.state.specs.declared.Sidx.TheVariants as sidx
use Rattle.state.specs.Flow.{Flow, left}
use Rattle.state.specs.Sidx.{Place, topmost, under, sidx_start, sidx_version_faults, id_faults, scale_faults, time_faults, offset_faults, count_faults, sum_faults, wide_more, index_of, close_sidx}
use Rattle.state.specs.Sidx.{field_ends, entry_size_faults, entry_ends, keep_byte, step_sidx}
use Rattle.state.specs.Ranges.{Bound, at_most, below, Within, spelled_bounds, index_most, scale_least, draft_bounds, sizes_read, durations_read, sums_bounds, sidx_bounds, word_limit}
use Rattle.state.proofs.RangeTests.{within_append, within_first, spelled_first, spelled_next, spelled_last}
use Rattle.state.proofs.RangeKept.{Numbered, Flows, KeptIn, shown, both, unless_kept}

-- what is in range of an index that was read whole, wherever it stands
abbrev pub index_bounds : IndexRead → List Bound
index_bounds x = below x.id word_limit ∷ at_most 1 x.scale ∷ below x.scale word_limit ∷ below 0 x.count ∷ at_most x.count most_entries ∷ []

-- on top: first offset and material are within the limit, and start plus durations is a time
unfoldable pub Ends : Place → IndexRead → Type 0
Ends topmost x = (x.offset + x.sizes ≤ limit) × (x.time + x.durations < time_limit)
Ends (under top slot depth) x = Unit {0}

pub sidx_starts : Within (sidx_bounds sidx_start)
unfolding sidx_bounds scale_least index_most
sidx_starts = omega arith

-- Faults of an index.
version_faults : (span : Span) (v n : ℕ) → Each Numbered (sidx_version_faults span v n)
unfolding sidx_version_faults
version_faults span v n = both _ _ (shown _ _ _ (omega arith)) (shown _ _ _ (omega arith))

id_faults_lem : (p : Place) (span : Span) (v : ℕ) → Each Numbered (id_faults p span v)
unfolding id_faults
id_faults_lem topmost span v = each_none Numbered
id_faults_lem (under top slot depth) span v = shown _ _ _ (omega arith)

scale_faults_lem : (p : Place) (span : Span) (v : ℕ) → Each Numbered (scale_faults p span v)
unfolding scale_faults
scale_faults_lem topmost span v = shown _ _ _ (omega arith)
scale_faults_lem (under top slot depth) span v = both _ _ (shown _ _ _ (omega arith)) (shown _ _ _ (omega arith))

time_faults_lem : (p : Place) (span : Span) (now v : ℕ) → Each Numbered (time_faults p span now v)
unfolding time_faults
time_faults_lem topmost span now v = each_none Numbered
time_faults_lem (under top slot depth) span now v = shown _ _ _ (omega arith)

offset_faults_lem : (p : Place) (span : Span) (v : ℕ) → Each Numbered (offset_faults p span v)
unfolding offset_faults
offset_faults_lem topmost span v = each_none Numbered
offset_faults_lem (under top slot depth) span v = shown _ _ _ (omega arith)

count_faults_lem : (span : Span) (v n : ℕ) → Each Numbered (count_faults span v n)
unfolding count_faults
count_faults_lem span v n = both _ _ (shown _ _ _ (omega arith)) (shown _ _ _ (omega arith))

sum_faults_lem : (p : Place) (span : Span) (x : IndexRead) (now n : ℕ) → Each Numbered (sum_faults p span x now n)
unfolding sum_faults
sum_faults_lem topmost span x now n = shown _ _ _ (omega arith)
sum_faults_lem (under top slot depth) span x now n = shown _ _ _ (omega arith)

-- a timescale without a fault is not 0
scale_some : (p : Place) (span : Span) (v : ℕ) → scale_faults p span v ≡ [] → 1 ≤ v
unfolding scale_faults
scale_some topmost span v e = omega (arith, eqb-false v 0 (shows_none (eqb v 0) _ _ e))
scale_some (under top slot depth) span v e = omega (arith, eqb-false v 0 (shows_none (eqb v 0) _ _ (none_first _ _ e)))

-- nor is a count, and it is at most the most entries
count_some : (span : Span) (v n : ℕ) → count_faults span v n ≡ [] → (1 ≤ v) × (v ≤ most_entries)
unfolding count_faults
count_some span v n e =
    let h = or_neither (eqb v 0) (ltb most_entries v) (shows_none _ _ _ (none_second (shows (not (eqb span.end (n + entry_bytes * v))) 6 span.pos) _ e)) in
    (omega (arith, eqb-false v 0 h.0), ltb-false _ _ h.1)

sums_end : (p : Place) (span : Span) (x : IndexRead) (now n : ℕ) → sum_faults p span x now n ≡ [] → Ends p x
unfolding sum_faults Ends
sums_end topmost span x now n e =
    let h = or_neither (ltb limit (n + x.offset + x.sizes)) (leb time_limit (x.time + x.durations)) (shows_none _ _ _ e) in
    (omega (arith, ltb-false limit (n + x.offset + x.sizes) h.0), leb-false _ _ h.1)
sums_end (under top slot depth) span x now n e = tt

module _ (t : ℕ) (p : Place) where
  abbrev pub Read : IndexRead → Flow → Type 0
  Read x f = Within (index_bounds x) × Ends p x × Flows t f

  close_sidx_lem : (span : Span) (x : IndexRead) (f : Flow) (n : ℕ) → Within (index_bounds x) → Flows t f → KeptIn t sidx_bounds Read (close_sidx p span x f n)
  unfolding close_sidx
  close_sidx_lem span x f n w k =
      unless_kept t sidx_bounds Read (sum_faults p span x f.now n) (left f) _ (sum_faults_lem p span x f.now n) k.0 (λ e. (w, sums_end p span x f.now n e, k))

  field_ends_lem : (span : Span) (i : IndexPart) (d : Draft) (v : ℕ) (f : Flow) (n : ℕ) → Within (draft_bounds (scale_least i) d) → v < 256 ^ suc (index_most i d.wide) → Flows t f →
      KeptIn t sidx_bounds Read (field_ends p span i d v f n)
  unfolding field_ends sidx_bounds scale_least index_most sizes_read durations_read
  field_ends_lem span part.Version d v f n w hv k =
      unless_kept t sidx_bounds Read (sidx_version_faults span v n) (left f) _ (version_faults span v n) k.0 (λ e. (omega arith, k))
  field_ends_lem span part.Flags d v f n w hv k = ((w.0, (w.1.0, (w.1.1.0, spelled_first 3 3 (omega arith)))), k)
  field_ends_lem span part.Id d v f n w hv k =
      unless_kept t sidx_bounds Read (id_faults p span v) (left f) _ (id_faults_lem p span v) k.0 (λ e. (omega arith, k))
  field_ends_lem span part.Scale d v f n w hv k =
      unless_kept t sidx_bounds Read (scale_faults p span v) (left f) _ (scale_faults_lem p span v) k.0
      (λ e. ((w.0, (scale_some p span v e, (omega arith, spelled_first (wide_more d.wide) (wide_more d.wide) (omega arith)))), k))
  field_ends_lem span part.Time d v f n w hv k =
      unless_kept t sidx_bounds Read (time_faults p span f.now v) (left f) _ (time_faults_lem p span f.now v) k.0
      (λ e. ((w.0, (w.1.0, (w.1.1.0, spelled_first (wide_more d.wide) (wide_more d.wide) (omega arith)))), k))
  field_ends_lem span part.Offset d v f n w hv k =
      unless_kept t sidx_bounds Read (offset_faults p span v) (left f) _ (offset_faults_lem p span v) k.0
      (λ e. ((w.0, (w.1.0, (w.1.1.0, spelled_first 1 1 (omega arith)))), k))
  field_ends_lem span part.Reserved d v f n w hv k = ((w.0, (w.1.0, (w.1.1.0, spelled_first 1 1 (omega arith)))), k)
  field_ends_lem span part.Count d v f n w hv k =
      unless_kept t sidx_bounds Read (count_faults span v n) (left f) _ (count_faults_lem span v n) k.0
      (λ e. (let h = count_some span v n e in omega arith, k))

  entry_ends_lem : (span : Span) (e : EntryPart) (d : Draft) (s : Sums) (v : ℕ) (f : Flow) (n : ℕ) → Within (draft_bounds 1 d) → Within (sums_bounds e s) → v < word_limit → Flows t f →
      KeptIn t sidx_bounds Read (entry_ends p span e d s v f n)
  unfolding entry_ends sidx_bounds sizes_read durations_read
  entry_ends_lem span entry.Size d s v f n w u hv k =
      unless_kept t sidx_bounds Read (entry_size_faults span v) (left f) _ (shown _ _ _ (omega arith)) k.0 (λ e. (omega arith, k))
  entry_ends_lem span entry.Duration d s v f n w u hv k = (omega arith, k)
  entry_ends_lem span entry.Sap d s v f n w u hv k =
      pick_holds (KeptIn t sidx_bounds Read) (eqb (suc s.next) s.count) _ _ (λ e. close_sidx_lem span (index_of d s) f n (omega arith) k)
      (λ e. (let h = eqb-false (suc s.next) s.count e in omega arith, k))

  pub step_sidx_lem : (span : Span) (s : Sidx) (f : Flow) (n b : ℕ) → b < 256 → Within (sidx_bounds s) → Flows t f → KeptIn t sidx_bounds Read (step_sidx p span s f n b)
  unfolding step_sidx sidx_bounds
  step_sidx_lem span (sidx.Field i d zero acc) f n b hb w k =
      field_ends_lem span i d (acc * 256 + b) f (suc n) (within_first (draft_bounds (scale_least i) d) (spelled_bounds (index_most i d.wide) zero acc) w)
      (spelled_last (index_most i d.wide) acc b hb w.1.1.1) k
  step_sidx_lem span (sidx.Field i d (suc m) acc) f n b hb w k = ((w.0, (w.1.0, (w.1.1.0, spelled_next (index_most i d.wide) m acc b hb w.1.1.1))), k)
  step_sidx_lem span (sidx.Entry e d s zero acc) f n b hb w k =
      entry_ends_lem span e d s (acc * 256 + b) (keep_byte p e s f 0 b) (suc n) (within_first (draft_bounds 1 d) (sums_bounds e s ++ spelled_bounds 3 zero acc) w)
      (within_first (sums_bounds e s) (spelled_bounds 3 zero acc) w.1.1.1) (spelled_last 3 acc b hb w.1.1.1.1.1.1.1) k
  step_sidx_lem span (sidx.Entry e d s (suc m) acc) f n b hb w k = (
    within_append (draft_bounds 1 d) (sums_bounds e s ++ spelled_bounds 3 m (acc * 256 + b)) (within_first (draft_bounds 1 d) (sums_bounds e s ++ spelled_bounds 3 (suc m) acc) w)
        (within_append (sums_bounds e s) (spelled_bounds 3 m (acc * 256 + b)) (within_first (sums_bounds e s) (spelled_bounds 3 (suc m) acc) w.1.1.1)
        (spelled_next 3 m acc b hb w.1.1.1.1.1.1.1)),
    k,
  )
