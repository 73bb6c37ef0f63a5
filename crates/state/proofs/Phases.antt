-- Single phases of Step, by the rows of document 01's table: which number a byte shows there, and when.
use Prim.Native.Nat.{ℕ, suc, ◌+◌, ◌≤◌, ◌<◌}
use mathlib.Core.Path.{◌≡◌, refl, sym, ap, ◌∙◌}
use mathlib.Core.List.{[], ◌∷◌}
use mathlib.Core.Bool.{Bool, true, false, not, ◌&&◌, ◌||◌, or-false, or-true}
use mathlib.Core.Logic.{◌≢◌}
use native.Mathlib.Omega.{arith}
use lib.Dec.{eqb, ltb, leb}
use borrow.Author.Tests.{ltb-false, leb-false, eqb-true, eqb-false, not-false, lt-ltb, le-ltb, le-leb, lt-leb, eq-eqb, ne_eqb}
use Rattle.basics.specs.Choose.{pick}
use Rattle.basics.proofs.Tests.{and_both, or_neither}
use Rattle.segment.specs.Constants.{styp, sidx, moof, mdat, tfhd, tfdt, tfad}
use Rattle.machine.specs.Faults.{refusal, shows, lowest, unless}
use Rattle.machine.specs.Run.{go, done, bad}
use Rattle.machine.specs.declared.Header.{Header}
use Rattle.machine.specs.declared.Refusal.{Refusal}
use Rattle.machine.proofs.Shown.{has, has_both, has_shows, AllAt, shows_at, both_at}
use Rattle.state.specs.declared.Span.{Span}
use Rattle.state.specs.declared.Slot.{Slot}
use Rattle.state.specs.declared.Level.{Level}
use Rattle.state.specs.declared.LeafSo.{LeafSo}
use Rattle.state.specs.declared.Levels.{Levels}
use Rattle.state.specs.declared.Stage.{Stage}
use Rattle.state.specs.declared.Stage.TheVariants as stage
use Rattle.state.specs.declared.Top.{Top}
use Rattle.state.specs.declared.TrafPhase.{TrafPhase}
use Rattle.state.specs.declared.TrafPhase.TheVariants as track
use Rattle.state.specs.declared.StypPart.TheVariants as styps
use Rattle.state.specs.declared.OpeningBody.TheVariants as openings
use Rattle.machine.specs.declared.BoxesSo.TheVariants as inBoxes
use Rattle.state.specs.declared.InnerBox.TheVariants as inners
use Rattle.state.specs.declared.Draft.{Draft}
use Rattle.state.specs.declared.Sums.{Sums}
use Rattle.state.specs.declared.EntryPart.{EntryPart}
use Rattle.state.specs.declared.Sidx.{Sidx}
use Rattle.state.specs.declared.Sidx.TheVariants as indexes
use Rattle.state.specs.Flow.{Flow, Left, left}
use Rattle.table.specs.Table.{room}
use Rattle.state.specs.Rows.{is, top_lengths, opening_faults, gap_faults, no_room, leaf_faults, inner_faults, fresh, headed_track, traf_faults}
use Rattle.state.specs.Opening.{passed, brands_from, styp_ends}
use Rattle.state.specs.Sidx.{Place, scale_faults, keep_byte}
use Rattle.state.specs.Sidx as Index
use Rattle.state.specs.Traf as Trafs
use Rattle.state.specs.Traf.{timed, fall_faults, lacking}
use Rattle.state.specs.Leaf.{leaf_lacks}
use Rattle.state.specs.Levels.{entry_at, entry_place, inmost, depth, altered}
use Rattle.state.specs.declared.StoredEntry.{StoredEntry}
use Rattle.state.specs.Places.{sidx_byte, opening_body_byte, opening_byte, stage_byte, stored_at}
use Rattle.state.specs.Step.{reading, ended, refused, entry_shows, over_limit, step}

-- Row 9: an `mdat` in a leaf shows 9 exactly when no `moof` came before it; a `sidx` always does, and a `moof` never.
pub mdat_in_leaf : (pos : ℕ) (hadMoof : Bool) (h : Header) (f : Flow) → h.kind ≡ mdat → has 9 (leaf_faults pos hadMoof h f) ≡ not hadMoof
unfolding leaf_faults top_lengths
mdat_in_leaf pos hadMoof h f is-mdat = simp (has_both, has_shows, is-mdat, or-false)

pub sidx_in_leaf : (pos : ℕ) (hadMoof : Bool) (h : Header) (f : Flow) → h.kind ≡ sidx → has 9 (leaf_faults pos hadMoof h f) ≡ true
unfolding leaf_faults top_lengths
sidx_in_leaf pos hadMoof h f is-sidx = simp (has_both, has_shows, is-sidx, or-false)

pub moof_in_leaf : (pos : ℕ) (hadMoof : Bool) (h : Header) (f : Flow) → h.kind ≡ moof → has 9 (leaf_faults pos hadMoof h f) ≡ false
unfolding leaf_faults top_lengths
moof_in_leaf pos hadMoof h f is-moof = simp (has_both, has_shows, is-moof, or-false)

-- Row 9: a `sidx`, a `moof` and an `mdat` in the gap show 9. Rule 1: a box of none of the four types shows nothing there.
pub index_in_gap : (h : Header) → h.kind ≡ sidx → has 9 (gap_faults h) ≡ true
unfolding gap_faults top_lengths
index_in_gap h is-sidx = simp (has_both, has_shows, is-sidx)

pub media_in_gap : (h : Header) → (h.kind ≡ moof → has 9 (gap_faults h) ≡ true) × (h.kind ≡ mdat → has 9 (gap_faults h) ≡ true)
unfolding gap_faults top_lengths
media_in_gap h = (λ is-moof. simp (has_both, has_shows, is-moof), λ is-mdat. simp (has_both, has_shows, is-mdat))

pub skipped_in_gap : (h : Header) → h.kind ≢ styp → h.kind ≢ sidx → h.kind ≢ moof → h.kind ≢ mdat → gap_faults h ≡ []
unfolding gap_faults top_lengths shows
skipped_in_gap h a b c d = rw (ne_eqb h.kind styp a, ne_eqb h.kind sidx b, ne_eqb h.kind moof c, ne_eqb h.kind mdat d)

-- Rows 7 and 9, up to the top index: the first box is a `styp`, and no later one is; no box is a `moof` or an `mdat`.
pub first_is_styp : (h : Header) → (h.kind ≡ styp → has 7 (opening_faults false h) ≡ false) × (h.kind ≢ styp → has 7 (opening_faults false h) ≡ true)
unfolding opening_faults top_lengths pick
first_is_styp h = (λ same. simp (has_both, has_shows, same, or-false), λ other. simp (has_both, has_shows, ne_eqb h.kind styp other))

pub later_styp : (h : Header) → (h.kind ≡ styp → has 7 (opening_faults true h) ≡ true) × (h.kind ≢ styp → has 7 (opening_faults true h) ≡ false)
unfolding opening_faults top_lengths pick
later_styp h = (λ same. simp (has_both, has_shows, same, or-false), λ other. simp (has_both, has_shows, ne_eqb h.kind styp other))

pub media_before_index : (branded : Bool) (h : Header) → (h.kind ≡ moof → has 9 (opening_faults branded h) ≡ true) × (h.kind ≡ mdat → has 9 (opening_faults branded h) ≡ true)
unfolding opening_faults top_lengths
media_before_index branded h = (λ is-moof. simp (has_both, has_shows, is-moof), λ is-mdat. simp (has_both, has_shows, is-mdat))

-- Row 13: a `sidx` with 4 indexes or more open around it shows 13, and with fewer it does not. Row 9: any other box shows 9 there.
pub index_on_level_five : (depth : ℕ) (h : Header) → h.kind ≡ sidx → (4 ≤ depth → has 13 (inner_faults depth h) ≡ true) × (depth < 4 → has 13 (inner_faults depth h) ≡ false)
unfolding inner_faults top_lengths
index_on_level_five depth h is-sidx =
    (λ deep. simp (has_both, has_shows, is-sidx, le-leb 4 depth deep), λ shallow. simp (has_both, has_shows, is-sidx, lt-leb 4 depth shallow))

pub inner_starts_with_index : (depth : ℕ) (h : Header) → h.kind ≢ sidx → has 9 (inner_faults depth h) ≡ true
unfolding inner_faults top_lengths
inner_starts_with_index depth h other = simp (has_both, has_shows, ne_eqb h.kind sidx other)

-- Row 15, at H: only the leaf's first box shows it, and it does so exactly when as many leaves are listed as there is room for.
pub room_at_first : (hadMoof : Bool) (h : Header) (f : Flow) →
    (room f.table ≤ f.leaves → has 15 (leaf_faults h.pos hadMoof h f) ≡ true) × (f.leaves < room f.table → has 15 (leaf_faults h.pos hadMoof h f) ≡ false)
unfolding leaf_faults top_lengths
room_at_first hadMoof h f = (
  λ full. simp (has_both, has_shows, eq-eqb h.pos h.pos refl, le-leb (room f.table) f.leaves full),
  λ free. simp (has_both, has_shows, eq-eqb h.pos h.pos refl, lt-leb (room f.table) f.leaves free),
)

pub room_not_later : (pos : ℕ) (hadMoof : Bool) (h : Header) (f : Flow) → h.pos ≢ pos → has 15 (leaf_faults pos hadMoof h f) ≡ false
unfolding leaf_faults top_lengths
room_not_later pos hadMoof h f later = simp (has_both, has_shows, ne_eqb h.pos pos later)

-- Row 16: which `tfhd` and which `tfdt` show 16, by how far the `traf` has come: no `tfhd` yet, `tfhd` read, `tfdt` read.
pub tfhd_in_traf : (h : Header) (r : Bool) → h.kind ≡ tfhd →
    (has 16 (traf_faults track.Fresh h) ≡ false) × (has 16 (traf_faults (track.Headed r) h) ≡ true) × (has 16 (traf_faults track.Timed h) ≡ true)
unfolding traf_faults fresh headed_track
tfhd_in_traf h r is-tfhd = (simp (has_both, has_shows, is-tfhd, or-false), simp (has_both, has_shows, is-tfhd, or-false), simp (has_both, has_shows, is-tfhd, or-false))

pub tfdt_in_traf : (h : Header) (r : Bool) → h.kind ≡ tfdt →
    (has 16 (traf_faults track.Fresh h) ≡ true) × (has 16 (traf_faults (track.Headed r) h) ≡ false) × (has 16 (traf_faults track.Timed h) ≡ true)
unfolding traf_faults fresh headed_track
tfdt_in_traf h r is-tfdt = (simp (has_both, has_shows, is-tfdt, or-false), simp (has_both, has_shows, is-tfdt, or-false), simp (has_both, has_shows, is-tfdt, or-false))

-- Row 17: a `tfad` shows 17, and no other box does.
pub tfad_in_traf : (t : TrafPhase) (h : Header) → (h.kind ≡ tfad → has 17 (traf_faults t h) ≡ true) × (h.kind ≢ tfad → has 17 (traf_faults t h) ≡ false)
unfolding traf_faults
tfad_in_traf t h = (λ same. simp (has_both, has_shows, same), λ other. simp (has_both, has_shows, ne_eqb h.kind tfad other))

-- Row 16, at the end of the `traf`, place the `traf`: one is missing until a `tfdt` was read.
pub missing_in_traf : (pos : ℕ) (r : Bool) →
    (lacking pos track.Fresh ≡ refusal 16 pos ∷ []) × (lacking pos (track.Headed r) ≡ refusal 16 pos ∷ []) × (lacking pos track.Timed ≡ [])
unfolding lacking shows
missing_in_traf pos r = (refl, refl, refl)

-- Row 18: a decode time of the reference track that is lower than the last one shows 18; one that is equal does not, and neither does one
-- of another track.
pub fall_of_reference : (last pos v : ℕ) →
    (v < last → fall_faults last (timed true pos v) ≡ refusal 18 pos ∷ []) × (last ≤ v → fall_faults last (timed true pos v) ≡ []) × (fall_faults last (timed false pos v) ≡ [])
unfolding fall_faults shows
fall_of_reference last pos v = (λ low. rw (lt-ltb v last low), λ high. rw (le-ltb v last high), refl)

-- Row 10: a version above 1 gives 10 alone, of a `tfdt` and of a `sidx`.
pub version_alone : (span : Span) (pos end v n : ℕ) → 1 < v → (Trafs.tfdt_version_faults pos end v n ≡ refusal 10 pos ∷ []) × (Index.sidx_version_faults span v n ≡ refusal 10 span.pos ∷ [])
unfolding Trafs.tfdt_version_faults Index.sidx_version_faults shows
version_alone span pos end v n high = (
  rw (lt-ltb 1 v high, ne_eqb v 0 (omega arith), ne_eqb v 1 (omega arith)),
  rw (lt-ltb 1 v high, ne_eqb v 1 (omega arith)),
)

-- Row 6: the length of a `tfdt` is that of its version; byte n of the segment is its version byte.
pub tfdt_length : (pos end n : ℕ) →
    (end ≡ n + 7 → Trafs.tfdt_version_faults pos end 0 n ≡ []) × (end ≢ n + 7 → Trafs.tfdt_version_faults pos end 0 n ≡ refusal 6 pos ∷ [])
    × (end ≡ n + 11 → Trafs.tfdt_version_faults pos end 1 n ≡ []) × (end ≢ n + 11 → Trafs.tfdt_version_faults pos end 1 n ≡ refusal 6 pos ∷ [])
unfolding Trafs.tfdt_version_faults shows
tfdt_length pos end n = (
  λ fits. rw (eq-eqb end (n + 7) fits),
  λ other. rw (ne_eqb end (n + 7) other),
  λ fits. rw (eq-eqb end (n + 11) fits),
  λ other. rw (ne_eqb end (n + 11) other),
)

-- Row 11: timescale 0, of any index.
pub scale_not_zero : (p : Place) (span : Span) → has 11 (scale_faults p span 0) ≡ true
unfolding scale_faults
scale_not_zero Index.topmost span = simp has_shows
scale_not_zero (Index.under top slot depth) span = simp (has_both, has_shows)

-- Row 8, at the end of the `styp`: the brand must be among the compatible ones; what the major brand and the minor version are counts
-- nothing.
pub brand_at_end : (span : Span) (f : Flow) → (brands_from span false f span.end ≡ bad (refusal 8 span.pos) (left f)) × (brands_from span true f span.end ≡ done passed f)
unfolding brands_from unless shows lowest pick
brand_at_end span f = (rw (eq-eqb span.end span.end refl), rw (eq-eqb span.end span.end refl))

pub brand_compatible : (brand : ℕ) (span : Span) (found : Bool) (v : ℕ) (f : Flow) (n : ℕ) →
    (styp_ends brand span styps.Major found v f n ≡ go (openings.Styp span styps.Minor found 3 0) f) × (styp_ends brand span styps.Minor found v f n ≡ brands_from span found f n)
    × (v ≡ brand → styp_ends brand span styps.Brand found v f n ≡ brands_from span true f n) × (v ≢ brand → styp_ends brand span styps.Brand found v f n ≡ brands_from span found f n)
unfolding styp_ends
brand_compatible brand span found v f n = (
  refl,
  refl,
  λ same. rw (eq-eqb v brand same, or-true),
  λ other. rw (ne_eqb v brand other, or-false),
)

-- Row 12, at an entry's first byte: one that is not altered has a size, ends no later than its index, and ends before it in bytes, or,
-- where it is the last, with it in bytes and in time. And one of which that holds is not altered.
pub record Unaltered (l : Level) (e : StoredEntry) (now n : ℕ) : Type 0 where
  pub some_size : e.size ≢ 0
  pub in_time : now + e.duration ≤ l.until
  pub last : suc l.next ≡ l.count → (n + e.size ≡ l.end) × (now + e.duration ≡ l.until)
  pub more : suc l.next ≢ l.count → n + e.size < l.end

-- the last test of a read-back entry, by whether it is the last of its index
lastly : Level → StoredEntry → ℕ → ℕ → Bool → Bool
lastly l e now n last = pick last (not (eqb (n + e.size) l.end && eqb (now + e.duration) l.until)) (leb l.end (n + e.size))

pub unaltered : (l : Level) (e : StoredEntry) (now n : ℕ) → altered l e now n ≡ false → Unaltered l e now n
unfolding altered lastly pick
unaltered l e now n h =
    let final : Bool = lastly l e now n (eqb (suc l.next) l.count) in
    let (first, third) = or_neither (eqb e.size 0 || ltb l.until (now + e.duration)) final h in
    let (empty, late) = or_neither (eqb e.size 0) (ltb l.until (now + e.duration)) first in
    record {
      some_size = eqb-false e.size 0 empty;
      in_time = ltb-false l.until (now + e.duration) late;
      last = λ is. at_last (ap (lastly l e now n) (sym (eq-eqb (suc l.next) l.count is)) ∙ third);
      more = λ is-not. leb-false l.end (n + e.size) (ap (lastly l e now n) (sym (ne_eqb (suc l.next) l.count is-not)) ∙ third);
    }
  where
    at_last : lastly l e now n true ≡ false → (n + e.size ≡ l.end) × (now + e.duration ≡ l.until)
    at_last g =
        let (a, b) = and_both (eqb (n + e.size) l.end) (eqb (now + e.duration) l.until) (not-false (eqb (n + e.size) l.end && eqb (now + e.duration) l.until) g) in
        (eqb-true (n + e.size) l.end a, eqb-true (now + e.duration) l.until b)

pub unaltered_passes : (l : Level) (e : StoredEntry) (now n : ℕ) → Unaltered l e now n → altered l e now n ≡ false
unfolding altered lastly pick
unaltered_passes l e now n u =
    rw (ne_eqb e.size 0 u.some_size, le-ltb l.until (now + e.duration) u.in_time) (at (eqb (suc l.next) l.count) refl)
  where
    at : (t : Bool) → eqb (suc l.next) l.count ≡ t → lastly l e now n t ≡ false
    at true is =
        let (a, b) = u.last (eqb-true (suc l.next) l.count is) in
        rw (eq-eqb (n + e.size) l.end a, eq-eqb (now + e.duration) l.until b)
    at false is = lt-leb l.end (n + e.size) (u.more (eqb-false (suc l.next) l.count is))

-- Rows 15 and 19, at a leaf's end: 19 exactly when no decode time of the reference track was seen, 15 exactly when there is no room; the
-- place of both is the leaf.
pub leaf_without_time : (slot : Slot) (so : LeafSo) (kept : Left) → has 19 (leaf_lacks slot so kept) ≡ not so.seen.any
unfolding leaf_lacks
leaf_without_time slot so kept = simp (has_both, has_shows)

pub leaf_without_room : (slot : Slot) (so : LeafSo) (kept : Left) →
    (room kept.table ≤ kept.leaves → has 15 (leaf_lacks slot so kept) ≡ true) × (kept.leaves < room kept.table → has 15 (leaf_lacks slot so kept) ≡ false)
unfolding leaf_lacks
leaf_without_room slot so kept = (
  λ full. simp (has_both, has_shows, le-leb (room kept.table) kept.leaves full),
  λ free. simp (has_both, has_shows, lt-leb (room kept.table) kept.leaves free),
)

pub leaf_lacks_at : (slot : Slot) (so : LeafSo) (kept : Left) → AllAt slot.pos (leaf_lacks slot so kept)
unfolding leaf_lacks
leaf_lacks_at slot so kept =
    let full = no_room kept.leaves kept.table in
    let unseen = not so.seen.any in
    both_at slot.pos (shows full 15 slot.pos) (shows unseen 19 slot.pos) (shows_at full 15 slot.pos) (shows_at unseen 19 slot.pos)

-- Rows 21 and 3: a byte after the material gives 21 at its place; byte 268,435,457 of the segment gives 3, after the material and
-- wherever the reading stands but before an entry. It counts as read, an entry's byte is stored, and the list and the leaf table stay.
pub after_material : (n : ℕ) (top : Top) (kept : Left) (b : ℕ) → n ≢ 268435456 → step (ended n top kept) b ≡ refused (suc n) (refusal 21 n) kept
unfolding step shows lowest
after_material n top kept b within = rw (ne_eqb n 268435456 within)

pub past_after_material : (top : Top) (kept : Left) (b : ℕ) → step (ended 268435456 top kept) b ≡ refused 268435457 (refusal 3 268435456) kept
unfolding step shows lowest pick
past_after_material top kept b = refl

pub past_the_limit : (s : Stage) (f : Flow) (b : ℕ) → ((top : Top) (ls : Levels) → s ≢ stage.Entry top ls) →
    step (reading 268435456 s f) b ≡ refused 268435457 (refusal 3 268435456) (record { leaves = f.leaves; work = stored_at f.work (stage_byte s) b; table = f.table })
unfolding step shows unless lowest over_limit entry_shows
past_the_limit (stage.Opening brand s) f b elsewhere = refl
past_the_limit (stage.Gap top l end s) f b elsewhere = refl
past_the_limit (stage.Entry top ls) f b elsewhere = absurd (elsewhere top ls refl)
past_the_limit (stage.Leaf top ls slot s) f b elsewhere = refl
past_the_limit (stage.Inner top ls slot s) f b elsewhere = refl

-- Inside an entry of the top index, and of an inner one: 3, and the byte is stored at its place.
pub past_in_entry : (brand : ℕ) (branded : Bool) (span : Span) (e : EntryPart) (d : Draft) (s : Sums) (more acc : ℕ) (top : Top) (ls : Levels) (slot : Slot) (f : Flow) (b : ℕ) →
    let x : Sidx = indexes.Entry e d s more acc in
    (step (reading 268435456 (stage.Opening brand (inBoxes.Body branded (openings.Index span x))) f) b
    ≡ refused 268435457 (refusal 3 268435456) (left (keep_byte Index.topmost e s f more b)))
    × (step (reading 268435456 (stage.Inner top ls slot (inners.Body span x)) f) b
    ≡ refused 268435457 (refusal 3 268435456) (left (keep_byte (Index.under top slot (depth ls)) e s f more b)))
unfolding step shows unless lowest over_limit entry_shows stage_byte opening_byte opening_body_byte sidx_byte stored_at
past_in_entry brand branded span e d s more acc top ls slot f b = (refl, refl)

-- Before an entry: 12 at that byte and no other number where the stored entry was altered, else 3; nothing is stored.
pub past_before_entry : (top : Top) (ls : Levels) (f : Flow) (b : ℕ) → let was : Bool = altered (inmost ls) (entry_at f.work (entry_place ls)) f.now 268435456 in
    (was ≡ true → step (reading 268435456 (stage.Entry top ls) f) b ≡ refused 268435457 (refusal 12 268435456) (left f))
    × (was ≡ false → step (reading 268435456 (stage.Entry top ls) f) b ≡ refused 268435457 (refusal 3 268435456) (left f))
unfolding step shows unless lowest over_limit entry_shows stage_byte stored_at
past_before_entry top ls f b = (λ e. rw e, λ e. rw e)

-- a refusal is kept, whatever byte comes
pub refusal_kept : (n : ℕ) (x : Refusal) (kept : Left) (b : ℕ) → step (refused n x kept) b ≡ refused n x kept
unfolding step
refusal_kept n x kept b = refl
