-- Rows 6, 10, 11 and 12 in an index box, at the end of each of its numbers: which number is given and with which place, and what goes on
-- where none is. By the tests of `field_ends` and `entry_ends`, case by case.
use Prim.Native.Nat.{ℕ, zero, suc, ◌+◌, ◌*◌, ◌%◌, ◌≤◌, ◌<◌}
use mathlib.Core.Path.{◌≡◌, refl}
use mathlib.Core.Bool.{Bool, true, false, not, ◌&&◌, ◌||◌, or-true, and-false}
use mathlib.Core.Logic.{◌≢◌, ◌⊎◌, inl, inr}
use native.Mathlib.Omega.{arith}
use lib.Dec.{eqb, ltb, leb}
use borrow.Author.Tests.{lt-ltb, le-ltb, le-leb, lt-leb, eq-eqb, ne_eqb}
use Rattle.basics.specs.Choose.{pick}
use Rattle.machine.specs.Faults.{refusal, shows, lowest, unless}
use Rattle.machine.specs.Run.{Sub, go, done, bad}
use Rattle.state.specs.declared.Span.{Span}
use Rattle.state.specs.declared.Draft.{Draft}
use Rattle.state.specs.declared.Sums.{Sums}
use Rattle.state.specs.declared.IndexRead.{IndexRead}
use Rattle.state.specs.declared.Top.{Top}
use Rattle.state.specs.declared.Slot.{Slot}
use Rattle.state.specs.declared.IndexPart.{IndexPart}
use Rattle.state.specs.declared.IndexPart.TheVariants as part
use Rattle.state.specs.declared.EntryPart.{EntryPart}
use Rattle.state.specs.declared.EntryPart.TheVariants as entry
use Rattle.state.specs.declared.Sidx.{Sidx}
use Rattle.state.specs.declared.Sidx.TheVariants as sidx
use Rattle.state.specs.Flow.{Flow, Left, left}
use Rattle.state.specs.Sidx.{Place, topmost, under, sidx_version_faults, id_faults, scale_faults, time_faults, offset_faults, count_faults, sum_faults}
use Rattle.state.specs.Sidx.{wide_more, close_sidx, field_ends, plus_size, entry_ends, keep_byte, step_sidx}
use Rattle.state.proofs.Edges.{length_before_count}

abbrev Ends : Type 0
Ends = Sub Sidx IndexRead Flow Left

-- what the draft of an index is with its version, its ID, its timescale, its time, its first offset
abbrev versioned : ℕ → Draft
versioned v = record { wide = eqb v 1; id = 0; scale = 0; time = 0; offset = 0 }

abbrev identified : Draft → ℕ → Draft
identified d v = record { wide = d.wide; id = v; scale = 0; time = 0; offset = 0 }

abbrev scaled : Draft → ℕ → Draft
scaled d v = record { wide = d.wide; id = d.id; scale = v; time = 0; offset = 0 }

abbrev begun : Draft → ℕ → Draft
begun d v = record { wide = d.wide; id = d.id; scale = d.scale; time = v; offset = 0 }

abbrev placed : Draft → ℕ → Draft
placed d v = record { wide = d.wide; id = d.id; scale = d.scale; time = d.time; offset = v }

-- A number of an index is looked at when its last byte comes, and not before.
pub met_at_its_end : (p : Place) (span : Span) (i : IndexPart) (d : Draft) (m acc : ℕ) (f : Flow) (n b : ℕ) →
    (step_sidx p span (sidx.Field i d zero acc) f n b ≡ field_ends p span i d (acc * 256 + b) f (suc n))
    × (step_sidx p span (sidx.Field i d (suc m) acc) f n b ≡ go (sidx.Field i d m (acc * 256 + b)) f)
unfolding step_sidx
met_at_its_end p span i d m acc f n b = (refl, refl)

-- So is a number of an entry; each byte is stored.
pub entry_met_at_its_end : (p : Place) (span : Span) (e : EntryPart) (d : Draft) (s : Sums) (m acc : ℕ) (f : Flow) (n b : ℕ) →
    (step_sidx p span (sidx.Entry e d s zero acc) f n b ≡ entry_ends p span e d s (acc * 256 + b) (keep_byte p e s f 0 b) (suc n))
    × (step_sidx p span (sidx.Entry e d s (suc m) acc) f n b ≡ go (sidx.Entry e d s m (acc * 256 + b)) (keep_byte p e s f (suc m) b))
unfolding step_sidx
entry_met_at_its_end p span e d s m acc f n b = (refl, refl)

module _ (span : Span) (d : Draft) (f : Flow) (n : ℕ) where
  -- this number with the place of the index's box
  abbrev gives : ℕ → Ends
  gives number = bad (refusal number span.pos) (left f)

  -- Rows 6 and 10, at the version byte, the n-th of the segment: version 1 has 31 bytes after it at least, and a version above 1 gives 10.
  pub version_ends : (p : Place) →
      (field_ends p span part.Version d 0 f n ≡ go (sidx.Field part.Flags (versioned 0) 2 0) f)
      × (span.end < n + 31 → field_ends p span part.Version d 1 f n ≡ gives 6)
      × (n + 31 ≤ span.end → field_ends p span part.Version d 1 f n ≡ go (sidx.Field part.Flags (versioned 1) 2 0) f)
      × ((v : ℕ) → 1 < v → field_ends p span part.Version d v f n ≡ gives 10)
  unfolding field_ends sidx_version_faults shows unless lowest
  version_ends p = (
    refl,
    λ short. rw (lt-ltb span.end (n + 31) short),
    λ long. rw (le-ltb span.end (n + 31) long),
    λ v high. rw (lt-ltb 1 v high, ne_eqb v 1 (omega arith)),
  )

  -- Flags and reserved are ignored.
  pub ignored_ends : (p : Place) (v : ℕ) →
      (field_ends p span part.Flags d v f n ≡ go (sidx.Field part.Id d 3 0) f) × (field_ends p span part.Reserved d v f n ≡ go (sidx.Field part.Count d 1 0) f)
  unfolding field_ends
  ignored_ends p v = (refl, refl)

  -- Row 11, at the end of the timescale: 0 gives 11, in an inner index too. Row 12: an inner index gives 12 where it is another than its
  -- parent's; the top index never does. All indexes have the top one's reference ID and timescale, so that the parent's are these.
  pub scale_ends : (top : Top) (slot : Slot) (depth v : ℕ) →
      ((p : Place) → field_ends p span part.Scale d 0 f n ≡ gives 11)
      × (v ≢ 0 → v ≢ top.scale → field_ends (under top slot depth) span part.Scale d v f n ≡ gives 12)
      × (v ≢ 0 → v ≡ top.scale → field_ends (under top slot depth) span part.Scale d v f n ≡ go (sidx.Field part.Time (scaled d v) (wide_more d.wide) 0) f)
      × (v ≢ 0 → field_ends topmost span part.Scale d v f n ≡ go (sidx.Field part.Time (scaled d v) (wide_more d.wide) 0) f)
  unfolding field_ends scale_faults shows unless lowest pick
  scale_ends top slot depth v = (
    at_zero,
    λ some other. rw (ne_eqb v 0 some, ne_eqb v top.scale other),
    λ some same. rw (ne_eqb v 0 some, eq-eqb v top.scale same),
    λ some. rw (ne_eqb v 0 some),
  )
    where
      beside_twelve : (t : Bool) → lowest (refusal 11 span.pos) (shows t 12 span.pos) ≡ refusal 11 span.pos
      beside_twelve true = refl
      beside_twelve false = refl

      at_zero : (p : Place) → field_ends p span part.Scale d 0 f n ≡ gives 11
      at_zero topmost = refl
      at_zero (under top' slot' depth') = rw (beside_twelve (not (eqb 0 top'.scale)))

  -- Row 12, at the end of the reference ID: an inner index gives 12 where it is another than its parent's; the top index never does.
  pub id_ends : (top : Top) (slot : Slot) (depth v : ℕ) →
      (v ≢ top.id → field_ends (under top slot depth) span part.Id d v f n ≡ gives 12)
      × (v ≡ top.id → field_ends (under top slot depth) span part.Id d v f n ≡ go (sidx.Field part.Scale (identified d v) 3 0) f)
      × (field_ends topmost span part.Id d v f n ≡ go (sidx.Field part.Scale (identified d v) 3 0) f)
  unfolding field_ends id_faults shows unless lowest
  id_ends top slot depth v = (λ other. rw (ne_eqb v top.id other), λ same. rw (eq-eqb v top.id same), refl)

  -- Row 12, at the end of the earliest presentation time: an inner index gives 12 where it is another than the time at which its entry
  -- stands; the top index never does.
  pub time_ends : (top : Top) (slot : Slot) (depth v : ℕ) →
      (v ≢ f.now → field_ends (under top slot depth) span part.Time d v f n ≡ gives 12)
      × (v ≡ f.now → field_ends (under top slot depth) span part.Time d v f n ≡ go (sidx.Field part.Offset (begun d v) (wide_more d.wide) 0) f)
      × (field_ends topmost span part.Time d v f n ≡ go (sidx.Field part.Offset (begun d v) (wide_more d.wide) 0) f)
  unfolding field_ends time_faults shows unless lowest
  time_ends top slot depth v = (λ other. rw (ne_eqb v f.now other), λ same. rw (eq-eqb v f.now same), refl)

  -- Row 12, at the end of the first offset: an inner index gives 12 where it is not 0; the top index never does.
  pub offset_ends : (top : Top) (slot : Slot) (depth v : ℕ) →
      (v ≢ 0 → field_ends (under top slot depth) span part.Offset d v f n ≡ gives 12)
      × (field_ends (under top slot depth) span part.Offset d 0 f n ≡ go (sidx.Field part.Reserved (placed d 0) 1 0) f)
      × (field_ends topmost span part.Offset d v f n ≡ go (sidx.Field part.Reserved (placed d v) 1 0) f)
  unfolding field_ends offset_faults shows unless lowest
  offset_ends top slot depth v = (λ some. rw (ne_eqb v 0 some), refl, refl)

  -- Rows 6 and 11, at the last byte of the count, the n-th of the segment: a length that is not that of the count gives 6; in a box of the
  -- fitting length a count of 0 or above 1,024 gives 11, and one from 1 to 1,024 goes on to the first entry.
  pub count_ends : (p : Place) (v : ℕ) →
      (span.end ≢ n + 12 * v → field_ends p span part.Count d v f n ≡ gives 6)
      × (span.end ≡ n + 12 * v → (v ≡ 0) ⊎ (1024 < v) → field_ends p span part.Count d v f n ≡ gives 11)
      × (span.end ≡ n + 12 * v → v ≢ 0 → v ≤ 1024 →
      field_ends p span part.Count d v f n ≡ go (sidx.Entry entry.Size d (record { next = 0; count = v; sizes = 0; durations = 0 }) 3 0) f)
  unfolding field_ends count_faults shows unless lowest
  count_ends p v = (
    λ misfit. length_before_count p span d v f n misfit,
    λ fits wrong. rw (eq-eqb span.end (n + 12 * v) fits, off wrong),
    λ fits some few. rw (eq-eqb span.end (n + 12 * v) fits, ne_eqb v 0 some, le-ltb 1024 v few),
  )
    where
      off : (v ≡ 0) ⊎ (1024 < v) → eqb v 0 || ltb 1024 v ≡ true
      off (inl none) = rw (eq-eqb v 0 none)
      off (inr many) = rw (lt-ltb 1024 v many, or-true (eqb v 0))

  -- Rows 14 and 12, at the index's last byte, the n-th of the segment: the top index gives 14 where its material ends past the limit or its
  -- start plus durations is 2 to the power 64 or more; an inner one gives 12 where its sums are not its entry's; else the index is read.
  pub sums_end : (top : Top) (slot : Slot) (depth : ℕ) (x : IndexRead) →
      ((268435456 < n + x.offset + x.sizes) ⊎ (18446744073709551616 ≤ x.time + x.durations) → close_sidx topmost span x f n ≡ gives 14)
      × (n + x.offset + x.sizes ≤ 268435456 → x.time + x.durations < 18446744073709551616 → close_sidx topmost span x f n ≡ done x f)
      × ((n + x.sizes ≢ slot.end) ⊎ (f.now + x.durations ≢ slot.until) → close_sidx (under top slot depth) span x f n ≡ gives 12)
      × (n + x.sizes ≡ slot.end → f.now + x.durations ≡ slot.until → close_sidx (under top slot depth) span x f n ≡ done x f)
  unfolding close_sidx sum_faults shows unless lowest
  sums_end top slot depth x = (
    λ beyond. rw (past beyond),
    λ near soon. rw (le-ltb 268435456 (n + x.offset + x.sizes) near, lt-leb 18446744073709551616 (x.time + x.durations) soon),
    λ other. rw (apart other),
    λ fills lasts. rw (eq-eqb (n + x.sizes) slot.end fills, eq-eqb (f.now + x.durations) slot.until lasts),
  )
    where
      past : (268435456 < n + x.offset + x.sizes) ⊎ (18446744073709551616 ≤ x.time + x.durations) →
          ltb 268435456 (n + x.offset + x.sizes) || leb 18446744073709551616 (x.time + x.durations) ≡ true
      past (inl far) = rw (lt-ltb 268435456 (n + x.offset + x.sizes) far)
      past (inr late) = rw (le-leb 18446744073709551616 (x.time + x.durations) late, or-true (ltb 268435456 (n + x.offset + x.sizes)))

      apart : (n + x.sizes ≢ slot.end) ⊎ (f.now + x.durations ≢ slot.until) →
          eqb (n + x.sizes) slot.end && eqb (f.now + x.durations) slot.until ≡ false
      apart (inl sizes) = rw (ne_eqb (n + x.sizes) slot.end sizes)
      apart (inr times) = rw (ne_eqb (f.now + x.durations) slot.until times, and-false (eqb (n + x.sizes) slot.end))

  -- Row 11, at the fourth byte of an entry: size 0 gives 11, whatever its type bit, and any other goes on.
  pub entry_size_ends : (p : Place) (s : Sums) (inner size : ℕ) → size < 2147483648 →
      (size ≡ 0 → entry_ends p span entry.Size d s (2147483648 * inner + size) f n ≡ gives 11)
      × (size ≢ 0 → entry_ends p span entry.Size d s (2147483648 * inner + size) f n ≡ go (sidx.Entry entry.Duration d (plus_size s (2147483648 * inner + size)) 3 0) f)
  unfolding entry_ends shows unless lowest
  entry_size_ends p s inner size low =
      let without-bit : (2147483648 * inner + size) % 2147483648 ≡ size = omega arith in
      (λ none. rw (without-bit, eq-eqb size 0 none), λ some. rw (without-bit, ne_eqb size 0 some))
