-- What the code's answers of an index's parts make of a reading by structure: of its numbers before the entries, and of its entries.
use Rattle.fields.specs.declared.Halt.{Halt}
use Rattle.std.specs.Prelude.{ℕ, ◌+◌, ◌*◌, ◌/◌, ◌%◌, ◌≤◌, ◌<◌, ◌≡◌, Bool, true, false, List, [], ◌∷◌, length, Option, Some, None, Result, Ok, Err}
use Rattle.segment.specs.Constants.{type_bit, entry_bytes, most_entries}
use Rattle.machine.specs.Faults.{refusal}
use Rattle.machine.specs.Run.{Res, fail}
use Rattle.state.specs.declared.Span.{Span}
use Rattle.state.specs.declared.Draft.{Draft}
use Rattle.state.specs.declared.Sums.{Sums}
use Rattle.state.specs.declared.IndexRead.{IndexRead}
use Rattle.state.specs.Flow.{Flow, Left, left, with_work, level_bytes}
use Rattle.state.specs.Sidx.{Place, topmost, under, part_of, index_of}
use Rattle.state.specs.Ranges.{word_limit}
use Rattle.descent.specs.Sidx.{close_d, entry_d, counted_d}
use Rattle.fields.specs.declared.Stop.{Stop}
use Rattle.fields.specs.Onward.{from, halted}
use Rattle.walk_index.specs.declared.Fields.{Fields}
use Rattle.walk_index.specs.declared.Added.{Added}
use Rattle.walk_index.specs.declared.Wanted.{Wanted}
use Rattle.fields.specs.declared.Halt.TheVariants as halt

-- what was read of an index before its entries, the size and the duration of an entry, none where its size is 0, and the sums of the entries
abbrev pub FieldsRead : Type 0
FieldsRead = Result Fields Halt

abbrev pub EntryTaken : Type 0
EntryTaken = Option (ℕ × ℕ)

abbrev pub EntriesRead : Type 0
EntriesRead = Result Added Halt

abbrev Res' : Type 0
Res' = Res IndexRead Flow Left

-- a box in the segment, told by its positions
abbrev pub span_at : ℕ → ℕ → ℕ → Span
span_at base pos end = record { pos = base + pos; end = base + end }

-- what an index's numbers have to be where it stands, and its level's part of the work area
unfoldable pub wanted_of : Place → Wanted
wanted_of topmost = record { inner = false; id = 0; scale = 0; part = 0 }
wanted_of (under top slot around) = record { inner = true; id = top.id; scale = top.scale; part = level_bytes * around }

abbrev pub draft : Bool → ℕ → ℕ → ℕ → ℕ → Draft
draft wide id scale time offset = record { wide = wide; id = id; scale = scale; time = time; offset = offset }

abbrev pub sums : ℕ → ℕ → ℕ → ℕ → Sums
sums next count sizes durations = record { next = next; count = count; sizes = sizes; durations = durations }

-- the numbers before the entries were read, one is refused, or the bytes end
module _ (p : Place) (span : Span) (wide : Bool) (base : ℕ) (s : List ℕ) (f : Flow) where
  unfoldable pub fields_d : FieldsRead → Res'
  fields_d (Ok x) = from left base s f (counted_d p span (draft wide x.id x.scale x.time x.offset) x.count x.count) x.from
  fields_d (Err x) = halted left base s f x

-- A refusal of an index that ends at `end` tells no leaves. Its byte may stand past the end where the box is too short for its numbers.
abbrev pub StopIn : ℕ → Stop → Type 0
StopIn end x = (x.leaves ≡ 0) × (x.place ≤ end) × (x.count ≤ end + 32)

abbrev pub HaltIn : ℕ → Halt → Type 0
HaltIn end (halt.Bad x) = StopIn end x
HaltIn end halt.Ended = Unit {0}

-- the entries that follow the numbers are some, not too many, and end the box
abbrev pub FieldsFixed : List ℕ → ℕ → FieldsRead → Type 0
FieldsFixed s end (Ok x) = (1 ≤ x.count) × (x.count ≤ most_entries) × (x.from ≤ length s) × (end ≡ x.from + entry_bytes * x.count)
FieldsFixed s end (Err x) = HaltIn end x

-- the bytes of a word, the first one the highest
abbrev pub word_bytes : ℕ → List ℕ
word_bytes v = v / 16777216 % 256 ∷ v / 65536 % 256 ∷ v / 256 % 256 ∷ v % 256 ∷ []

-- an entry was read: its size and its duration are added; or its size is 0
module _ (span : Span) (more : Sums → Flow → ℕ → List ℕ → Res') (t : Sums) (base : ℕ) (s : List ℕ) (f : Flow) (j : ℕ) where
  unfoldable pub taken_d : EntryTaken → Res'
  taken_d (Some (size, duration)) = from left base s f (more (sums t.next t.count (t.sizes + size) (t.durations + duration))) (j + 12)
  taken_d None = fail (refusal 11 span.pos) (left f) (base + (j + 4))

abbrev pub TakenFixed : EntryTaken → Type 0
TakenFixed (Some (size, duration)) = (size < type_bit) × (duration < word_limit)
TakenFixed None = Unit {0}

-- The twelve bytes at `j` are read as the descent reads an entry, and stored from `i` on.
pub record EntryWalked (s : List ℕ) (i j : ℕ) (work work' : List ℕ) (r : EntryTaken) : Type 0 where
  pub right : (p : Place) (span : Span) (more : Sums → Flow → ℕ → List ℕ → Res') (t : Sums) (base : ℕ) (f : Flow) → i ≡ part_of p + entry_bytes * t.next →
      taken_d span more t base s (with_work f work') j r ≡ from left base s (with_work f work) (entry_d p span more t) j
  pub long : length work' ≡ length work
  pub fixed : TakenFixed r

-- the entries are read up to the end of the box, one is refused, or the bytes end
module _ (p : Place) (span : Span) (d : Draft) (count end base : ℕ) (s : List ℕ) (f : Flow) where
  unfoldable pub added_d : EntriesRead → Res'
  added_d (Ok a) = from left base s f (close_d p span (index_of d (sums count count a.sizes a.durations))) end
  added_d (Err x) = halted left base s f x

abbrev pub EntriesFixed : List ℕ → ℕ → ℕ → EntriesRead → Type 0
EntriesFixed s from end (Ok a) = (end ≤ length s) × ((count : ℕ) → end ≡ from + entry_bytes * count → a.sizes ≤ type_bit * count)
EntriesFixed s from end (Err x) = HaltIn end x

-- An entry that is not whole is read as the descent reads it, and what there is of it is stored from `i` on.
pub record PartWalked (s : List ℕ) (pos i j end : ℕ) (work work' : List ℕ) (r : EntriesRead) : Type 0 where
  pub right : (p : Place) (d : Draft) (count base : ℕ) (span : Span) (more : Sums → Flow → ℕ → List ℕ → Res') (t : Sums) (f : Flow) →
      i ≡ part_of p + entry_bytes * t.next → span.pos ≡ base + pos →
      added_d p span d count end base s (with_work f work') r ≡ from left base s (with_work f work) (entry_d p span more t) j
  pub long : length work' ≡ length work
  pub fixed : (from : ℕ) → EntriesFixed s from end r

-- The entries from `at` to `end` are read as the descent reads them, and stored from `part` on.
pub record AddedWalked (s : List ℕ) (pos at end part : ℕ) (work work' : List ℕ) (r : EntriesRead) : Type 0 where
  pub right : (p : Place) (d : Draft) (count base : ℕ) (f : Flow) → part_of p ≡ part → end ≡ at + entry_bytes * count →
      added_d p (span_at base pos end) d count end base s (with_work f work') r ≡ from left base s (with_work f work) (counted_d p (span_at base pos end) d count count) at
  pub long : length work' ≡ length work
  pub fixed : EntriesFixed s at end r
