-- An index box, the top one or an inner one: its numbers, and its entries, each byte stored as read.
use Rattle.std.specs.Prelude.{ℕ, suc, ◌+◌, ◌-◌, ◌*◌, ◌%◌, List, [], ◌++◌, Bool, true, false, not, ◌&&◌, ◌||◌, eqb, ltb, leb}
use Rattle.basics.specs.Choose.{pick}
use Rattle.segment.specs.Constants.{limit, time_limit, type_bit, entry_bytes, most_entries}
use Rattle.machine.specs.Faults.{shows, unless}
use Rattle.machine.specs.Run.{Sub, go, done, bad, number_byte}
use Rattle.machine.specs.declared.Refusal.{Refusal}
use Rattle.state.specs.declared.Span.{Span}
use Rattle.state.specs.declared.Draft.{Draft}
use Rattle.state.specs.declared.Sums.{Sums}
use Rattle.state.specs.declared.IndexRead.{IndexRead}
use Rattle.state.specs.declared.Top.{Top}
use Rattle.state.specs.declared.Slot.{Slot}
use Rattle.state.specs.declared.IndexPart.{IndexPart}
use Rattle.state.specs.declared.IndexPart.TheVariants as part
use Rattle.state.specs.declared.EntryPart.{EntryPart}
use Rattle.state.specs.declared.EntryPart.TheVariants as entry
use Rattle.state.specs.declared.Sidx.{Sidx}
use Rattle.state.specs.declared.Sidx.TheVariants as sidx
use Rattle.state.specs.Flow.{Flow, Left, left, stored, level_bytes}

-- Where an index stands: on top, or under an entry, with so many indexes open around it.
pub data Place : Type 0 where
  topmost : Place
  under : Top → Slot → ℕ → Place

-- its level's part of the work area
unfoldable pub part_of : Place → ℕ
part_of topmost = 0
part_of (under top slot around) = level_bytes * around

abbrev pub draft0 : Draft
draft0 = record { wide = false; id = 0; scale = 0; time = 0; offset = 0 }

abbrev pub sidx_start : Sidx
sidx_start = sidx.Field part.Version draft0 0 0

-- row 10: version above 1; row 6: version 1 under 32 (version byte, the n-th)
unfoldable pub sidx_version_faults : Span → ℕ → ℕ → List Refusal
sidx_version_faults span v n = shows (ltb 1 v) 10 span.pos ++ shows (eqb v 1 && ltb span.end (n + 31)) 6 span.pos

-- row 12, a field of rule 4, each at its end: an inner index has its parent's reference ID
unfoldable pub id_faults : Place → Span → ℕ → List Refusal
id_faults topmost span v = []
id_faults (under top slot around) span v = shows (not (eqb v top.id)) 12 span.pos

-- row 11: timescale 0; row 12: an inner index has its parent's timescale
unfoldable pub scale_faults : Place → Span → ℕ → List Refusal
scale_faults topmost span v = shows (eqb v 0) 11 span.pos
scale_faults (under top slot around) span v = shows (eqb v 0) 11 span.pos ++ shows (not (eqb v top.scale)) 12 span.pos

-- row 12: an inner index has the start time at which its entry stands
unfoldable pub time_faults : Place → Span → ℕ → ℕ → List Refusal
time_faults topmost span now v = []
time_faults (under top slot around) span now v = shows (not (eqb v now)) 12 span.pos

-- row 12: an inner index has first offset 0
unfoldable pub offset_faults : Place → Span → ℕ → List Refusal
offset_faults topmost span v = []
offset_faults (under top slot around) span v = shows (not (eqb v 0)) 12 span.pos

-- row 6: length not that of the count; row 11: count 0 or above 1,024 (its last byte, the n-th)
unfoldable pub count_faults : Span → ℕ → ℕ → List Refusal
count_faults span v n = shows (not (eqb span.end (n + entry_bytes * v))) 6 span.pos ++ shows (eqb v 0 || ltb most_entries v) 11 span.pos

-- row 14: material ends past byte 268,435,456, or start plus durations exceeds 2^64 − 1 (top index's end, the n-th byte);
-- row 12: its durations sum to the entry's, its box size plus its entry sizes make the entry's size (box end)
unfoldable pub sum_faults : Place → Span → IndexRead → ℕ → ℕ → List Refusal
sum_faults topmost span x now n =
    shows (ltb limit (n + x.offset + x.sizes) || leb time_limit (x.time + x.durations)) 14 span.pos
sum_faults (under top slot around) span x now n =
    shows (not (eqb (n + x.sizes) slot.end && eqb (now + x.durations) slot.until)) 12 span.pos

-- time and first offset have 32 bits in version 0, 64 in version 1: so many bytes follow the first
unfoldable pub wide_more : Bool → ℕ
wide_more true = 7
wide_more false = 3

abbrev pub index_of : Draft → Sums → IndexRead
index_of d s = record { id = d.id; scale = d.scale; time = d.time; offset = d.offset; count = s.count; sizes = s.sizes; durations = s.durations }

abbrev Sub' : Type 0
Sub' = Sub Sidx IndexRead Flow Left

-- the entries are read, and the box ends
unfoldable pub close_sidx : Place → Span → IndexRead → Flow → ℕ → Sub'
close_sidx p span x f n = unless (sum_faults p span x f.now n) (λ y. bad y (left f)) (done x f)

-- a number of the index is read
unfoldable pub field_ends : Place → Span → IndexPart → Draft → ℕ → Flow → ℕ → Sub'
field_ends p span part.Version d v f n =
    unless (sidx_version_faults span v n) (λ x. bad x (left f))
    (go (sidx.Field part.Flags (record { wide = eqb v 1; id = 0; scale = 0; time = 0; offset = 0 }) 2 0) f)
field_ends p span part.Flags d v f n = go (sidx.Field part.Id d 3 0) f
field_ends p span part.Id d v f n =
    unless (id_faults p span v) (λ x. bad x (left f))
    (go (sidx.Field part.Scale (record { wide = d.wide; id = v; scale = 0; time = 0; offset = 0 }) 3 0) f)
field_ends p span part.Scale d v f n =
    unless (scale_faults p span v) (λ x. bad x (left f))
    (go (sidx.Field part.Time (record { wide = d.wide; id = d.id; scale = v; time = 0; offset = 0 }) (wide_more d.wide) 0) f)
field_ends p span part.Time d v f n =
    unless (time_faults p span f.now v) (λ x. bad x (left f))
    (go (sidx.Field part.Offset (record { wide = d.wide; id = d.id; scale = d.scale; time = v; offset = 0 }) (wide_more d.wide) 0) f)
field_ends p span part.Offset d v f n =
    unless (offset_faults p span v) (λ x. bad x (left f))
    (go (sidx.Field part.Reserved (record { wide = d.wide; id = d.id; scale = d.scale; time = d.time; offset = v }) 1 0) f)
field_ends p span part.Reserved d v f n = go (sidx.Field part.Count d 1 0) f
field_ends p span part.Count d v f n =
    unless (count_faults span v n) (λ x. bad x (left f))
    (go (sidx.Entry entry.Size d (record { next = 0; count = v; sizes = 0; durations = 0 }) 3 0) f)

-- an entry's word: type (1 bit) and size (31)
abbrev pub entry_size : ℕ → ℕ
entry_size word = word % type_bit

-- row 11: entry size 0 (4th byte)
abbrev pub entry_size_faults : Span → ℕ → List Refusal
entry_size_faults span word = shows (eqb (entry_size word) 0) 11 span.pos

abbrev pub plus_size : Sums → ℕ → Sums
plus_size s word = record { next = s.next; count = s.count; sizes = s.sizes + entry_size word; durations = s.durations }

abbrev pub plus_duration : Sums → ℕ → Sums
plus_duration s v = record { next = s.next; count = s.count; sizes = s.sizes; durations = s.durations + v }

abbrev pub next_entry : Sums → Sums
next_entry s = record { next = suc s.next; count = s.count; sizes = s.sizes; durations = s.durations }

-- a number of an entry is read
unfoldable pub entry_ends : Place → Span → EntryPart → Draft → Sums → ℕ → Flow → ℕ → Sub'
entry_ends p span entry.Size d s v f n = unless (entry_size_faults span v) (λ x. bad x (left f)) (go (sidx.Entry entry.Duration d (plus_size s v) 3 0) f)
entry_ends p span entry.Duration d s v f n = go (sidx.Entry entry.Sap d (plus_duration s v) 3 0) f
entry_ends p span entry.Sap d s v f n =
    pick (eqb (suc s.next) s.count) (close_sidx p span (index_of d s) f n) (go (sidx.Entry entry.Size d (next_entry s) 3 0) f)

-- where a number of an entry stands in it, and where it is stored: in its level's part, in its entry
unfoldable pub word_place : EntryPart → ℕ
word_place entry.Size = 0
word_place entry.Duration = 4
word_place entry.Sap = 8

abbrev pub number_place : Place → EntryPart → Sums → ℕ
number_place p e s = part_of p + entry_bytes * s.next + word_place e

-- where a number's next byte is stored, told where its first one is and how many follow: an entry's numbers have four bytes
abbrev pub next_byte : ℕ → ℕ → ℕ
next_byte i more = i + (3 - more)

abbrev pub byte_place : Place → EntryPart → Sums → ℕ → ℕ
byte_place p e s more = next_byte (number_place p e s) more

-- "Each entry byte is stored as read, at its place in its level's part."
abbrev pub keep_byte : Place → EntryPart → Sums → Flow → ℕ → ℕ → Flow
keep_byte p e s f more b = stored f (byte_place p e s more) b

unfoldable pub step_sidx : Place → Span → Sidx → Flow → ℕ → ℕ → Sub'
step_sidx p span (sidx.Field i d more acc) f n b = number_byte (λ m v. go (sidx.Field i d m v) f) (λ v. field_ends p span i d v f (suc n)) more acc b
step_sidx p span (sidx.Entry e d s more acc) f n b =
    number_byte (λ m v. go (sidx.Entry e d s m v) (keep_byte p e s f more b)) (λ v. entry_ends p span e d s v (keep_byte p e s f more b) (suc n)) more acc b
