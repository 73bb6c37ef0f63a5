-- What the code's answers of entries make of a reading by structure; what a walk over entries asks, and what it gives.
use Rattle.fields.specs.declared.Halt.{Halt}
use Rattle.std.specs.Prelude.{ℕ, suc, ◌+◌, ◌-◌, ◌≤◌, ◌<◌, ◌≡◌, List, length, drop, Result, Ok, Err}
use Rattle.segment.specs.Constants.{limit, most_entries}
use Rattle.table.specs.Table.{most_records}
use Rattle.machine.specs.Faults.{refusal}
use Rattle.machine.specs.Run.{Res, okay, fail, cut, after}
use Rattle.machine.specs.declared.Header.{Header}
use Rattle.state.specs.declared.Top.{Top}
use Rattle.state.specs.declared.Level.{Level}
use Rattle.state.specs.declared.Slot.{Slot}
use Rattle.state.specs.Opening.{span_of}
use Rattle.state.specs.Sidx.{under}
use Rattle.state.specs.Stages.{inner_level}
use Rattle.state.specs.Flow.{Flow, Left, work_bytes}
use Rattle.state.specs.Calls.{flow_of, left_of}
use Rattle.descent.specs.Sidx.{sidx_d}
use Rattle.descent.specs.Whole.{UnderD, entry_parts_d, under_d}
use Rattle.fields.specs.Answers.{farthest}
use Rattle.fields.specs.Onward.{placed}
use Rattle.walk_entries.specs.declared.Reached.{Reached}
use Rattle.walk_entries.specs.declared.Broken.{Broken}
use Rattle.walk_entries.specs.declared.Broken.TheVariants as broken
use Rattle.fields.specs.declared.Halt.TheVariants as halt

-- what flows where a walk has come so far, with the two buffers
abbrev pub flow_at : Reached → List ℕ → List ℕ → Flow
flow_at so work table = flow_of so.leaves so.now so.last work table

-- how far entries led, or why no further
abbrev pub Went : Type 0
Went = Result Reached Broken

-- the entries are passed, one is refused, or the bytes end; a refusal and an end with the leaves listed before
unfoldable pub went_d : ℕ → List ℕ → List ℕ → List ℕ → Went → Res (Unit {0}) Flow Left
went_d base s work table (Ok so) = okay tt (flow_at so work table) so.n (drop (so.n - base) s)
went_d base s work table (Err (broken.Bad x)) = fail (refusal x.number x.place) (left_of x.leaves work table) x.count
went_d base s work table (Err (broken.Ended leaves)) = cut (left_of leaves work table) (base + length s)

-- where a walk stands: within the bytes, and within what ends at the place `end` and at the time `until`
pub record Stands (base : ℕ) (s : List ℕ) (end until : ℕ) (so : Reached) : Type 0 where
  pub after : base ≤ so.n
  pub inside : so.n ≤ base + length s
  pub within : so.n ≤ end
  pub timely : so.now ≤ until
  pub few : so.leaves ≤ most_records

abbrev pub StandsOn : ℕ → List ℕ → ℕ → ℕ → Went → Type 0
StandsOn base s end until (Ok so) = Stands base s end until so
StandsOn base s end until (Err x) = Unit {0}

-- What a walk over what ends at `end` and `until` gives: the answer and both buffers are those of a reading by structure.
pub record Carried (base : ℕ) (s : List ℕ) (end until : ℕ) (work table work' table' : List ℕ) (r : Went) (reading : Res (Unit {0}) Flow Left) : Type 0 where
  pub right : went_d base s work' table' r ≡ reading
  pub work_long : length work' ≡ length work
  pub table_long : length table' ≡ length table
  pub stands : StandsOn base s end until r

-- what a walk over an index with so many levels left asks
pub record Asks (left : ℕ) (l : Level) (base : ℕ) (s work : List ℕ) (so : Reached) : Type 0 where
  pub some : 1 ≤ left
  pub most : left ≤ 4
  pub next : l.next ≤ l.count
  pub count : l.count ≤ most_entries
  pub end : l.end ≤ limit
  pub area : work_bytes ≤ length work
  pub stands : Stands base s l.end l.until so

-- what a walk over an entry that was read back asks
pub record SlotAsks (base : ℕ) (s : List ℕ) (slot : Slot) (so : Reached) : Type 0 where
  pub here : slot.pos ≡ so.n
  pub some : slot.pos < slot.end
  pub end : slot.end ≤ limit
  pub stands : Stands base s slot.end slot.until so

-- the indexes below one with so many levels left, by the descent
abbrev pub below_d : ℕ → Top → UnderD
below_d left top d l g m cs = under_d (left - 1) top d l g m cs

-- how many indexes stand open where so many levels are left
abbrev pub depth_at : ℕ → ℕ
depth_at left = 5 - left

-- the entries of an index that are to come
abbrev pub entries_d : ℕ → Top → Level → Flow → ℕ → List ℕ → Res (Unit {0}) Flow Left
entries_d left top l f n bs = entry_parts_d (below_d left top) top (depth_at left) (l.count - l.next) l f n bs

-- an inner index and what it indexes, from its body on
abbrev pub inner_body_d : ℕ → Top → Slot → Header → Flow → ℕ → List ℕ → Res (Unit {0}) Flow Left
inner_body_d left top slot h f n bs =
    after (sidx_d (under top slot (depth_at left)) (span_of h) f n bs) (λ x g m cs. below_d left top (suc (depth_at left)) (inner_level x slot) g m cs)

-- a header that was read of the first box of an entry: where it stands, and that its box ends in the entry
pub record Heads (base : ℕ) (s : List ℕ) (slot : Slot) (h : Header) : Type 0 where
  pub here : base + h.pos ≡ slot.pos
  pub holds : h.head ≤ h.size
  pub long : h.head ≤ 16
  pub within : base + (h.pos + h.size) ≤ slot.end
  pub there : h.pos + h.head ≤ length s

abbrev pub inner_body_at : ℕ → Top → Slot → ℕ → List ℕ → Header → Reached → List ℕ → List ℕ → Res (Unit {0}) Flow Left
inner_body_at left top slot base s h so work table =
    inner_body_d left top slot (placed base h) (flow_at so work table) (base + (h.pos + h.head)) (drop (h.pos + h.head) s)

-- the reading of lent bytes where a walk has come so far
abbrev pub reading_at : (Flow → ℕ → List ℕ → Res (Unit {0}) Flow Left) → ℕ → List ℕ → Reached → List ℕ → List ℕ → Res (Unit {0}) Flow Left
reading_at d base s so work table = d (flow_at so work table) so.n (drop (so.n - base) s)

-- Why a header, a leaf or an index was not read, at its place in the segment, after so many leaves.
abbrev pub placed_of : ℕ → ℕ → Halt → Broken
placed_of base leaves (halt.Bad x) = broken.Bad (record { number = x.number; place = base + x.place; count = base + x.count; leaves = leaves })
placed_of base leaves halt.Ended = broken.Ended leaves

-- a fault whose place is within the limit, and whose byte is no farther than a position may be
abbrev pub HaltLow : Halt → Type 0
HaltLow (halt.Bad x) = (x.place ≤ limit) × (x.count ≤ farthest)
HaltLow halt.Ended = Unit {0}
