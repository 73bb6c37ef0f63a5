-- What the answer of a segment makes of a reading by structure, and what an ending says of answer and state.
use Rattle.std.specs.Prelude.{ℕ, suc, ◌+◌, ◌≤◌, ◌<◌, ◌≡◌, List, length, drop, Result, Ok, Err}
use Rattle.segment.specs.Constants.{limit, time_limit, most_entries}
use Rattle.machine.specs.declared.Refusal.{Refusal}
use Rattle.machine.specs.Faults.{refusal, lowest}
use Rattle.machine.specs.Run.{Res, okay, fail, cut}
use Rattle.state.specs.declared.Top.{Top}
use Rattle.state.specs.declared.IndexRead.{IndexRead}
use Rattle.state.specs.Flow.{Flow, Left}
use Rattle.state.specs.declared.State.TheVariants as state
use Rattle.state.specs.Step.{flow0, past_limit, past_material}
use Rattle.state.specs.Calls.{Out, out, left_of, start_of}
use Rattle.descent.specs.Whole.{material_d, segment_d}
use Rattle.walk_entries.specs.Views.{flow_at}
use Rattle.fields.specs.declared.Halt.{Halt}
use Rattle.fields.specs.declared.Halt.TheVariants as halt
use Rattle.walk_entries.specs.declared.Reached.{Reached}
use Rattle.walk_entries.specs.declared.Broken.{Broken}
use Rattle.walk_entries.specs.declared.Broken.TheVariants as broken
use Rattle.whole.specs.declared.Ending.{Ending}
use Rattle.whole.specs.declared.Ending.TheVariants as ending

-- how far the material led, and what the top index says of it; or why no further
abbrev pub SegmentRead : Type 0
SegmentRead = Result (Reached × Top) Broken

-- the material is read, it is refused, or the bytes end; a refusal and an end with the leaves listed before
unfoldable pub segment_read : List ℕ → List ℕ → List ℕ → SegmentRead → Res Top Flow Left
segment_read s work table (Ok (so, top)) = okay top (flow_at so work table) so.n (drop so.n s)
segment_read s work table (Err (broken.Bad x)) = fail (refusal x.number x.place) (left_of x.leaves work table) x.count
segment_read s work table (Err (broken.Ended leaves)) = cut (left_of leaves work table) (length s)

-- a segment that was read ends within its bytes, and within the limit
abbrev pub WithinBytes : List ℕ → SegmentRead → Type 0
WithinBytes s (Ok (so, top)) = so.n ≤ length s
WithinBytes s (Err x) = Unit {0}

abbrev pub WithinLimit : SegmentRead → Type 0
WithinLimit (Ok (so, top)) = so.n ≤ limit
WithinLimit (Err x) = Unit {0}

-- why the opening or the gap was not read: no leaf is listed before
abbrev pub unlisted : Halt → Broken
unlisted (halt.Bad x) = broken.Bad x
unlisted halt.Ended = broken.Ended 0

-- a top index that was read: how many entries it has, and that row 14 was not shown
pub record Fits (x : IndexRead) (n : ℕ) : Type 0 where
  pub count : x.count ≤ most_entries
  pub material : n + x.offset + x.sizes ≤ limit
  pub times : x.time + x.durations < time_limit

-- What follows the top index x, which ends at the position n, is read as the descent reads it, and leaves both buffers as the descent does.
pub record MaterialWalked (x : IndexRead) (n : ℕ) (s work table work' table' : List ℕ) (r : SegmentRead) : Type 0 where
  pub right : segment_read s work' table' r ≡ material_d x (flow0 work table) n (drop n s)
  pub work_long : length work' ≡ length work
  pub table_long : length table' ≡ length table
  pub within : WithinBytes s r

-- The segment is.
pub record SegmentWalked (brand : ℕ) (s work table work' table' : List ℕ) (r : SegmentRead) : Type 0 where
  pub right : segment_read s work' table' r ≡ segment_d brand (flow0 work table) 0 s
  pub work_long : length work' ≡ length work
  pub table_long : length table' ≡ length table
  pub within : WithinBytes s r

-- a byte after the material, or after the limit, at the place n: 3 goes before 21
abbrev pub too_long : ℕ → ℕ → List ℕ → List ℕ → Out (Result ℕ Refusal)
too_long n leaves work table =
    let x = lowest (past_material n) (past_limit n) in
    out (Err x) (state.Refused (suc n) leaves x) work table

-- What the ending of a whole reading says of answer and state, with the brand wanted, and the work area and the table after it. A work area
-- that is too short leaves a reading before its first byte.
unfoldable pub ending_out : ℕ → List ℕ → List ℕ → Ending → Out (Result ℕ Refusal)
ending_out brand work table (ending.Accepted n leaves top) = out (Ok leaves) (state.Accepted n leaves top) work table
ending_out brand work table (ending.Refused n leaves x) = out (Err x) (state.Refused n leaves x) work table
ending_out brand work table ending.ShortWork = out (Err (refusal 1 0)) (start_of brand) work table
