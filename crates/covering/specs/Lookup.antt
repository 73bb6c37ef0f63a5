-- A time looked up in the leaf table, in ticks or in seconds: the leaf that covers it, or a refusal.
use Rattle.std.specs.Prelude.{ℕ, zero, suc, ◌+◌, ◌*◌, List, Bool, ◌&&◌, ltb, length, Result, Ok, Err}
use Rattle.std.proofs.Math.Option.{Option, some, none}
use Rattle.basics.specs.Choose.{pick}
use Rattle.table.specs.declared.Record.{Record}
use Rattle.table.specs.Table.{record_numbers, record_at}
use Rattle.machine.specs.declared.Refusal.{Refusal}
use Rattle.machine.specs.Faults.{refusal}
use Rattle.moment.specs.declared.Request.{Request}
use Rattle.moment.specs.Moments.{Moment, moment_of, reaches, before}
use Rattle.state.specs.declared.State.{State}
use Rattle.state.specs.declared.State.TheVariants as state
use Rattle.state.specs.Ranges.{in_range}
use Rattle.covering.specs.declared.Leaf.{Leaf}

-- rule 7: "A leaf covers t when start ≤ t < start + duration."
unfoldable pub record_covers : Record → Moment → Bool
record_covers r t = reaches t r.start && before t (r.start + r.duration)

-- what a lookup answers of a leaf: its number and its record
abbrev pub the_leaf : ℕ → Record → Leaf
the_leaf n r = record { number = n; «record» = r }

-- the lowest-numbered of k records from the i-th on that covers t
unfoldable pub covering_from : ℕ → ℕ → List ℕ → Moment → Option ℕ
covering_from zero i table t = none
covering_from (suc k) i table t = pick (record_covers (record_at table i) t) (some i) (covering_from k (suc i) table t)

-- rows 23 and 24: "23 when there is a record 1 and t is below its start, else 24"
unfoldable pub outside : ℕ → List ℕ → Moment → Result Leaf Refusal
outside zero table t = Err (refusal 24 0)
outside (suc k) table t = pick (before t (record_at table 0).start) (Err (refusal 23 0)) (Err (refusal 24 0))

-- "a lookup the leaf's number and record"
unfoldable pub found : ℕ → List ℕ → Moment → Option ℕ → Result Leaf Refusal
found leaves table t none = outside leaves table t
found leaves table t (some i) = Ok (the_leaf (suc i) (record_at table i))

-- among so many leaves
abbrev pub look_in : ℕ → List ℕ → Moment → Result Leaf Refusal
look_in leaves table t = found leaves table t (covering_from leaves 0 table t)

-- row 26, request A1: the seconds are no time
unfoldable pub look_at : ℕ → List ℕ → Option Moment → Result Leaf Refusal
look_at leaves table none = Err (refusal 26 0)
look_at leaves table (some t) = look_in leaves table t

-- row 25: table shorter than six numbers a leaf
abbrev pub look_among : ℕ → List ℕ → Option Moment → Result Leaf Refusal
look_among leaves table t = pick (ltb (length table) (record_numbers * leaves)) (Err (refusal 25 0)) (look_at leaves table t)

-- row 22: lookup without an accepted finish
unfoldable pub lookup_state : State → List ℕ → Request → Result Leaf Refusal
lookup_state (state.Reading n leaves now last s) table r = Err (refusal 22 0)
lookup_state (state.Ended n leaves top) table r = Err (refusal 22 0)
lookup_state (state.Refused n leaves x) table r = Err (refusal 22 0)
lookup_state (state.Accepted n leaves top) table r = look_among leaves table (moment_of r top.scale)

-- "Lookup checks 2, 22, 25", then 26, "then gives the lowest-numbered record covering t"
unfoldable pub lookup_of : State → List ℕ → Request → Result Leaf Refusal
lookup_of s table r = pick (in_range s) (lookup_state s table r) (Err (refusal 2 0))
