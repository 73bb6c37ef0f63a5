-- What a stage makes of the answer of its part, and what is left in the leaf table.
use Rattle.std.specs.Prelude.{ℕ, ◌+◌, ◌*◌, ◌≤◌, ◌<◌, List, length, Result, Ok, Err}
use Rattle.segment.specs.Constants.{time_limit}
use Rattle.table.specs.Table.{record_numbers, put_record}
use Rattle.machine.specs.Run.{Sub, bad, lift}
use Rattle.machine.specs.declared.Refusal.{Refusal}
use Rattle.machine.specs.declared.Step.{Step}
use Rattle.machine.specs.declared.Step.TheVariants as step
use Rattle.state.specs.declared.Top.{Top}
use Rattle.state.specs.declared.Seen.{Seen}
use Rattle.state.specs.declared.Level.{Level}
use Rattle.state.specs.declared.Levels.TheVariants as levels
use Rattle.state.specs.declared.Slot.{Slot}
use Rattle.state.specs.declared.IndexRead.{IndexRead}
use Rattle.state.specs.Boxed.{LeafBoxes, OpeningBoxes}
use Rattle.state.specs.declared.GapBoxes.{GapBoxes}
use Rattle.state.specs.declared.Stage.{Stage}
use Rattle.state.specs.declared.Stage.TheVariants as stage
use Rattle.state.specs.Flow.{Flow, Left}
use Rattle.state.specs.Stages.{follow, index_ends, leaf_record}

-- the boxes up to the top index, which ends at byte n where it does
abbrev pub lift_opening : ℕ → ℕ → Sub OpeningBoxes IndexRead Flow Left → Sub Stage Top Flow Left
lift_opening brand n r = lift (stage.Opening brand) (λ x g. index_ends x g n) bad r

-- where the top index ends at byte n, where and when its material ends are words
abbrev pub Ends : ℕ → IndexRead → Type 0
Ends n x = (n + x.offset + x.sizes < time_limit) × (x.time + x.durations < time_limit)

abbrev pub EndsIn : ℕ → Result (Step OpeningBoxes IndexRead) Refusal → Type 0
EndsIn n (Ok (step.Going s)) = Unit {0}
EndsIn n (Ok (step.Done x)) = Ends n x
EndsIn n (Err x) = Unit {0}

abbrev pub lift_gap : Top → Level → ℕ → Sub GapBoxes (Unit {0}) Flow Left → Sub Stage Top Flow Left
lift_gap top l end r = lift (stage.Gap top l end) (λ u g. follow top (levels.One l) g) bad r

-- where a leaf is done, the table has room for its record
abbrev pub RoomFor : ℕ → Result (Step LeafBoxes Seen) Refusal → List ℕ → Type 0
RoomFor count (Ok (step.Going s)) table = Unit {0}
RoomFor count (Ok (step.Done seen)) table = record_numbers * count + record_numbers ≤ length table
RoomFor count (Err x) table = Unit {0}

-- a leaf that is done has its record in the table
unfoldable pub table_after : ℕ → Slot → ℕ → Result (Step LeafBoxes Seen) Refusal → List ℕ → List ℕ
table_after count slot at (Ok (step.Going s)) table = table
table_after count slot at (Ok (step.Done seen)) table = put_record table count (leaf_record slot at seen.first)
table_after count slot at (Err x) table = table
