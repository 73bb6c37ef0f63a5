-- What demands 2 and 3 say, of start, one feed of all the bytes and finish, or of any parts fed in order and finished.
use Rattle.std.specs.Prelude.{ℕ, ◌*◌, ◌≡◌, List, ◌++◌, length, drop, Result, Ok}
use Rattle.std.proofs.Math.Option.{some}
use Rattle.table.specs.Table.{record_numbers}
use Rattle.segment.specs.Boxes.{Index, durations}
use Rattle.segment.specs.Tree.{Leaf, Opened, top_index}
use Rattle.machine.specs.declared.Refusal.{Refusal}
use Rattle.state.specs.declared.Top.{Top}
use Rattle.state.specs.declared.State.TheVariants as state
use Rattle.state.specs.Calls.{Out, start_of}
use Rattle.state.specs.Cutting.{held, feed_all, finish_held}
use Rattle.covering.specs.Records.{records_of}

-- what an index states of the segment: reference ID, timescale, start and sum of durations
abbrev pub stated : Index → Top
stated i = record { id = i.id; scale = i.scale; start = i.time; durations = durations i.entries }

-- A reading of these bytes is accepted with these leaves. It answers how many they are. The accepted state that it leaves has the number of
-- bytes, the number of leaves, and what the top index states. Their records stand at the front of the leaf table that was lent, the rest
-- of which stays.
pub record Accepts (brand : ℕ) (bytes table : List ℕ) (ls : List Leaf) (o : Out (Result ℕ Refusal)) : Type 0 where
  pub answers : o.answer ≡ Ok (length ls)
  pub top : Opened
  pub opened : top_index brand bytes ≡ some top
  pub states : o.state ≡ state.Accepted (length bytes) (length ls) (stated top.index)
  pub lists : o.table ≡ records_of ls ++ drop (record_numbers * length ls) table

-- a table that begins with the records of these leaves, whatever stands behind them
abbrev pub BeginsWith : List Leaf → List ℕ → Type 0
BeginsWith ls table = (behind : List ℕ) × (table ≡ records_of ls ++ behind)

-- start, the parts fed in order, and finish, which is called whatever the feeds answered
abbrev pub in_parts : ℕ → List (List ℕ) → List ℕ → List ℕ → Out (Result ℕ Refusal)
in_parts brand parts work table = finish_held (feed_all (held (start_of brand) work table) parts)
