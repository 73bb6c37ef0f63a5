-- What the inner functions of a lookup answer: a spot, which stands for an answer in a table.
use Rattle.std.specs.Prelude.{ℕ, ◌+◌, ◌*◌, ◌/◌, ◌≤◌, ◌≡◌, List, length, get_or, Result, Ok, Err}
use Rattle.machine.specs.declared.Refusal.{Refusal}
use Rattle.machine.specs.Faults.{refusal}
use Rattle.table.specs.declared.Record.{Record}
use Rattle.table.specs.Table.{record_numbers, record_at}
use Rattle.covering.specs.declared.Leaf.{Leaf}
use Rattle.covering.specs.Lookup.{the_leaf}

-- the record whose first number stands at a place of a table
abbrev pub record_from : List ℕ → ℕ → Record
record_from table at =
    let number : ℕ → ℕ = λ k. get_or table (at + k) 0 in
    record { position = number 0; size = number 1; start = number 2; duration = number 3; sap = number 4; time = number 5 }

-- the record at a spot lies inside the table, and starts where a record does
pub record AtRecord (table : List ℕ) (at : ℕ) : Type 0 where
  pub starts : record_numbers * (at / record_numbers) ≡ at
  pub inside : at + record_numbers ≤ length table

-- the answer that a spot stands for in a table: the leaf whose record is there, or a refusal
abbrev pub answer_at : List ℕ → Result ℕ ℕ → Result Leaf Refusal
answer_at table (Ok at) = Ok (the_leaf (at / record_numbers + 1) (record_at table (at / record_numbers)))
answer_at table (Err n) = Err (refusal n 0)

-- the spot lies on a record, if it is no refusal
abbrev pub OnRecord : List ℕ → Result ℕ ℕ → Type 0
OnRecord table (Ok at) = AtRecord table at
OnRecord table (Err n) = Unit {0}

-- an answer is what a spot stands for
abbrev pub Spots : List ℕ → Result Leaf Refusal → Result ℕ ℕ → Type 0
Spots table a (Ok at) = AtRecord table at × (answer_at table (Ok at) ≡ a)
Spots table a (Err n) = answer_at table (Err n) ≡ a
