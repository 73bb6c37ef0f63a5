-- A segment read whole, by the definition of start, one feed of all its bytes and finish; and when that is alike to an end.
use Rattle.std.specs.Prelude.{ℕ, ◌≡◌, List, Result}
use Rattle.machine.specs.declared.Refusal.{Refusal}
use Rattle.state.specs.Calls.{Out, whole_of}
use Rattle.cases_data.specs.Lent.{msdh}
use Rattle.cases_trial.specs.Ends.{end_of}
use Rattle.cases_trial.specs.declared.alike.End.{End}

-- the answer and the state that the reading leaves, as an end
abbrev pub end_in : Out (Result ℕ Refusal) → End
end_in o = end_of o.answer o.state

-- the end of the reading, and what it leaves in the buffers
pub record WholeRead (segment work table : List ℕ) (r : End) (work' table' : List ℕ) : Type 0 where
  pub ends : r ≡ end_in (whole_of msdh segment work table)
  pub works : work' ≡ (whole_of msdh segment work table).work
  pub tables : table' ≡ (whole_of msdh segment work table).table

-- read so with buffers of its own, the segment ends so and leaves this work area and this table
abbrev pub WholeAlike : List ℕ → End → List ℕ → List ℕ → List ℕ → List ℕ → Type 0
WholeAlike segment end work table own-work own-table =
    let r = whole_of msdh segment own-work own-table in
    ((end_in r ≡ end) × (r.work ≡ work)) × (r.table ≡ table)
