-- What the code's answers say in the definition's words.
use Rattle.std.specs.Prelude.{ℕ, ◌*◌, ◌≤◌, ◌<◌, List, [], ◌∷◌, Option, Some, None, Result, Ok, Err}
use Rattle.segment.specs.Constants.{type_bit, most_entries}
use Rattle.state.specs.Ranges.{word_limit}
use Rattle.machine.specs.Faults.{refusal}
use Rattle.machine.specs.declared.Refusal.{Refusal}
use Rattle.machine.specs.declared.Step.{Step}
use Rattle.state.specs.declared.Sums.{Sums}
use Rattle.state.specs.declared.Sidx.{Sidx}
use Rattle.state.specs.declared.IndexRead.{IndexRead}
use Rattle.state.specs.Sidx.{Place, topmost, under}
use Rattle.index.specs.declared.Where.{Where}
use Rattle.index.specs.declared.Where.TheVariants as places

abbrev pub place_of : Where → Place
place_of places.Topmost = topmost
place_of (places.Under top slot depth) = under top slot depth

-- the refusal that an answer holds; number 0 is none
abbrev pub refusal_index : Result (Step Sidx IndexRead) Refusal → Refusal
refusal_index (Ok s) = refusal 0 0
refusal_index (Err x) = x

-- the fault that a number shows at a place
abbrev pub shown_by : Option ℕ → ℕ → List Refusal
shown_by None place = []
shown_by (Some number) place = refusal number place ∷ []

-- what code needs to stay inside its numbers: an inner index is on level 4 at the most,
abbrev pub Shallow : Where → Type 0
Shallow places.Topmost = Unit {0}
Shallow (places.Under top slot depth) = depth < 4

-- its entry ends no earlier than it starts, at the time `at`,
abbrev pub Timely : Where → ℕ → Type 0
Timely places.Topmost at = Unit {0}
Timely (places.Under top slot depth) at = at ≤ slot.until

-- and sums of at most 1,024 entries
abbrev pub Summed : Sums → Type 0
Summed s = (s.next < s.count) × (s.count ≤ most_entries) × (s.sizes ≤ type_bit * most_entries) × (s.durations ≤ word_limit * most_entries)
