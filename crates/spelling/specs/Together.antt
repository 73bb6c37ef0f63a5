-- The bytes of a number that are taken together, whatever the state, and what they leave.
use Rattle.std.specs.Prelude.{ℕ, ◌+◌, ◌-◌, ◌≤◌, List, length, take, drop, Option, Some, None}
use Rattle.basics.specs.Put.{put_all}
use Rattle.segment.specs.Constants.{limit}
use Rattle.state.specs.Jump.{least}
use Rattle.state.specs.Numbers.{stage_number, stage_on, work_on}
use Rattle.state.specs.declared.Stage.{Stage}
use Rattle.state.specs.declared.State.{State}
use Rattle.state.specs.declared.State.TheVariants as state

-- the state, the place in the piece and the work area after them
pub record Taken : Type 0 where
  pub state : State
  pub at : ℕ
  pub work : List ℕ

abbrev pub taken : State → ℕ → List ℕ → Taken
taken s i work = record { state = s; at = i; work = work }

-- of so many bytes, with so many before them, how many are taken together: none of them is the number's last, none is past the limit
abbrev pub together : ℕ → ℕ → ℕ → ℕ
together more rest n = least more (least rest (limit - n))

-- of a stage's number, in a piece from a place on: at least one byte is left
abbrev pub together_now : Stage → ℕ → List ℕ → ℕ → ℕ
together_now s n piece i = together (stage_number s).more (length piece - i - 1) n

-- they are taken
unfoldable pub spelled_on : State → List ℕ → ℕ → List ℕ → Taken
spelled_on (state.Reading n leaves now last s) piece i work =
    let k : ℕ = together_now s n piece i in
    let bytes : List ℕ = take k (drop i piece) in
    taken (state.Reading (n + k) leaves now last (stage_on s k bytes)) (i + k) (work_on s work bytes)
spelled_on (state.Ended n leaves top) piece i work = taken (state.Ended n leaves top) i work
spelled_on (state.Refused n leaves x) piece i work = taken (state.Refused n leaves x) i work
spelled_on (state.Accepted n leaves top) piece i work = taken (state.Accepted n leaves top) i work

-- bytes stored from a place on, if there is one; and they have room there
unfoldable pub stored_in : Option ℕ → List ℕ → List ℕ → List ℕ
stored_in None work bytes = work
stored_in (Some place) work bytes = put_all work place bytes

unfoldable pub Room : Option ℕ → ℕ → ℕ → Type 0
Room None count long = Unit {0}
Room (Some place) count long = place + count ≤ long
