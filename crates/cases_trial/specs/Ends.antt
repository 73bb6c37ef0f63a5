-- The end of a reading, and what feed has to answer on the way to it.
use Rattle.std.specs.Prelude.{ℕ, Bool, false, not, ◌&&◌, eqb, ltb, leb, Option, Some, None, Result, Ok, Err}
use Rattle.machine.specs.declared.Refusal.{Refusal}
use Rattle.basics.specs.Choose.{pick}
use Rattle.state.specs.declared.State.{State}
use Rattle.state.specs.declared.State.TheVariants as state
use Rattle.cases_trial.specs.declared.alike.End.{End}
use Rattle.cases_trial.specs.declared.alike.Ending.{Ending}
use Rattle.cases_trial.specs.declared.alike.Ending.TheVariants as ending

-- what a state is and holds; of a reading that goes on, the stage and its times are left out
unfoldable pub left_by : State → Ending
left_by (state.Reading count leaves now last stage) = ending.Reading count leaves
left_by (state.Ended count leaves top) = ending.Ended count leaves top
left_by (state.Refused count leaves refusal) = ending.Refused count leaves refusal
left_by (state.Accepted count leaves top) = ending.Accepted count leaves top

-- what finish answered, and the state that it left
abbrev pub end_of : Result ℕ Refusal → State → End
end_of answer s = record { answer = answer; left = left_by s }

-- how many bytes were read when feed refused, the byte at fault among them; none where it did not. Number 20 is that of finish.
unfoldable pub refused_in : Ending → Option ℕ
refused_in (ending.Reading count leaves) = None
refused_in (ending.Ended count leaves top) = None
refused_in (ending.Refused count leaves refusal) = pick (not (eqb refusal.number 20) && ltb 0 count) (Some count) None
refused_in (ending.Accepted count leaves top) = None

-- the same, of a segment that ends so
abbrev pub refused_after : End → Option ℕ
refused_after end = refused_in end.left

unfoldable pub reached : Option ℕ → ℕ → Bool
reached None k = false
reached (Some after) k = leb after k

-- whether feed has to refuse the k-th byte of a segment that ends so, or has done so before
abbrev pub over_by : ℕ → End → Bool
over_by k end = reached (refused_after end) k

-- the refusal that is kept, where one is asked for, or the count
unfoldable pub asked : Ending → Bool → ℕ → Result ℕ Refusal
asked (ending.Reading count leaves) over k = Ok k
asked (ending.Ended count leaves top) over k = Ok k
asked (ending.Refused count leaves refusal) over k = pick over (Err refusal) (Ok k)
asked (ending.Accepted count leaves top) over k = Ok k

-- what feed answers once k bytes were fed: the refusal, if the byte at fault was among them, or the count
abbrev pub answer_at : ℕ → End → Result ℕ Refusal
answer_at k end = asked end.left (over_by k end) k
