-- What feed answers for the state that it leaves, and the state after a byte.
use Rattle.std.specs.Prelude.{ℕ, ◌+◌, Result, Ok, Err}
use Rattle.machine.specs.declared.Refusal.{Refusal}
use Rattle.machine.specs.Faults.{refusal}
use Rattle.state.specs.declared.State.{State}
use Rattle.state.specs.declared.State.TheVariants as state
use Rattle.machine.specs.declared.Step.TheVariants as step
use Rattle.next_stage.specs.Views.{StageAnswer}

unfoldable pub answered : State → Result ℕ Refusal
answered (state.Reading n leaves now last s) = Ok n
answered (state.Ended n leaves top) = Ok n
answered (state.Refused n leaves x) = Err x
answered (state.Accepted n leaves top) = Err (refusal 22 0)

-- the state that a stage's step at byte `n` leads to
unfoldable pub stepped : ℕ → ℕ → StageAnswer → State
stepped n leaves (Ok (step.Going p)) = state.Reading (n + 1) p.1.leaves p.1.now p.1.last p.0
stepped n leaves (Ok (step.Done p)) = state.Ended (n + 1) p.1.leaves p.0
stepped n leaves (Err x) = state.Refused (n + 1) leaves x
