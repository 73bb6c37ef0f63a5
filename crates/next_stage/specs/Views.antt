-- What a stage's step answers, read as the byte definition's.
use Rattle.std.specs.Prelude.{ℕ, List, Result, Ok, Err}
use Rattle.machine.specs.Run.{Sub, go, done, bad}
use Rattle.machine.specs.declared.Refusal.{Refusal}
use Rattle.machine.specs.declared.Step.{Step}
use Rattle.machine.specs.declared.Step.TheVariants as step
use Rattle.state.specs.declared.Stage.{Stage}
use Rattle.state.specs.declared.Top.{Top}
use Rattle.state.specs.Flow.{Flow, Left}
use Rattle.state.specs.Calls.{flow_of, left_of}
use Rattle.next_stage.specs.declared.Running.{Running}

-- the numbers that flow, with the two buffers
abbrev pub flowing : Running → List ℕ → List ℕ → Flow
flowing r work table = flow_of r.leaves r.now r.last work table

-- what a byte makes of a stage, with the numbers that flow on, or a refusal
abbrev pub StageAnswer : Type 0
StageAnswer = Result (Step (Stage × Running) (Top × Running)) Refusal

-- a refusal leaves the count of leaves as it was
abbrev pub view_stage : ℕ → List ℕ → List ℕ → StageAnswer → Sub Stage Top Flow Left
view_stage leaves work table (Ok (step.Going p)) = go p.0 (flowing p.1 work table)
view_stage leaves work table (Ok (step.Done p)) = done p.0 (flowing p.1 work table)
view_stage leaves work table (Err x) = bad x (left_of leaves work table)
