-- The code's answer to a byte, with what flows, as a machine's answer: a refusal leaves of what flows what `left` says.
use Rattle.std.specs.Prelude.{Result, Ok, Err}
use Rattle.machine.specs.Run.{Sub, go, done, bad}
use Rattle.machine.specs.declared.Refusal.{Refusal}
use Rattle.machine.specs.declared.Step.{Step}
use Rattle.machine.specs.declared.Step.TheVariants as step
use Rattle.state.specs.Flow.{Flow, Left, left}

-- where the code says in other words what a byte gives
abbrev pub view_as : {S R Q : Type 0} → (R → Q) → Flow → Result (Step S R) Refusal → Sub S Q Flow Left
view_as gives f (Ok (step.Going s)) = go s f
view_as gives f (Ok (step.Done r)) = done (gives r) f
view_as gives f (Err x) = bad x (left f)

abbrev pub view : {S R : Type 0} → Flow → Result (Step S R) Refusal → Sub S R Flow Left
view f r = view_as (λ x. x) f r
