-- The answer to a byte that a machine's answer is a view of: the view forgets nothing of it.
use mathlib.Core.Path.{◌≡◌, refl}
use Rattle.std.specs.Prelude.{Result, Ok, Err}
use Rattle.machine.specs.Run.{Sub, go, done, bad}
use Rattle.machine.specs.declared.Refusal.{Refusal}
use Rattle.machine.specs.declared.Step.{Step}
use Rattle.machine.specs.declared.Step.TheVariants as step
use Rattle.state.specs.Flow.{Flow, Left}
use Rattle.state.specs.Views.{view_as}

abbrev pub answer_as : {S R Q : Type 0} → (Q → R) → Sub S Q Flow Left → Result (Step S R) Refusal
answer_as gave (go s f) = Ok (step.Going s)
answer_as gave (done r f) = Ok (step.Done (gave r))
answer_as gave (bad x l) = Err x

abbrev pub answer_of : {S R : Type 0} → Sub S R Flow Left → Result (Step S R) Refusal
answer_of r = answer_as (λ x. x) r

pub answer_viewed : {S R : Type 0} (f : Flow) (r : Result (Step S R) Refusal) → answer_of (view_as (λ x. x) f r) ≡ r
answer_viewed f (Ok (step.Going s)) = refl
answer_viewed f (Ok (step.Done r)) = refl
answer_viewed f (Err x) = refl
