-- The contract of `finish` itself, as the check reads it: it asks nothing, and two outcomes that it allows coincide.
use mathlib.Core.Path.{refl, sym, ap, ◌∙◌}
use Rattle.basics.specs.Outcome.{OneOutcome}
use Rattle.state.specs.Calls.{Finished}
use Rattle.finish.proofs.finish.Kinds as finish-kinds
use Rattle.finish.proofs.finish.Reads as finish-stated

-- of one state: one answer and state
pub finish_once : OneOutcome 0 finish-kinds.ps finish-kinds.r finish-stated.Pre finish-stated.Post
finish_once = record {
  asks_nothing = λ κs given. tt;
  outcomes_coincide = λ κs given r r' left left' p q. (ap (λ (o : Finished). record { answer = o.answer; state = o.state }) (p ∙ sym q), refl);
}
