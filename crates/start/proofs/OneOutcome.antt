-- The contract of `start` itself, as the check reads it: it asks nothing, and two outcomes that it allows coincide.
use mathlib.Core.Path.{refl, sym, ◌∙◌}
use Rattle.basics.specs.Outcome.{OneOutcome}
use Rattle.start.proofs.start.Kinds as start-kinds
use Rattle.start.proofs.start.Reads as start-stated

-- of one brand: one state
pub start_once : OneOutcome 0 start-kinds.ps start-kinds.r start-stated.Pre start-stated.Post
start_once = record { asks_nothing = λ κs given. tt; outcomes_coincide = λ κs given r r' left left' p q. (p ∙ sym q, refl) }
