-- The contract of `double_of` itself, as the check reads it: it asks nothing, and two outcomes that it allows coincide.
use mathlib.Core.Path.{refl, sym, ◌∙◌}
use Rattle.basics.specs.Outcome.{OneOutcome}
use Rattle.doubles.proofs.double_of.Kinds as kinds
use Rattle.doubles.proofs.double_of.Reads as stated

-- of one bit pattern: one double
pub double_of_once : OneOutcome 0 kinds.ps kinds.r stated.Pre stated.Post
double_of_once = record { asks_nothing = λ κs given. tt; outcomes_coincide = λ κs given r r' left left' p q. (p ∙ sym q, refl) }
