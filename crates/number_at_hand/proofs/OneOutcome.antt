-- The contracts of the functions that other crates call, as the check reads them: two outcomes that one allows coincide, and those that ask nothing say so.
use mathlib.Core.Path.{refl, sym, ◌∙◌}
use Rattle.basics.specs.Outcome.{Coincide, OneOutcome}
use Rattle.number_at_hand.proofs.leaf_number.Kinds as leaf-number-kinds
use Rattle.number_at_hand.proofs.leaf_number.Reads as leaf-number-stated
use Rattle.number_at_hand.proofs.leaf_again.Kinds as leaf-again-kinds
use Rattle.number_at_hand.proofs.leaf_again.Reads as leaf-again-stated
use Rattle.number_at_hand.proofs.stage_number.Kinds as number-kinds
use Rattle.number_at_hand.proofs.stage_number.Reads as number-stated
use Rattle.number_at_hand.proofs.stage_again.Kinds as again-kinds
use Rattle.number_at_hand.proofs.stage_again.Reads as again-stated

-- of one leaf's boxes: one number at hand
pub leaf_number_once : OneOutcome 0 leaf-number-kinds.ps leaf-number-kinds.r leaf-number-stated.Pre leaf-number-stated.Post
leaf_number_once = record { asks_nothing = λ κs given. tt; outcomes_coincide = λ κs given r r' left left' p q. (p ∙ sym q, refl) }

-- of one leaf's boxes and what is read of their number: the same boxes
pub leaf_again_once : OneOutcome 0 leaf-again-kinds.ps leaf-again-kinds.r leaf-again-stated.Pre leaf-again-stated.Post
leaf_again_once = record { asks_nothing = λ κs given. tt; outcomes_coincide = λ κs given r r' left left' p q. (p ∙ sym q, refl) }

-- of one stage and time: one number at hand
pub stage_number_once : Coincide 0 number-kinds.ps number-kinds.r number-stated.Post
stage_number_once κs given r r' left left' p q = (p ∙ sym q, refl)

-- of one stage and what is read of its number: one stage
pub stage_again_once : OneOutcome 0 again-kinds.ps again-kinds.r again-stated.Pre again-stated.Post
stage_again_once = record { asks_nothing = λ κs given. tt; outcomes_coincide = λ κs given r r' left left' p q. (p ∙ sym q, refl) }
