-- The contracts of `in_range`, `accepted_in_range` and `skip_in_range` themselves, as the check reads them: they ask nothing, and two outcomes that one of them
-- allows coincide.
use mathlib.Core.Path.{refl, sym, ◌∙◌}
use mathlib.Core.Bool.{false}
use Rattle.basics.specs.Outcome.{OneOutcome}
use Rattle.range.proofs.in_range.Kinds as kinds
use Rattle.range.proofs.in_range.Reads as stated
use Rattle.range.proofs.accepted_in_range.Kinds as accepted-kinds
use Rattle.range.proofs.accepted_in_range.Reads as accepted-stated
use Rattle.range.proofs.skip_in_range.Kinds as skip-kinds
use Rattle.range.proofs.skip_in_range.Reads as skip-stated
use Rattle.state.specs.declared.LeafSo.{LeafSo}

-- of one state: one answer
pub in_range_once : OneOutcome 0 kinds.ps kinds.r stated.Pre stated.Post
in_range_once = record { asks_nothing = λ κs given. tt; outcomes_coincide = λ κs given r r' left left' p q. (p ∙ sym q, refl) }

-- of the numbers of an accepted state: one answer
pub accepted_in_range_once : OneOutcome 0 accepted-kinds.ps accepted-kinds.r accepted-stated.Pre accepted-stated.Post
accepted_in_range_once = record { asks_nothing = λ κs given. tt; outcomes_coincide = λ κs given r r' left left' p q. (p ∙ sym q, refl) }

-- of the numbers of a state that skips a body of a leaf: one answer, whatever was read of the leaf
pub skip_in_range_once : OneOutcome 0 skip-kinds.ps skip-kinds.r skip-stated.Pre skip-stated.Post
skip_in_range_once = record { asks_nothing = λ κs given. tt; outcomes_coincide = λ κs given r r' left left' p q. (p 0 0 fresh ∙ sym (q 0 0 fresh), refl) }
  where
    fresh : LeafSo
    fresh = record { moof = false; seen = record { any = false; first = 0; last = 0 } }
