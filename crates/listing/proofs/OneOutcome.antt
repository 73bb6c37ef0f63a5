-- The contracts of `heading`, `refused_line`, `leaf_line` and `table_line` themselves, as the check reads them: each asks nothing, and two outcomes that it allows coincide.
use mathlib.Core.Path.{refl, sym, ◌∙◌}
use Rattle.basics.specs.Outcome.{OneOutcome}
use Rattle.listing.proofs.heading.Kinds as heading-kinds
use Rattle.listing.proofs.heading.Reads as heading-stated
use Rattle.listing.proofs.refused_line.Kinds as refused-kinds
use Rattle.listing.proofs.refused_line.Reads as refused-stated
use Rattle.listing.proofs.leaf_line.Kinds as leaf-kinds
use Rattle.listing.proofs.leaf_line.Reads as leaf-stated
use Rattle.listing.proofs.table_line.Kinds as table-line-kinds
use Rattle.listing.proofs.table_line.Reads as table-line-stated

-- of one answer: one line
pub heading_once : OneOutcome 0 heading-kinds.ps heading-kinds.r heading-stated.Pre heading-stated.Post
heading_once = record { asks_nothing = λ κs given. tt; outcomes_coincide = λ κs given r r' left left' p q. (p ∙ sym q, refl) }

-- of one refusal: one line
pub refused_once : OneOutcome 0 refused-kinds.ps refused-kinds.r refused-stated.Pre refused-stated.Post
refused_once = record { asks_nothing = λ κs given. tt; outcomes_coincide = λ κs given r r' left left' p q. (p ∙ sym q, refl) }

-- of one leaf number and record: one line
pub leaf_once : OneOutcome 0 leaf-kinds.ps leaf-kinds.r leaf-stated.Pre leaf-stated.Post
leaf_once = record { asks_nothing = λ κs given. tt; outcomes_coincide = λ κs given r r' left left' p q. (p ∙ sym q, refl) }

-- of one table and a leaf: one line
pub table_line_once : OneOutcome 1 table-line-kinds.ps table-line-kinds.r table-line-stated.Pre table-line-stated.Post
table_line_once = record { asks_nothing = λ κs given. tt; outcomes_coincide = λ κs given r r' left left' p q. (p ∙ sym q, refl) }
