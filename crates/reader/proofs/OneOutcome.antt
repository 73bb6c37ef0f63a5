-- The contracts of the functions that other crates call, as the check reads them: two outcomes that each allows coincide, and the one that requires nothing asks nothing.
use mathlib.Core.Path.{refl, sym, ◌∙◌}
use Rattle.basics.specs.Outcome.{OneOutcome, Coincide}
use Rattle.reader.proofs.read_field.Kinds as field-kinds
use Rattle.reader.proofs.read_field.Reads as field-stated
use Rattle.reader.proofs.read_sized.Kinds as sized-kinds
use Rattle.reader.proofs.read_sized.Reads as sized-stated
use Rattle.reader.proofs.skip_to.Kinds as skip-kinds
use Rattle.reader.proofs.skip_to.Reads as skip-stated
use Rattle.reader.proofs.read_head.Kinds as head-kinds
use Rattle.reader.proofs.read_head.Reads as head-stated
use Rattle.reader.proofs.quick_head.Kinds as quick-kinds
use Rattle.reader.proofs.quick_head.Reads as quick-stated

-- of the bytes, a position and a width: one field
pub read_field_once : Coincide 1 field-kinds.ps field-kinds.r field-stated.Post
read_field_once κs given r r' left left' p q = (p.0 ∙ sym q.0, refl)

-- and one of either width
pub read_sized_once : Coincide 1 sized-kinds.ps sized-kinds.r sized-stated.Post
read_sized_once κs given r r' left left' p q = (p ∙ sym q, refl)

-- of the bytes and a position: one answer of a skipped body
pub skip_to_once : OneOutcome 1 skip-kinds.ps skip-kinds.r skip-stated.Pre skip-stated.Post
skip_to_once = record { asks_nothing = λ κs given. tt; outcomes_coincide = λ κs given r r' left left' p q. (p ∙ sym q, refl) }

-- of the bytes, a position and a container's end: one header
pub read_head_once : Coincide 1 head-kinds.ps head-kinds.r head-stated.Post
read_head_once κs given r r' left left' p q = (p ∙ sym q, refl)

-- and the same where headers are many
pub quick_head_once : Coincide 1 quick-kinds.ps quick-kinds.r quick-stated.Post
quick_head_once κs given r r' left left' p q = (p ∙ sym q, refl)
