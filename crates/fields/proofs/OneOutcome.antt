-- The contracts of the functions that other crates call, as the check reads them: two outcomes that each allows coincide, and the one that requires nothing asks nothing.
use mathlib.Core.Path.{refl, sym, ◌∙◌}
use Rattle.basics.specs.Outcome.{OneOutcome, Coincide}
use Rattle.fields.proofs.stop_at.Kinds as stop-kinds
use Rattle.fields.proofs.stop_at.Reads as stop-stated
use Rattle.fields.proofs.word_at.Kinds as word-kinds
use Rattle.fields.proofs.word_at.Reads as word-stated
use Rattle.fields.proofs.field_at.Kinds as field-kinds
use Rattle.fields.proofs.field_at.Reads as field-stated
use Rattle.fields.proofs.head_at.Kinds as head-kinds
use Rattle.fields.proofs.head_at.Reads as head-stated

-- of one number, box and byte: one fault
pub stop_at_once : OneOutcome 0 stop-kinds.ps stop-kinds.r stop-stated.Pre stop-stated.Post
stop_at_once = record { asks_nothing = λ κs given. tt; outcomes_coincide = λ κs given r r' left left' p q. (p ∙ sym q, refl) }

-- of the bytes and a position: one number
pub word_at_once : Coincide 1 word-kinds.ps word-kinds.r word-stated.Post
word_at_once κs given r r' left left' p q = (p.0 ∙ sym q.0, refl)

-- of the bytes, a position and a width: one field
pub field_at_once : Coincide 1 field-kinds.ps field-kinds.r field-stated.Post
field_at_once κs given r r' left left' p q = (p.0 ∙ sym q.0, refl)

-- of the bytes, a position and a container's end: one header
pub head_at_once : Coincide 1 head-kinds.ps head-kinds.r head-stated.Post
head_at_once κs given r r' left left' p q = (p ∙ sym q, refl)
