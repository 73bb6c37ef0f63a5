-- The contracts of the functions that other crates call, as the check reads them: two outcomes that one allows coincide, and those that ask nothing say so.
use mathlib.Core.Path.{◌≡◌, refl, sym, ◌∙◌}
use mathlib.Core.List.{[]}
use Rattle.basics.proofs.Outcomes.{left_inverse_equal}
use Rattle.basics.specs.Outcome.{Coincide, OneOutcome}
use Rattle.state.specs.Calls.{flow_of}
use Rattle.state.proofs.Views.{answer_of, answer_viewed}
use Rattle.header.proofs.refused_head.Kinds as refused-kinds
use Rattle.header.proofs.refused_head.Reads as refused-stated
use Rattle.header.proofs.spelled.Kinds as spelled-kinds
use Rattle.header.proofs.spelled.Reads as spelled-stated
use Rattle.header.proofs.head_byte.Kinds as byte-kinds
use Rattle.header.proofs.head_byte.Reads as byte-stated

-- of one answer to a byte: one refusal
pub refused_head_once : OneOutcome 0 refused-kinds.ps refused-kinds.r refused-stated.Pre refused-stated.Post
refused_head_once = record { asks_nothing = λ κs given. tt; outcomes_coincide = λ κs given r r' left left' p q. (p ∙ sym q, refl) }

-- of one number so far and byte: one number
pub spelled_once : Coincide 0 spelled-kinds.ps spelled-kinds.r spelled-stated.Post
spelled_once = λ κs given r r' left left' p q. (p ∙ sym q, refl)

-- of one container's end, header so far, count of bytes and byte: one answer
pub head_byte_once : Coincide 0 byte-kinds.ps byte-kinds.r byte-stated.Post
head_byte_once = λ κs given r r' left left' p q.
    let f = flow_of 0 0 0 [] [] in
    (left_inverse_equal answer_of (answer_viewed f r) (answer_viewed f r') (p f ∙ sym (q f)), refl)
