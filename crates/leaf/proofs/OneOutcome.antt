-- The contract of `leaf_byte` itself, as the check reads it: two outcomes that it allows coincide.
use mathlib.Core.Path.{refl, sym, ◌∙◌}
use Rattle.basics.proofs.Outcomes.{left_inverse_equal}
use Rattle.basics.specs.Outcome.{Coincide}
use Rattle.state.proofs.Views.{answer_of, answer_viewed}
use Rattle.leaf.specs.Rooms.{roomy, roomy_is}
use Rattle.leaf.proofs.leaf_byte.Kinds as byte-kinds
use Rattle.leaf.proofs.leaf_byte.Reads as byte-stated

-- of one reference ID, leaf, word on room, boxes so far, count of bytes and byte: one answer
pub leaf_byte_once : Coincide 0 byte-kinds.ps byte-kinds.r byte-stated.Post
leaf_byte_once = λ κs given r r' left left' p q.
    let full = given.1.1.0 in
    let f = roomy full in
    (left_inverse_equal answer_of (answer_viewed f r) (answer_viewed f r') (p f (roomy_is full) ∙ sym (q f (roomy_is full))), refl)
