-- The contracts of the functions that other crates call, as the check reads them: two outcomes that one allows coincide, and one that asks nothing says so.
use mathlib.Core.Path.{refl, sym, ◌∙◌}
use mathlib.Core.List.{[]}
use Rattle.basics.proofs.Outcomes.{left_inverse_equal}
use Rattle.basics.specs.Outcome.{Coincide, OneOutcome}
use Rattle.state.specs.Calls.{flow_of}
use Rattle.state.proofs.Views.{answer_of, answer_viewed}
use Rattle.traf.proofs.traf_byte.Kinds as byte-kinds
use Rattle.traf.proofs.traf_byte.Reads as byte-stated
use Rattle.traf.proofs.traf_begin.Kinds as begin-kinds
use Rattle.traf.proofs.traf_begin.Reads as begin-stated

-- of one reference ID, `traf`, boxes so far, count of bytes and byte: one answer
pub traf_byte_once : Coincide 0 byte-kinds.ps byte-kinds.r byte-stated.Post
traf_byte_once = λ κs given r r' left left' p q.
    let f = flow_of 0 0 0 [] [] in
    (left_inverse_equal answer_of (answer_viewed f r) (answer_viewed f r') (p f ∙ sym (q f)), refl)

-- of one `traf`, decode times seen and count of bytes: one answer
pub traf_begin_once : OneOutcome 0 begin-kinds.ps begin-kinds.r begin-stated.Pre begin-stated.Post
traf_begin_once = record {
  asks_nothing = λ κs given. tt;
  outcomes_coincide = λ κs given r r' left left' p q.
      let f = flow_of 0 0 0 [] [] in
      (left_inverse_equal answer_of (answer_viewed f r) (answer_viewed f r') (p 0 f ∙ sym (q 0 f)), refl);
}
