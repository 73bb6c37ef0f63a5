-- What the code's word for the number at hand says in the definition's words.
use Rattle.std.specs.Prelude.{ℕ, Some, None}
use Rattle.std.specs.Prelude as code
use Rattle.std.proofs.Math.Option.{Option, some, none}
use Rattle.machine.specs.declared.BoxesSo.{BoxesSo}
use Rattle.machine.specs.declared.BoxesSo.TheVariants as inBoxes
use Rattle.state.specs.Numbers.{Number, inside, head_number}
use Rattle.state.specs.Sidx.{next_byte}
use Rattle.number_at_hand.specs.declared.AtHand.{AtHand}

-- where the next byte is stored, if it is
unfoldable pub next_place : Option ℕ → ℕ → code.Option ℕ
next_place none more = None
next_place (some i) more = Some (next_byte i more)

-- the number at hand, told in the code's words
abbrev pub at_hand_of : {S : Type 0} → Number S → AtHand
at_hand_of x = record { more = x.more; acc = x.acc; place = next_place x.place x.more }

-- the number at hand in a list of boxes, told that of a body; and whether the body is ready
unfoldable pub boxes_number : {A B : Type 0} → (B → Number B) → BoxesSo A B → Number (BoxesSo A B)
boxes_number of_body (inBoxes.Head a h) = inside (inBoxes.Head a) (head_number h)
boxes_number of_body (inBoxes.Body a b) = inside (inBoxes.Body a) (of_body b)

unfoldable pub ReadyBoxes : {A B : Type 0} → (B → Type 0) → BoxesSo A B → Type 0
ReadyBoxes Ready (inBoxes.Head a h) = Unit {0}
ReadyBoxes Ready (inBoxes.Body a b) = Ready b
