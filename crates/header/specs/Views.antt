-- The refusal that the answer to a byte of a header holds; what a list of boxes makes of the answer of the box in it.
use Rattle.std.specs.Prelude.{ℕ, Result, Ok, Err}
use Rattle.machine.specs.Faults.{refusal}
use Rattle.machine.specs.Run.{Sub, bad, lift}
use Rattle.machine.specs.Lists.{BoxPhase, in_head, Boxes, lift_body, lift_box, headed}
use Rattle.machine.specs.declared.Head.{Head}
use Rattle.machine.specs.declared.Header.{Header}
use Rattle.machine.specs.declared.Refusal.{Refusal}
use Rattle.machine.specs.declared.Step.{Step}
use Rattle.state.specs.Flow.{Flow, Left}

-- the refusal that an answer holds; number 0 is none
abbrev pub refusal_head : Result (Step Head Header) Refusal → Refusal
refusal_head (Ok s) = refusal 0 0
refusal_head (Err x) = x

-- The answer of a box's body, of a header that was read, and of a byte of a header, in a list: `n` bytes up to the one at hand.
module _ {A B R Q S : Type 0} (l : Boxes A B R Q Flow Left) (wrap : A → BoxPhase B → S) (a : A) (n : ℕ) where
  abbrev pub after_body : Sub B R Flow Left → Sub S Q Flow Left
  after_body r = lift_box l wrap a n (lift_body (l.box a) r)

  abbrev pub after_header : Header → Flow → Sub S Q Flow Left
  after_header h f = lift_box l wrap a n (headed (l.box a) h f n)

  abbrev pub after_head : Sub Head Header Flow Left → Sub S Q Flow Left
  after_head r = lift_box l wrap a n (lift in_head (λ h f. headed (l.box a) h f n) bad r)
