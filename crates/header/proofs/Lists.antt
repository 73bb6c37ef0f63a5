-- One byte of a list of boxes, from what its header or its body makes of the byte.
use Prim.Native.Nat.{ℕ, ◌+◌}
use mathlib.Core.Path.{◌≡◌, ap}
use native.Mathlib.Numerals.{add-one}
use Rattle.machine.specs.Heads.{step_head}
use Rattle.machine.specs.Lists.{BoxPhase, in_head, in_body, Boxes, step_box, step_boxes}
use Rattle.machine.specs.declared.Head.{Head}
use Rattle.state.specs.Flow.{Flow, Left}
use Rattle.header.specs.Views.{after_head, after_body}

-- one byte of a list; the code counts `n + 1` bytes up to the one at hand
module _ {A B R Q S : Type 0} (l : Boxes A B R Q Flow Left) (wrap : A → BoxPhase B → S) (a : A) (f : Flow) (n b : ℕ) where
  pub head_step : (h : Head) → after_head l wrap a (n + 1) (step_head (l.box a).left (l.box a).end h f n b) ≡ step_boxes l wrap a (in_head h) f n b
  unfolding step_box
  head_step h = ap (λ (m : ℕ). after_head l wrap a m (step_head (l.box a).left (l.box a).end h f n b)) (add-one n)

  pub body_step : (s : B) → after_body l wrap a (n + 1) ((l.box a).body s f n b) ≡ step_boxes l wrap a (in_body s) f n b
  unfolding step_box
  body_step s = ap (λ (m : ℕ). after_body l wrap a m ((l.box a).body s f n b)) (add-one n)
