-- A list of boxes as the code holds it: its states, their ranges, and one byte.
use Rattle.std.specs.Prelude.{ℕ, List, ltb, Option, Some, None, Result, Ok, Err}
use Rattle.basics.specs.Choose.{pick}
use Rattle.machine.specs.Faults.{refusal, unless}
use Rattle.machine.specs.declared.Refusal.{Refusal}
use Rattle.machine.specs.Run.{Sub, go, done, bad}
use Rattle.machine.specs.Lists.{BoxPhase, in_head, in_body, Next, again, over, Boxes, step_boxes}
use Rattle.machine.specs.declared.BoxesSo.{BoxesSo}
use Rattle.machine.specs.declared.Head.TheVariants as at
use Rattle.machine.specs.declared.BoxesSo.TheVariants as so
use Rattle.state.specs.Flow.{Flow, Left, left}
use Rattle.state.specs.Ranges.{Bound, head_bounds}

-- a refusal, or what lacks where its number is lower
unfoldable pub lower : Option ℕ → ℕ → Refusal → Refusal
lower None p x = x
lower (Some m) p x = pick (ltb m x.number) (refusal m p) x

-- what is over where nothing lacks
unfoldable pub ended : {A : Type 0} → Option ℕ → ℕ → A → Result A Refusal
ended None p a = Ok a
ended (Some m) p a = Err (refusal m p)

-- a box in its header, or in its body
abbrev pub boxed : {A B : Type 0} → A → BoxPhase B → BoxesSo A B
boxed a (in_head h) = so.Head a h
boxed a (in_body s) = so.Body a s

-- the header of the next box
abbrev pub next_head : {A B : Type 0} → A → BoxesSo A B
next_head a = so.Head a at.First

-- the list goes on, or it is over; with a fault that shows it is refused
unfoldable pub on_from : {A Q : Type 0} → Next A Q → Flow → Sub A Q Flow Left
on_from (again a xs) f = unless xs (λ x. bad x (left f)) (go a f)
on_from (over q xs) f = unless xs (λ x. bad x (left f)) (done q f)

unfoldable pub list_bounds : {A B : Type 0} → (B → List Bound) → BoxesSo A B → List Bound
list_bounds bounds (so.Head a h) = head_bounds h
list_bounds bounds (so.Body a s) = bounds s

module _ {A B R Q : Type 0} (l : Boxes A B R Q Flow Left) where
  unfoldable pub step_list : BoxesSo A B → Flow → ℕ → ℕ → Sub (BoxesSo A B) Q Flow Left
  step_list (so.Head a h) f n b = step_boxes l boxed a (in_head h) f n b
  step_list (so.Body a s) f n b = step_boxes l boxed a (in_body s) f n b
