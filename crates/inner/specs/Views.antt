-- The first box of an index entry as the definition's, and the code's answer to a byte of it, with what flows.
use Rattle.std.specs.Prelude.{ℕ, List, ◌∷◌, Result, Ok, Err}
use Rattle.machine.specs.Run.{Sub, go, done, bad}
use Rattle.machine.specs.Lists.{BoxPhase, in_head, in_body}
use Rattle.machine.specs.declared.Refusal.{Refusal}
use Rattle.machine.specs.declared.Step.{Step}
use Rattle.machine.specs.declared.Step.TheVariants as step
use Rattle.state.specs.declared.IndexRead.{IndexRead}
use Rattle.state.specs.declared.InnerBox.{InnerBox}
use Rattle.state.specs.declared.InnerBox.TheVariants as boxes
use Rattle.state.specs.Flow.{Flow, Left, left}
use Rattle.state.specs.Stages.{InnerBody}
use Rattle.state.specs.Ranges.{Bound, below, head_bounds, sidx_bounds}

abbrev pub inner_phase : InnerBox → BoxPhase InnerBody
inner_phase (boxes.Head h) = in_head h
inner_phase (boxes.Body span s) = in_body (record { span = span; sidx = s })

abbrev pub view_inner : Flow → Result (Step InnerBox IndexRead) Refusal → Sub (BoxPhase InnerBody) IndexRead Flow Left
view_inner f (Ok (step.Going s)) = go (inner_phase s) f
view_inner f (Ok (step.Done x)) = done x f
view_inner f (Err x) = bad x (left f)

-- what code needs to stay inside its numbers: those of a header, and an index on level 4 at the most
unfoldable pub box_bounds : ℕ → InnerBox → List Bound
box_bounds depth (boxes.Head h) = head_bounds h
box_bounds depth (boxes.Body span s) = below depth 4 ∷ sidx_bounds s
