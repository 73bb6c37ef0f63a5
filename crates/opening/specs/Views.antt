-- What the gap makes of the answer of a body in it; and what a box up to the top index gives.
use Rattle.std.specs.Prelude.{ℕ, Option, Some, None}
use Rattle.machine.specs.Run.{Sub}
use Rattle.state.specs.declared.GapBoxes.{GapBoxes}
use Rattle.state.specs.declared.IndexRead.{IndexRead}
use Rattle.header.specs.Views.{after_body}
use Rattle.state.specs.Flow.{Flow, Left}
use Rattle.state.specs.Opening.{OpeningGave, passed, indexed}
use Rattle.state.specs.Stages.{gap_boxes, wrap_gap}

-- what the gap makes of a body's answer: `m` bytes up to the one at hand
abbrev pub body_gap : ℕ → ℕ → Sub ℕ (Unit {0}) Flow Left → Sub GapBoxes (Unit {0}) Flow Left
body_gap end m r = after_body (gap_boxes end) wrap_gap tt m r

-- the top index, or nothing
abbrev pub given : Option IndexRead → OpeningGave
given None = passed
given (Some x) = indexed x
