-- The bytes that pass at once, whatever the state.
use Rattle.std.specs.Prelude.{ℕ, ◌+◌, ◌≤◌}
use Rattle.machine.specs.declared.BoxesSo.{BoxesSo}
use Rattle.machine.specs.declared.BoxesSo.TheVariants as inBoxes
use Rattle.segment.specs.Constants.{limit}
use Rattle.state.specs.Jump.{passing}
use Rattle.state.specs.declared.State.{State}
use Rattle.state.specs.declared.State.TheVariants as state

-- where the skipped body ends in a list of boxes, told that of a body; 0 where none is being skipped
unfoldable pub boxes_skips : {A B : Type 0} → (B → ℕ) → BoxesSo A B → ℕ
boxes_skips of_body (inBoxes.Head a h) = 0
boxes_skips of_body (inBoxes.Body a b) = of_body b

-- of so many bytes at hand, how many pass at once; and the state after them. A refusal is kept, and an accepted list too: all pass.
unfoldable pub passes : State → ℕ → ℕ
passes (state.Reading n leaves now last s) rest = passing s n rest
passes (state.Ended n leaves top) rest = 0
passes (state.Refused n leaves x) rest = rest
passes (state.Accepted n leaves top) rest = rest

unfoldable pub passed_on : State → ℕ → State
passed_on (state.Reading n leaves now last s) k = state.Reading (n + k) leaves now last s
passed_on (state.Ended n leaves top) k = state.Ended n leaves top
passed_on (state.Refused n leaves x) k = state.Refused n leaves x
passed_on (state.Accepted n leaves top) k = state.Accepted n leaves top

-- the count stays within the limit
unfoldable pub Fitting : State → ℕ → Type 0
Fitting (state.Reading n leaves now last s) k = n + k ≤ limit
Fitting (state.Ended n leaves top) k = Unit {0}
Fitting (state.Refused n leaves x) k = Unit {0}
Fitting (state.Accepted n leaves top) k = Unit {0}
