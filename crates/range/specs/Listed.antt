-- The ranges of a list of boxes, whatever the body of a box in it is.
use Rattle.std.specs.Prelude.{List}
use Rattle.machine.specs.declared.BoxesSo.{BoxesSo}
use Rattle.machine.specs.declared.BoxesSo.TheVariants as inBoxes
use Rattle.state.specs.Ranges.{Bound, head_bounds}

unfoldable pub boxes_bounds : {A B : Type 0} → (B → List Bound) → BoxesSo A B → List Bound
boxes_bounds bounds (inBoxes.Head a h) = head_bounds h
boxes_bounds bounds (inBoxes.Body a s) = bounds s
