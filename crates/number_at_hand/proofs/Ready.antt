-- The boxes up to the top index in their ranges, body by body.
use Rattle.machine.specs.declared.BoxesSo.TheVariants as inBoxes
use Rattle.state.specs.Boxed.{OpeningBoxes}
use Rattle.state.specs.Ranges.{Within, opening_bounds, opening_body_bounds}
use Rattle.number_at_hand.specs.Views.{ReadyBoxes}

pub opening_ready : (s : OpeningBoxes) → Within (opening_bounds s) → ReadyBoxes (λ b. Within (opening_body_bounds b)) s
unfolding opening_bounds ReadyBoxes
opening_ready (inBoxes.Head branded h) w = tt
opening_ready (inBoxes.Body branded b) w = w
