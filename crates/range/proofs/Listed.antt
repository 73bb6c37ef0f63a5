-- The ranges of each list of boxes are those of its boxes' bodies.
use mathlib.Core.Path.{◌≡◌, refl}
use Rattle.machine.specs.declared.BoxesSo.TheVariants as inBoxes
use Rattle.state.specs.Boxed.{TrafBoxes, MoofBoxes, LeafBoxes, OpeningBoxes}
use Rattle.state.specs.Ranges.{traf_body_bounds, traf_bounds, moof_body_bounds, moof_bounds, leaf_body_bounds, leaf_bounds, opening_body_bounds, opening_bounds}
use Rattle.range.specs.Listed.{boxes_bounds}

pub traf_listed : (s : TrafBoxes) → boxes_bounds traf_body_bounds s ≡ traf_bounds s
unfolding boxes_bounds traf_bounds
traf_listed (inBoxes.Head a h) = refl
traf_listed (inBoxes.Body a s) = refl

pub moof_listed : (s : MoofBoxes) → boxes_bounds moof_body_bounds s ≡ moof_bounds s
unfolding boxes_bounds moof_bounds
moof_listed (inBoxes.Head a h) = refl
moof_listed (inBoxes.Body a s) = refl

pub leaf_listed : (s : LeafBoxes) → boxes_bounds leaf_body_bounds s ≡ leaf_bounds s
unfolding boxes_bounds leaf_bounds
leaf_listed (inBoxes.Head a h) = refl
leaf_listed (inBoxes.Body a s) = refl

pub opening_listed : (s : OpeningBoxes) → boxes_bounds opening_body_bounds s ≡ opening_bounds s
unfolding boxes_bounds opening_bounds
opening_listed (inBoxes.Head a h) = refl
opening_listed (inBoxes.Body a s) = refl
