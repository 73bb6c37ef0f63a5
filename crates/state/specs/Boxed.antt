-- The lists of boxes that are read: of a `traf`, of a `moof`, of a leaf, and up to the top index.
use Rattle.std.specs.Prelude.{Bool}
use Rattle.machine.specs.declared.BoxesSo.{BoxesSo}
use Rattle.state.specs.declared.Seen.{Seen}
use Rattle.state.specs.declared.TrafSo.{TrafSo}
use Rattle.state.specs.declared.TrafBody.{TrafBody}
use Rattle.state.specs.declared.MoofBody.{MoofBody}
use Rattle.state.specs.declared.LeafSo.{LeafSo}
use Rattle.state.specs.declared.LeafBody.{LeafBody}
use Rattle.state.specs.declared.OpeningBody.{OpeningBody}

abbrev pub TrafBoxes : Type 0
TrafBoxes = BoxesSo TrafSo TrafBody

abbrev pub MoofBoxes : Type 0
MoofBoxes = BoxesSo Seen MoofBody

abbrev pub LeafBoxes : Type 0
LeafBoxes = BoxesSo LeafSo LeafBody

abbrev pub OpeningBoxes : Type 0
OpeningBoxes = BoxesSo Bool OpeningBody
