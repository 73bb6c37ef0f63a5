-- Skipped bodies: up to which place the bytes change nothing but the count.
use Rattle.std.specs.Prelude.{ℕ, suc, ◌-◌, ltb}
use Rattle.basics.specs.Choose.{pick}
use Rattle.segment.specs.Constants.{limit}
use Rattle.state.specs.declared.TrafBody.{TrafBody}
use Rattle.state.specs.declared.TrafBody.TheVariants as trafs
use Rattle.state.specs.Boxed.{TrafBoxes}
use Rattle.machine.specs.declared.BoxesSo.TheVariants as inBoxes
use Rattle.state.specs.declared.MoofBody.{MoofBody}
use Rattle.state.specs.declared.MoofBody.TheVariants as moofs
use Rattle.state.specs.Boxed.{MoofBoxes}
use Rattle.state.specs.declared.LeafBody.{LeafBody}
use Rattle.state.specs.declared.LeafBody.TheVariants as leaves
use Rattle.state.specs.Boxed.{LeafBoxes}
use Rattle.state.specs.declared.OpeningBody.{OpeningBody}
use Rattle.state.specs.declared.OpeningBody.TheVariants as openings
use Rattle.state.specs.Boxed.{OpeningBoxes}
use Rattle.state.specs.declared.GapBoxes.{GapBoxes}
use Rattle.state.specs.declared.GapBoxes.TheVariants as gaps
use Rattle.state.specs.declared.Stage.{Stage}
use Rattle.state.specs.declared.Stage.TheVariants as stage

-- where the skipped body ends; 0 where none is being skipped
unfoldable pub traf_body_skips : TrafBody → ℕ
traf_body_skips (trafs.Skip stop) = stop
traf_body_skips (trafs.Rest stop r) = stop
traf_body_skips (trafs.Field p more acc) = 0

unfoldable pub traf_skips : TrafBoxes → ℕ
traf_skips (inBoxes.Head so h) = 0
traf_skips (inBoxes.Body so s) = traf_body_skips s

unfoldable pub moof_body_skips : MoofBody → ℕ
moof_body_skips (moofs.Skip stop) = stop
moof_body_skips (moofs.Traf span s) = traf_skips s

unfoldable pub moof_skips : MoofBoxes → ℕ
moof_skips (inBoxes.Head seen h) = 0
moof_skips (inBoxes.Body seen s) = moof_body_skips s

unfoldable pub leaf_body_skips : LeafBody → ℕ
leaf_body_skips (leaves.Skip stop) = stop
leaf_body_skips (leaves.Moof end s) = moof_skips s

unfoldable pub leaf_skips : LeafBoxes → ℕ
leaf_skips (inBoxes.Head so h) = 0
leaf_skips (inBoxes.Body so s) = leaf_body_skips s

unfoldable pub opening_body_skips : OpeningBody → ℕ
opening_body_skips (openings.Skip stop) = stop
opening_body_skips (openings.Styp span p found more acc) = 0
opening_body_skips (openings.Index span s) = 0

unfoldable pub opening_skips : OpeningBoxes → ℕ
opening_skips (inBoxes.Head branded h) = 0
opening_skips (inBoxes.Body branded s) = opening_body_skips s

unfoldable pub gap_skips : GapBoxes → ℕ
gap_skips (gaps.Head h) = 0
gap_skips (gaps.Body stop) = stop

unfoldable pub skips : Stage → ℕ
skips (stage.Opening brand s) = opening_skips s
skips (stage.Gap top l end s) = gap_skips s
skips (stage.Entry top ls) = 0
skips (stage.Leaf top ls slot s) = leaf_skips s
skips (stage.Inner top ls slot s) = 0

-- the lesser of two numbers
unfoldable pub least : ℕ → ℕ → ℕ
least a b = pick (ltb a b) a b

-- of so many bytes at hand, how many pass at once after `n` bytes: those of a skipped body but for its last, and within the limit
unfoldable pub passing : Stage → ℕ → ℕ → ℕ
passing s n rest = least rest (least (skips s) limit - suc n)
