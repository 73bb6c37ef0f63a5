-- Where the byte at hand is stored: "Each entry byte is stored as read, at its place in its level's part."
use Rattle.std.specs.Prelude.{ℕ, List, set}
use Rattle.std.proofs.Math.Option.{Option, some, none}
use Rattle.state.specs.declared.Sidx.{Sidx}
use Rattle.state.specs.declared.Sidx.TheVariants as sidx
use Rattle.state.specs.declared.OpeningBody.{OpeningBody}
use Rattle.state.specs.declared.OpeningBody.TheVariants as openings
use Rattle.state.specs.Boxed.{OpeningBoxes}
use Rattle.machine.specs.declared.BoxesSo.TheVariants as inBoxes
use Rattle.state.specs.declared.InnerBox.TheVariants as inners
use Rattle.state.specs.declared.Stage.{Stage}
use Rattle.state.specs.declared.Stage.TheVariants as stage
use Rattle.state.specs.Sidx.{Place, topmost, under, byte_place}
use Rattle.state.specs.Levels.{depth}

-- the place that the next byte of an index is stored at: an entry's byte has one, and no other
unfoldable pub sidx_byte : Place → Sidx → Option ℕ
sidx_byte p (sidx.Field i d more acc) = none
sidx_byte p (sidx.Entry e d s more acc) = some (byte_place p e s more)

unfoldable pub opening_body_byte : OpeningBody → Option ℕ
opening_body_byte (openings.Skip stop) = none
opening_body_byte (openings.Styp span p listed more acc) = none
opening_body_byte (openings.Index span s) = sidx_byte topmost s

unfoldable pub opening_byte : OpeningBoxes → Option ℕ
opening_byte (inBoxes.Head branded h) = none
opening_byte (inBoxes.Body branded s) = opening_body_byte s

unfoldable pub stage_byte : Stage → Option ℕ
stage_byte (stage.Opening brand s) = opening_byte s
stage_byte (stage.Gap top l end s) = none
stage_byte (stage.Entry top ls) = none
stage_byte (stage.Leaf top ls slot s) = none
stage_byte (stage.Inner top ls slot (inners.Head h)) = none
stage_byte (stage.Inner top ls slot (inners.Body span s)) = sidx_byte (under top slot (depth ls)) s

-- a list with a byte stored at a place, if there is one
unfoldable pub stored_at : List ℕ → Option ℕ → ℕ → List ℕ
stored_at work none b = work
stored_at work (some i) b = set work i b
