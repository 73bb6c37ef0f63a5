-- Numbers that are being read: their bytes, but for the last, spell on and do nothing else; those of an entry are stored as read.
use Rattle.std.specs.Prelude.{ℕ, ◌-◌, ◌+◌, ◌≤◌, ◌<◌, List}
use Rattle.std.proofs.Math.Option.{Option, some, none}
use Rattle.basics.specs.Bytes.{number_from}
use Rattle.state.specs.Flow.{work_bytes}
use Rattle.machine.specs.declared.Head.{Head}
use Rattle.machine.specs.declared.Head.TheVariants as at
use Rattle.state.specs.declared.Top.{Top}
use Rattle.state.specs.declared.Levels.{Levels}
use Rattle.state.specs.declared.Slot.{Slot}
use Rattle.state.specs.declared.Sidx.{Sidx}
use Rattle.state.specs.declared.Sidx.TheVariants as sidx
use Rattle.state.specs.declared.TrafBody.{TrafBody}
use Rattle.state.specs.declared.TrafBody.TheVariants as trafs
use Rattle.state.specs.Boxed.{TrafBoxes}
use Rattle.machine.specs.declared.BoxesSo.TheVariants as inBoxes
use Rattle.state.specs.declared.MoofBody.{MoofBody}
use Rattle.state.specs.declared.MoofBody.TheVariants as moofs
use Rattle.state.specs.Boxed.{MoofBoxes}
use Rattle.state.specs.declared.LeafBody.{LeafBody}
use Rattle.state.specs.declared.LeafBody.TheVariants as leaves
use Rattle.state.specs.Boxed.{LeafBoxes}
use Rattle.state.specs.declared.OpeningBody.{OpeningBody}
use Rattle.state.specs.declared.OpeningBody.TheVariants as openings
use Rattle.state.specs.Boxed.{OpeningBoxes}
use Rattle.state.specs.declared.GapBoxes.{GapBoxes}
use Rattle.state.specs.declared.GapBoxes.TheVariants as gaps
use Rattle.state.specs.declared.InnerBox.{InnerBox}
use Rattle.state.specs.declared.InnerBox.TheVariants as inners
use Rattle.state.specs.declared.Stage.{Stage}
use Rattle.state.specs.declared.Stage.TheVariants as stage
use Rattle.basics.specs.Put.{put_all}
use Rattle.state.specs.Levels.{depth}
use Rattle.state.specs.Ranges.{Within, spelled_bounds}
use Rattle.state.specs.Sidx.{Place, topmost, under, number_place, next_byte}

-- The number at hand: so many bytes follow the next one, those before it spell `acc`; the same with another pair of these; and where
-- its first byte is stored, if they are.
pub record Number (S : Type 0) : Type 0 where
  pub more : ℕ
  pub acc : ℕ
  pub again : ℕ → ℕ → S
  pub place : Option ℕ

-- no number is being read
abbrev pub absent : {S : Type 0} → S → Number S
absent s = record { more = 0; acc = 0; again = λ m a. s; place = none }

-- a number whose bytes are not stored
abbrev pub unstored : {S : Type 0} → ℕ → ℕ → (ℕ → ℕ → S) → Number S
unstored more acc again = record { more = more; acc = acc; again = again; place = none }

-- a number inside of something else
abbrev pub inside : {S T : Type 0} → (S → T) → Number S → Number T
inside wrap x = record { more = x.more; acc = x.acc; again = λ m a. wrap (x.again m a); place = x.place }

-- The number at hand, at each level.
unfoldable pub head_number : Head → Number Head
head_number at.First = absent at.First
head_number (at.Size pos more acc) = unstored more acc (at.Size pos)
head_number (at.Kind pos size more acc) = unstored more acc (at.Kind pos size)
head_number (at.Large pos kind more acc) = unstored more acc (at.Large pos kind)

unfoldable pub sidx_number : Place → Sidx → Number Sidx
sidx_number p (sidx.Field i d more acc) = unstored more acc (sidx.Field i d)
sidx_number p (sidx.Entry e d s more acc) =
    record { more = more; acc = acc; again = sidx.Entry e d s; place = some (number_place p e s) }

unfoldable pub traf_body_number : TrafBody → Number TrafBody
traf_body_number (trafs.Skip stop) = absent (trafs.Skip stop)
traf_body_number (trafs.Rest stop r) = absent (trafs.Rest stop r)
traf_body_number (trafs.Field p more acc) = unstored more acc (trafs.Field p)

unfoldable pub traf_number : TrafBoxes → Number TrafBoxes
traf_number (inBoxes.Head so h) = inside (inBoxes.Head so) (head_number h)
traf_number (inBoxes.Body so s) = inside (inBoxes.Body so) (traf_body_number s)

unfoldable pub moof_body_number : MoofBody → Number MoofBody
moof_body_number (moofs.Skip stop) = absent (moofs.Skip stop)
moof_body_number (moofs.Traf span s) = inside (moofs.Traf span) (traf_number s)

unfoldable pub moof_number : MoofBoxes → Number MoofBoxes
moof_number (inBoxes.Head seen h) = inside (inBoxes.Head seen) (head_number h)
moof_number (inBoxes.Body seen s) = inside (inBoxes.Body seen) (moof_body_number s)

unfoldable pub leaf_body_number : LeafBody → Number LeafBody
leaf_body_number (leaves.Skip stop) = absent (leaves.Skip stop)
leaf_body_number (leaves.Moof end s) = inside (leaves.Moof end) (moof_number s)

unfoldable pub leaf_number : LeafBoxes → Number LeafBoxes
leaf_number (inBoxes.Head so h) = inside (inBoxes.Head so) (head_number h)
leaf_number (inBoxes.Body so s) = inside (inBoxes.Body so) (leaf_body_number s)

unfoldable pub opening_body_number : OpeningBody → Number OpeningBody
opening_body_number (openings.Skip stop) = absent (openings.Skip stop)
opening_body_number (openings.Styp span p listed more acc) = unstored more acc (openings.Styp span p listed)
opening_body_number (openings.Index span s) = inside (openings.Index span) (sidx_number topmost s)

unfoldable pub opening_number : OpeningBoxes → Number OpeningBoxes
opening_number (inBoxes.Head branded h) = inside (inBoxes.Head branded) (head_number h)
opening_number (inBoxes.Body branded s) = inside (inBoxes.Body branded) (opening_body_number s)

unfoldable pub gap_number : GapBoxes → Number GapBoxes
gap_number (gaps.Head h) = inside gaps.Head (head_number h)
gap_number (gaps.Body stop) = absent (gaps.Body stop)

unfoldable pub inner_number : Top → Levels → Slot → InnerBox → Number InnerBox
inner_number top ls slot (inners.Head h) = inside inners.Head (head_number h)
inner_number top ls slot (inners.Body span s) = inside (inners.Body span) (sidx_number (under top slot (depth ls)) s)

unfoldable pub stage_number : Stage → Number Stage
stage_number (stage.Opening brand s) = inside (stage.Opening brand) (opening_number s)
stage_number (stage.Gap top l end s) = inside (stage.Gap top l end) (gap_number s)
stage_number (stage.Entry top ls) = absent (stage.Entry top ls)
stage_number (stage.Leaf top ls slot s) = inside (stage.Leaf top ls slot) (leaf_number s)
stage_number (stage.Inner top ls slot s) = inside (stage.Inner top ls slot) (inner_number top ls slot s)

-- the stage after `k` bytes of its number
abbrev pub stage_on : Stage → ℕ → List ℕ → Stage
stage_on s k bytes = (stage_number s).again ((stage_number s).more - k) (number_from (stage_number s).acc bytes)

-- the work area after bytes of a number, told how many follow the first of them
unfoldable pub put_in : Option ℕ → ℕ → List ℕ → List ℕ → List ℕ
put_in none more work bs = work
put_in (some i) more work bs = put_all work (next_byte i more) bs

-- the work area after bytes of a stage's number
abbrev pub work_on : Stage → List ℕ → List ℕ → List ℕ
work_on s work bytes = put_in (stage_number s).place (stage_number s).more work bytes

-- bytes that are stored are four at the most, inside the work area
unfoldable pub Short : Option ℕ → ℕ → Type 0
Short none more = Unit {0}
Short (some i) more = (more ≤ 3) × (i + 3 < work_bytes)

-- a number has at most eight bytes
abbrev pub Fits : {S : Type 0} → Number S → Type 0
Fits x = Within (spelled_bounds 7 x.more x.acc) × Short x.place x.more
