-- The numbers of a state in its ranges fit: at most eight bytes, and four, inside the work area, where they are stored.
use Prim.Native.Nat.{ℕ, ◌+◌, ◌≤◌}
use mathlib.Core.Bool.{Bool, true, false}
use native.Mathlib.Omega.{arith}
use Rattle.state.specs.Flow.{level_bytes, work_bytes}
use Rattle.machine.specs.declared.Head.{Head}
use Rattle.machine.specs.declared.Head.TheVariants as at
use Rattle.state.specs.declared.Slot.{Slot}
use Rattle.state.specs.declared.Top.{Top}
use Rattle.state.specs.declared.Levels.{Levels}
use Rattle.state.specs.declared.IndexPart.{IndexPart}
use Rattle.state.specs.declared.IndexPart.TheVariants as part
use Rattle.state.specs.declared.EntryPart.{EntryPart}
use Rattle.state.specs.declared.EntryPart.TheVariants as entry
use Rattle.state.specs.declared.TrafPart.{TrafPart}
use Rattle.state.specs.declared.TrafPart.TheVariants as trafPart
use Rattle.state.specs.declared.Sidx.{Sidx}
use Rattle.state.specs.declared.Sidx.TheVariants as sidx
use Rattle.state.specs.declared.TrafBody.TheVariants as trafs
use Rattle.state.specs.Boxed.{TrafBoxes}
use Rattle.machine.specs.declared.BoxesSo.TheVariants as inBoxes
use Rattle.state.specs.declared.MoofBody.TheVariants as moofs
use Rattle.state.specs.Boxed.{MoofBoxes}
use Rattle.state.specs.declared.LeafBody.TheVariants as leaves
use Rattle.state.specs.Boxed.{LeafBoxes}
use Rattle.state.specs.declared.OpeningBody.TheVariants as openings
use Rattle.state.specs.Boxed.{OpeningBoxes}
use Rattle.state.specs.declared.GapBoxes.{GapBoxes}
use Rattle.state.specs.declared.GapBoxes.TheVariants as gaps
use Rattle.state.specs.declared.InnerBox.{InnerBox}
use Rattle.state.specs.declared.InnerBox.TheVariants as inners
use Rattle.state.specs.declared.Stage.{Stage}
use Rattle.state.specs.declared.Stage.TheVariants as stage
use Rattle.state.specs.Levels.{depth}
use Rattle.state.specs.Sidx.{Place, topmost, under, part_of, wide_more, word_place}
use Rattle.state.specs.Ranges.{Within, spelled_bounds, head_bounds, traf_most, traf_body_bounds, traf_bounds, moof_body_bounds, moof_bounds, leaf_body_bounds, leaf_bounds, index_most, sidx_bounds}
use Rattle.state.specs.Ranges.{opening_body_bounds, opening_bounds, gap_bounds, top_bounds, levels_bounds, slot_bounds, inner_bounds, stage_bounds}
use Rattle.state.specs.Numbers.{head_number, sidx_number, traf_body_number, traf_number, moof_body_number, moof_number, leaf_body_number, leaf_number, opening_body_number, opening_number, gap_number}
use Rattle.state.specs.Numbers.{inner_number, stage_number, Short, Fits}
use Rattle.state.proofs.RangeTests.{spelled_first, spelled_within, four_within}

-- a number of fewer bytes has at most eight
widen : (most more acc : ℕ) → most ≤ 7 → Within (spelled_bounds most more acc) → Within (spelled_bounds 7 more acc)
widen most more acc h w =
    spelled_within most more 7 more acc (omega (arith, w.0, h)) (omega arith) w

-- the numbers of an index and of a `traf` have at most eight bytes
pub index_most_lem : (i : IndexPart) (wide : Bool) → index_most i wide ≤ 7
unfolding index_most wide_more
index_most_lem part.Version wide = omega arith
index_most_lem part.Flags wide = omega arith
index_most_lem part.Id wide = omega arith
index_most_lem part.Scale wide = omega arith
index_most_lem part.Time true = omega arith
index_most_lem part.Time false = omega arith
index_most_lem part.Offset true = omega arith
index_most_lem part.Offset false = omega arith
index_most_lem part.Reserved wide = omega arith
index_most_lem part.Count wide = omega arith

pub traf_most_lem : (p : TrafPart) → traf_most p ≤ 7
unfolding traf_most
traf_most_lem (trafPart.HeadFlags end) = omega arith
traf_most_lem (trafPart.TrackId end) = omega arith
traf_most_lem (trafPart.Version pos end) = omega arith
traf_most_lem (trafPart.TimeFlags pos wide) = omega arith
traf_most_lem (trafPart.Time pos) = omega arith

-- an entry's numbers stand within its 12 bytes
pub word_most : (e : EntryPart) → word_place e ≤ 8
unfolding word_place
word_most entry.Size = omega arith
word_most entry.Duration = omega arith
word_most entry.Sap = omega arith

absent_fits : Within (spelled_bounds 7 0 0)
absent_fits = spelled_first 7 0 (omega arith)

head_fits : (h : Head) → Within (head_bounds h) → Fits (head_number h)
unfolding head_bounds head_number Short
head_fits at.First w = (absent_fits, tt)
head_fits (at.Size pos more acc) w = (widen 3 more acc (omega arith) w.1, tt)
head_fits (at.Kind pos size more acc) w = (widen 3 more acc (omega arith) w.1, tt)
head_fits (at.Large pos kind more acc) w = (w.1, tt)

-- an index has its part of the work area, on level 4 at the most
sidx_fits : (p : Place) (s : Sidx) → part_of p + level_bytes ≤ work_bytes → Within (sidx_bounds s) → Fits (sidx_number p s)
unfolding sidx_bounds sidx_number Short
sidx_fits p (sidx.Field i d more acc) h w = (widen (index_most i d.wide) more acc (index_most_lem i d.wide) w.1.1.1, tt)
sidx_fits p (sidx.Entry e d s more acc) h w =
    (widen 3 more acc (omega arith) w.1.1.1.1.1.1.1, (w.1.1.1.1.1.1.1.0, omega (arith, h, word_most e, w.1.1.1.0, w.1.1.1.1.0)))

traf_fits : (s : TrafBoxes) → Within (traf_bounds s) → Fits (traf_number s)
unfolding traf_bounds traf_number traf_body_bounds traf_body_number Short
traf_fits (inBoxes.Head so h) w = head_fits h w
traf_fits (inBoxes.Body so (trafs.Skip stop)) w = (absent_fits, tt)
traf_fits (inBoxes.Body so (trafs.Rest stop r)) w = (absent_fits, tt)
traf_fits (inBoxes.Body so (trafs.Field p more acc)) w = (widen (traf_most p) more acc (traf_most_lem p) w, tt)

moof_fits : (s : MoofBoxes) → Within (moof_bounds s) → Fits (moof_number s)
unfolding moof_bounds moof_number moof_body_bounds moof_body_number Short
moof_fits (inBoxes.Head seen h) w = head_fits h w
moof_fits (inBoxes.Body seen (moofs.Skip stop)) w = (absent_fits, tt)
moof_fits (inBoxes.Body seen (moofs.Traf span s)) w = traf_fits s w

pub leaf_fits : (s : LeafBoxes) → Within (leaf_bounds s) → Fits (leaf_number s)
unfolding leaf_bounds leaf_number leaf_body_bounds leaf_body_number Short
leaf_fits (inBoxes.Head so h) w = head_fits h w
leaf_fits (inBoxes.Body so (leaves.Skip stop)) w = (absent_fits, tt)
leaf_fits (inBoxes.Body so (leaves.Moof end s)) w = moof_fits s w

opening_fits : (s : OpeningBoxes) → Within (opening_bounds s) → Fits (opening_number s)
unfolding opening_bounds opening_number opening_body_bounds opening_body_number Short part_of
opening_fits (inBoxes.Head branded h) w = head_fits h w
opening_fits (inBoxes.Body branded (openings.Skip stop)) w = (absent_fits, tt)
opening_fits (inBoxes.Body branded (openings.Styp span p listed more acc)) w = (widen 3 more acc (omega arith) w, tt)
opening_fits (inBoxes.Body branded (openings.Index span s)) w = sidx_fits topmost s (omega arith) w

gap_fits : (s : GapBoxes) → Within (gap_bounds s) → Fits (gap_number s)
unfolding gap_bounds gap_number Short
gap_fits (gaps.Head h) w = head_fits h w
gap_fits (gaps.Body stop) w = (absent_fits, tt)

inner_fits : (top : Top) (ls : Levels) (slot : Slot) (s : InnerBox) → Within (inner_bounds ls s) → Fits (inner_number top ls slot s)
unfolding inner_bounds inner_number part_of
inner_fits top ls slot (inners.Head h) w = head_fits h w
inner_fits top ls slot (inners.Body span s) w = sidx_fits (under top slot (depth ls)) s (omega (arith, w.0)) w.1

pub stage_fits : (s : Stage) (now : ℕ) → Within (stage_bounds s now) → Fits (stage_number s)
unfolding stage_bounds stage_number Short
stage_fits (stage.Opening brand s) now w = opening_fits s w
stage_fits (stage.Gap top l end s) now w = gap_fits s w.1.1.1.1.1.1.1
stage_fits (stage.Entry top ls) now w = (absent_fits, tt)
stage_fits (stage.Leaf top ls slot s) now w = leaf_fits s (four_within (top_bounds top) (levels_bounds ls) (slot_bounds ls slot now) (leaf_bounds s) w).3
stage_fits (stage.Inner top ls slot s) now w =
    inner_fits top ls slot s (four_within (top_bounds top) (levels_bounds ls) (slot_bounds ls slot now) (inner_bounds ls s) w).3
