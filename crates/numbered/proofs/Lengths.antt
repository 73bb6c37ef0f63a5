-- How many numbers a block has at the most: docs/STATE.md lists these lengths. So a state is always 57 numbers. By cases.
use Prim.Native.Nat.{ℕ, ◌+◌, ◌-◌, ◌≤◌}
use mathlib.Core.Path.{◌≡◌, refl, ◌∙◌}
use mathlib.Core.List.{List, [], ◌∷◌, ◌++◌}
use native.Mathlib.Omega.{arith}
use lib.ListN.{length, replicate, length-append, length-replicate}
use Rattle.machine.specs.declared.Head.{Head}
use Rattle.machine.specs.declared.Head.TheVariants as heads
use Rattle.state.specs.declared.Span.{Span}
use Rattle.state.specs.declared.Seen.{Seen}
use Rattle.state.specs.declared.Top.{Top}
use Rattle.state.specs.declared.Level.{Level}
use Rattle.state.specs.declared.Levels.{Levels}
use Rattle.state.specs.declared.Levels.TheVariants as levels
use Rattle.state.specs.declared.Slot.{Slot}
use Rattle.state.specs.declared.Draft.{Draft}
use Rattle.state.specs.declared.Sums.{Sums}
use Rattle.state.specs.declared.IndexPart.{IndexPart}
use Rattle.state.specs.declared.IndexPart.TheVariants as part
use Rattle.state.specs.declared.EntryPart.{EntryPart}
use Rattle.state.specs.declared.EntryPart.TheVariants as entry
use Rattle.state.specs.declared.StypPart.{StypPart}
use Rattle.state.specs.declared.StypPart.TheVariants as styp
use Rattle.state.specs.declared.Sidx.{Sidx}
use Rattle.state.specs.declared.Sidx.TheVariants as sidx
use Rattle.state.specs.declared.OpeningBody.{OpeningBody}
use Rattle.state.specs.declared.OpeningBody.TheVariants as openings
use Rattle.state.specs.Boxed.{OpeningBoxes}
use Rattle.machine.specs.declared.BoxesSo.TheVariants as inBoxes
use Rattle.state.specs.declared.GapBoxes.{GapBoxes}
use Rattle.state.specs.declared.GapBoxes.TheVariants as gaps
use Rattle.state.specs.declared.InnerBox.{InnerBox}
use Rattle.state.specs.declared.InnerBox.TheVariants as inners
use Rattle.state.specs.declared.TrafPhase.{TrafPhase}
use Rattle.state.specs.declared.TrafPhase.TheVariants as track
use Rattle.state.specs.declared.TrafSo.{TrafSo}
use Rattle.state.specs.declared.TrafPart.{TrafPart}
use Rattle.state.specs.declared.TrafPart.TheVariants as trafPart
use Rattle.state.specs.declared.TrafBody.{TrafBody}
use Rattle.state.specs.declared.TrafBody.TheVariants as trafs
use Rattle.state.specs.Boxed.{TrafBoxes}
use Rattle.state.specs.declared.MoofBody.{MoofBody}
use Rattle.state.specs.declared.MoofBody.TheVariants as moofs
use Rattle.state.specs.Boxed.{MoofBoxes}
use Rattle.state.specs.declared.LeafSo.{LeafSo}
use Rattle.state.specs.declared.LeafBody.{LeafBody}
use Rattle.state.specs.declared.LeafBody.TheVariants as leaves
use Rattle.state.specs.Boxed.{LeafBoxes}
use Rattle.state.specs.declared.Stage.{Stage}
use Rattle.state.specs.declared.Stage.TheVariants as stage
use Rattle.state.specs.declared.State.{State}
use Rattle.state.specs.declared.State.TheVariants as state
use Rattle.numbered.specs.Numbers.{padded, seen_numbers, levels_numbers, head_numbers, sidx_numbers, opening_body_numbers, opening_numbers, gap_numbers, inner_numbers}
use Rattle.numbered.specs.Numbers.{traf_phase_numbers, traf_so_numbers, traf_part_numbers, traf_body_numbers, traf_numbers, moof_body_numbers, moof_numbers, leaf_body_numbers}
use Rattle.numbered.specs.Numbers.{top_numbers, slot_numbers, nested_numbers, leaf_numbers, stage_numbers, used_numbers, numbers_of, state_numbers}

-- a block that is padded has its whole length
pub padded_length : (n : ℕ) (xs : List ℕ) → length xs ≤ n → length (padded n xs) ≡ n
unfolding padded
padded_length n xs h = length-append xs (replicate (n - length xs) 0) ∙ rw (length-replicate {A = ℕ} (n - length xs) 0) (omega arith)

pub head_length : (h : Head) → length (head_numbers h) ≤ 5
unfolding head_numbers
head_length heads.First = omega arith
head_length (heads.Size pos more acc) = omega arith
head_length (heads.Kind pos size more acc) = omega arith
head_length (heads.Large pos kind more acc) = omega arith

pub levels_length : (ls : Levels) → length (levels_numbers ls) ≤ 17
unfolding levels_numbers
levels_length (levels.One a) = omega arith
levels_length (levels.Two a b) = omega arith
levels_length (levels.Three a b c) = omega arith
levels_length (levels.Four a b c d) = omega arith

pub sidx_length : (s : Sidx) → length (sidx_numbers s) ≤ 13
unfolding sidx_numbers
sidx_length (sidx.Field p d more acc) = omega arith
sidx_length (sidx.Entry p d s more acc) = omega arith

pub opening_body_length : (b : OpeningBody) → length (opening_body_numbers b) ≤ 16
unfolding opening_body_numbers
opening_body_length (openings.Skip stop) = omega arith
opening_body_length (openings.Styp span p listed more acc) = omega arith
opening_body_length (openings.Index span s) = omega (arith, sidx_length s)

pub opening_length : (b : OpeningBoxes) → length (opening_numbers b) ≤ 18
unfolding opening_numbers
opening_length (inBoxes.Head typed h) = omega (arith, head_length h)
opening_length (inBoxes.Body typed b) = omega (arith, opening_body_length b)

pub gap_length : (b : GapBoxes) → length (gap_numbers b) ≤ 6
unfolding gap_numbers
gap_length (gaps.Head h) = omega (arith, head_length h)
gap_length (gaps.Body stop) = omega arith

pub inner_length : (b : InnerBox) → length (inner_numbers b) ≤ 16
unfolding inner_numbers
inner_length (inners.Head h) = omega (arith, head_length h)
inner_length (inners.Body span s) = omega (arith, sidx_length s)

pub phase_length : (p : TrafPhase) → length (traf_phase_numbers p) ≤ 2
unfolding traf_phase_numbers
phase_length track.Fresh = omega arith
phase_length (track.Headed reference) = omega arith
phase_length track.Timed = omega arith

pub part_length : (p : TrafPart) → length (traf_part_numbers p) ≤ 3
unfolding traf_part_numbers
part_length (trafPart.HeadFlags end) = omega arith
part_length (trafPart.TrackId end) = omega arith
part_length (trafPart.Version pos end) = omega arith
part_length (trafPart.TimeFlags pos wide) = omega arith
part_length (trafPart.Time pos) = omega arith

pub so_length : (so : TrafSo) → length (traf_so_numbers so) ≡ 5
so_length so =
    length-append (padded 2 (traf_phase_numbers so.track)) (seen_numbers so.seen)
    ∙ rw (padded_length 2 (traf_phase_numbers so.track) (phase_length so.track))

pub traf_body_length : (b : TrafBody) → length (traf_body_numbers b) ≤ 6
unfolding traf_body_numbers
traf_body_length (trafs.Skip stop) = omega arith
traf_body_length (trafs.Rest stop reference) = omega arith
traf_body_length (trafs.Field p more acc) =
    let e : length (padded 3 (traf_part_numbers p) ++ more ∷ acc ∷ []) ≡ 5 =
    length-append (padded 3 (traf_part_numbers p)) (more ∷ acc ∷ []) ∙ rw (padded_length 3 (traf_part_numbers p) (part_length p)) in
    omega (arith, e)

pub traf_length : (t : TrafBoxes) → length (traf_numbers t) ≤ 12
unfolding traf_numbers
traf_length (inBoxes.Head so h) = omega (arith, length-append (traf_so_numbers so) (head_numbers h), so_length so, head_length h)
traf_length (inBoxes.Body so b) = omega (arith, length-append (traf_so_numbers so) (traf_body_numbers b), so_length so, traf_body_length b)

pub moof_body_length : (b : MoofBody) → length (moof_body_numbers b) ≤ 15
unfolding moof_body_numbers
moof_body_length (moofs.Skip stop) = omega arith
moof_body_length (moofs.Traf span t) = omega (arith, traf_length t)

pub moof_length : (b : MoofBoxes) → length (moof_numbers b) ≤ 19
unfolding moof_numbers
moof_length (inBoxes.Head seen h) = omega (arith, head_length h)
moof_length (inBoxes.Body seen b) = omega (arith, moof_body_length b)

pub leaf_body_length : (b : LeafBody) → length (leaf_body_numbers b) ≤ 21
unfolding leaf_body_numbers
leaf_body_length (leaves.Skip stop) = omega arith
leaf_body_length (leaves.Moof end boxes) = omega (arith, moof_length boxes)

pub leaf_length : (b : LeafBoxes) → length (leaf_numbers b) ≤ 26
unfolding leaf_numbers
leaf_length (inBoxes.Head so h) = omega (arith, head_length h)
leaf_length (inBoxes.Body so b) = omega (arith, leaf_body_length b)

-- a tag and what all stages after the gap hold; the same with an entry's numbers
pub nested_numbers_lem : (t : Top) (ls : Levels) → length (nested_numbers t ls) ≡ 21
nested_numbers_lem t ls = length-append (top_numbers t) (padded 17 (levels_numbers ls)) ∙ rw (padded_length 17 (levels_numbers ls) (levels_length ls))

pub in_entry_numbers : (t : Top) (ls : Levels) (slot : Slot) → length (nested_numbers t ls ++ slot_numbers slot) ≡ 25
in_entry_numbers t ls slot = length-append (nested_numbers t ls) (slot_numbers slot) ∙ rw (nested_numbers_lem t ls)

nested_length : (t : Top) (ls : Levels) (slot : Slot) (xs : List ℕ) → length (nested_numbers t ls ++ slot_numbers slot ++ xs) ≡ 25 + length xs
nested_length t ls slot xs = length-append (nested_numbers t ls ++ slot_numbers slot) xs ∙ rw (in_entry_numbers t ls slot)

pub stage_length : (s : Stage) → length (stage_numbers s) ≤ 52
unfolding stage_numbers
stage_length (stage.Opening brand boxes) = omega (arith, opening_length boxes)
stage_length (stage.Gap t l end boxes) = omega (arith, gap_length boxes)
stage_length (stage.Entry t ls) = omega (arith, padded_length 17 (levels_numbers ls) (levels_length ls))
stage_length (stage.Leaf t ls slot boxes) = omega (arith, nested_length t ls slot (leaf_numbers boxes), leaf_length boxes)
stage_length (stage.Inner t ls slot first) = omega (arith, nested_length t ls slot (inner_numbers first), inner_length first)

pub used_length : (s : State) → length (used_numbers s) ≤ state_numbers
unfolding used_numbers
used_length (state.Reading count leaves now last s) = omega (arith, stage_length s)
used_length (state.Ended count leaves t) = omega arith
used_length (state.Refused count leaves x) = omega arith
used_length (state.Accepted count leaves t) = omega arith

-- a state is 57 numbers
pub numbers_length : (s : State) → length (numbers_of s) ≡ state_numbers
numbers_length s = padded_length state_numbers (used_numbers s) (used_length s)
