-- A block read back from the front of numbers that begin with it is what was written, whatever follows; so a state is had back from its
-- numbers. By cases, block by block.
use Prim.Native.Nat.{ℕ, ◌-◌}
use mathlib.Core.Path.{◌≡◌, refl, ap, ◌∙◌}
use mathlib.Core.List.{List, [], ◌∷◌, ◌++◌, append_assoc}
use mathlib.Core.Bool.{Bool, true, false}
use lib.Dec.{eqb}
use lib.ListN.{length, replicate, get_or, drop}
use Rattle.basics.specs.Choose.{pick}
use Rattle.machine.specs.declared.Head.{Head}
use Rattle.machine.specs.declared.Head.TheVariants as heads
use Rattle.state.specs.declared.Span.{Span}
use Rattle.state.specs.declared.Seen.{Seen}
use Rattle.state.specs.declared.Top.{Top}
use Rattle.state.specs.declared.Level.{Level}
use Rattle.state.specs.declared.Levels.{Levels}
use Rattle.state.specs.declared.Levels.TheVariants as levels
use Rattle.state.specs.declared.Slot.{Slot}
use Rattle.state.specs.declared.Draft.{Draft}
use Rattle.state.specs.declared.Sums.{Sums}
use Rattle.state.specs.declared.IndexPart.{IndexPart}
use Rattle.state.specs.declared.IndexPart.TheVariants as part
use Rattle.state.specs.declared.EntryPart.{EntryPart}
use Rattle.state.specs.declared.EntryPart.TheVariants as entry
use Rattle.state.specs.declared.StypPart.{StypPart}
use Rattle.state.specs.declared.StypPart.TheVariants as styp
use Rattle.state.specs.declared.Sidx.{Sidx}
use Rattle.state.specs.declared.Sidx.TheVariants as sidx
use Rattle.state.specs.declared.OpeningBody.{OpeningBody}
use Rattle.state.specs.declared.OpeningBody.TheVariants as openings
use Rattle.state.specs.Boxed.{OpeningBoxes}
use Rattle.machine.specs.declared.BoxesSo.TheVariants as inBoxes
use Rattle.state.specs.declared.GapBoxes.{GapBoxes}
use Rattle.state.specs.declared.GapBoxes.TheVariants as gaps
use Rattle.state.specs.declared.InnerBox.{InnerBox}
use Rattle.state.specs.declared.InnerBox.TheVariants as inners
use Rattle.state.specs.declared.TrafPhase.{TrafPhase}
use Rattle.state.specs.declared.TrafPhase.TheVariants as track
use Rattle.state.specs.declared.TrafSo.{TrafSo}
use Rattle.state.specs.declared.TrafPart.{TrafPart}
use Rattle.state.specs.declared.TrafPart.TheVariants as trafPart
use Rattle.state.specs.declared.TrafBody.{TrafBody}
use Rattle.state.specs.declared.TrafBody.TheVariants as trafs
use Rattle.state.specs.Boxed.{TrafBoxes}
use Rattle.state.specs.declared.MoofBody.{MoofBody}
use Rattle.state.specs.declared.MoofBody.TheVariants as moofs
use Rattle.state.specs.Boxed.{MoofBoxes}
use Rattle.state.specs.declared.LeafSo.{LeafSo}
use Rattle.state.specs.declared.LeafBody.{LeafBody}
use Rattle.state.specs.declared.LeafBody.TheVariants as leaves
use Rattle.state.specs.Boxed.{LeafBoxes}
use Rattle.state.specs.declared.Stage.{Stage}
use Rattle.state.specs.declared.Stage.TheVariants as stage
use Rattle.state.specs.declared.State.{State}
use Rattle.state.specs.declared.State.TheVariants as state
use Rattle.numbered.specs.Numbers.{flag_number, padded, span_numbers, seen_numbers, top_numbers, level_numbers, slot_numbers, draft_numbers, sums_numbers, levels_numbers, head_numbers}
use Rattle.numbered.specs.Numbers.{index_part_number, entry_part_number, sidx_numbers, styp_part_number, opening_body_numbers, opening_numbers, gap_numbers, inner_numbers}
use Rattle.numbered.specs.Numbers.{traf_phase_numbers, traf_so_numbers, traf_part_numbers, traf_body_numbers, traf_numbers, moof_body_numbers, moof_numbers, leaf_body_numbers}
use Rattle.numbered.specs.Numbers.{leaf_so_numbers, leaf_numbers, stage_numbers, used_numbers, numbers_of}
use Rattle.numbered.specs.Blocks.{of_two, of_three, of_four, of_five, seen_of, draft_of, levels_of, head_of, index_part_of, entry_part_of, sidx_of, styp_part_of, opening_body_of}
use Rattle.numbered.specs.Blocks.{opening_of, gap_of, inner_of, traf_phase_of, traf_so_of, traf_part_of, traf_body_of}
use Rattle.numbered.specs.Blocks.{traf_of, moof_body_of, moof_of, leaf_body_of, leaf_so_of, leaf_of, stage_of, state_of}

flag_back : (b : Bool) → eqb (flag_number b) 1 ≡ b
unfolding flag_number pick
flag_back true = refl
flag_back false = refl

seen_back : (s : Seen) (rest : List ℕ) → seen_of (seen_numbers s ++ rest) ≡ s
seen_back s rest = rw (flag_back s.any)

draft_back : (d : Draft) (rest : List ℕ) → draft_of (draft_numbers d ++ rest) ≡ d
draft_back d rest = rw (flag_back d.wide)

head_back : (h : Head) (rest : List ℕ) → head_of (head_numbers h ++ rest) ≡ h
unfolding head_numbers of_four pick
head_back heads.First rest = refl
head_back (heads.Size pos more acc) rest = refl
head_back (heads.Kind pos size more acc) rest = refl
head_back (heads.Large pos kind more acc) rest = refl

-- the levels, padded to their block
levels_back : (ls : Levels) (rest : List ℕ) → levels_of (padded 17 (levels_numbers ls) ++ rest) ≡ ls
unfolding padded levels_numbers of_four pick
levels_back (levels.One a) rest = refl
levels_back (levels.Two a b) rest = refl
levels_back (levels.Three a b c) rest = refl
levels_back (levels.Four a b c d) rest = refl

index_part_back : (p : IndexPart) → index_part_of (index_part_number p) ≡ p
unfolding index_part_number of_five pick
index_part_back part.Version = refl
index_part_back part.Flags = refl
index_part_back part.Id = refl
index_part_back part.Scale = refl
index_part_back part.Time = refl
index_part_back part.Offset = refl
index_part_back part.Reserved = refl
index_part_back part.Count = refl

entry_part_back : (p : EntryPart) → entry_part_of (entry_part_number p) ≡ p
unfolding entry_part_number of_three pick
entry_part_back entry.Size = refl
entry_part_back entry.Duration = refl
entry_part_back entry.Sap = refl

sidx_back : (s : Sidx) (rest : List ℕ) → sidx_of (sidx_numbers s ++ rest) ≡ s
unfolding sidx_numbers of_two pick
sidx_back (sidx.Field p d more acc) rest = rw (index_part_back p, flag_back d.wide)
sidx_back (sidx.Entry p d s more acc) rest = rw (entry_part_back p, flag_back d.wide)

styp_part_back : (p : StypPart) → styp_part_of (styp_part_number p) ≡ p
unfolding styp_part_number of_three pick
styp_part_back styp.Major = refl
styp_part_back styp.Minor = refl
styp_part_back styp.Brand = refl

opening_body_back : (b : OpeningBody) (rest : List ℕ) → opening_body_of (opening_body_numbers b ++ rest) ≡ b
unfolding opening_body_numbers of_three pick
opening_body_back (openings.Skip stop) rest = refl
opening_body_back (openings.Styp span p listed more acc) rest = rw (styp_part_back p, flag_back listed)
opening_body_back (openings.Index span s) rest = rw (sidx_back s rest)

opening_back : (b : OpeningBoxes) (rest : List ℕ) → opening_of (opening_numbers b ++ rest) ≡ b
unfolding opening_numbers of_two pick
opening_back (inBoxes.Head typed h) rest = rw (flag_back typed, head_back h rest)
opening_back (inBoxes.Body typed b) rest = rw (flag_back typed, opening_body_back b rest)

gap_back : (b : GapBoxes) (rest : List ℕ) → gap_of (gap_numbers b ++ rest) ≡ b
unfolding gap_numbers of_two pick
gap_back (gaps.Head h) rest = rw (head_back h rest)
gap_back (gaps.Body stop) rest = refl

inner_back : (b : InnerBox) (rest : List ℕ) → inner_of (inner_numbers b ++ rest) ≡ b
unfolding inner_numbers of_two pick
inner_back (inners.Head h) rest = rw (head_back h rest)
inner_back (inners.Body span s) rest = rw (sidx_back s rest)

-- a `traf`: how far it has come is padded to its block, and so is the number that it is in
traf_so_back : (so : TrafSo) (rest : List ℕ) → traf_so_of (traf_so_numbers so ++ rest) ≡ so
unfolding padded traf_phase_numbers of_three pick
traf_so_back so rest = by so.track
  where
    by : (p : TrafPhase) → traf_so_of (padded 2 (traf_phase_numbers p) ++ seen_numbers so.seen ++ rest) ≡ record { track = p; seen = so.seen }
    by track.Fresh = rw (flag_back so.seen.any)
    by (track.Headed reference) = rw (flag_back reference, flag_back so.seen.any)
    by track.Timed = rw (flag_back so.seen.any)

traf_part_back : (p : TrafPart) (rest : List ℕ) → traf_part_of (padded 3 (traf_part_numbers p) ++ rest) ≡ p
unfolding padded traf_part_numbers of_five pick
traf_part_back (trafPart.HeadFlags end) rest = refl
traf_part_back (trafPart.TrackId end) rest = refl
traf_part_back (trafPart.Version pos end) rest = refl
traf_part_back (trafPart.TimeFlags pos wide) rest = rw (flag_back wide)
traf_part_back (trafPart.Time pos) rest = refl

traf_body_back : (b : TrafBody) (rest : List ℕ) → traf_body_of (traf_body_numbers b ++ rest) ≡ b
unfolding traf_body_numbers padded traf_part_numbers of_three of_five pick
traf_body_back (trafs.Skip stop) rest = refl
traf_body_back (trafs.Rest stop reference) rest = rw (flag_back reference)
traf_body_back (trafs.Field (trafPart.HeadFlags end) more acc) rest = refl
traf_body_back (trafs.Field (trafPart.TrackId end) more acc) rest = refl
traf_body_back (trafs.Field (trafPart.Version pos end) more acc) rest = refl
traf_body_back (trafs.Field (trafPart.TimeFlags pos wide) more acc) rest = rw (flag_back wide)
traf_body_back (trafs.Field (trafPart.Time pos) more acc) rest = refl

-- what follows the five numbers of what is known of a `traf`
after_so : (so : TrafSo) (rest : List ℕ) → drop 5 (traf_so_numbers so ++ rest) ≡ rest
unfolding padded traf_phase_numbers
after_so so rest = by so.track
  where
    by : (p : TrafPhase) → drop 5 ((padded 2 (traf_phase_numbers p) ++ seen_numbers so.seen) ++ rest) ≡ rest
    by track.Fresh = refl
    by (track.Headed reference) = refl
    by track.Timed = refl

traf_back : (t : TrafBoxes) (rest : List ℕ) → traf_of (traf_numbers t ++ rest) ≡ t
unfolding traf_numbers of_two pick
traf_back (inBoxes.Head so h) rest =
    rw (append_assoc (traf_so_numbers so) (head_numbers h) rest, after_so so (head_numbers h ++ rest), traf_so_back so (head_numbers h ++ rest), head_back h rest)
traf_back (inBoxes.Body so b) rest =
    rw (append_assoc (traf_so_numbers so) (traf_body_numbers b) rest, after_so so (traf_body_numbers b ++ rest), traf_so_back so (traf_body_numbers b ++ rest), traf_body_back b rest)

moof_body_back : (b : MoofBody) (rest : List ℕ) → moof_body_of (moof_body_numbers b ++ rest) ≡ b
unfolding moof_body_numbers of_two pick
moof_body_back (moofs.Skip stop) rest = refl
moof_body_back (moofs.Traf span t) rest = rw (traf_back t rest)

moof_back : (b : MoofBoxes) (rest : List ℕ) → moof_of (moof_numbers b ++ rest) ≡ b
unfolding moof_numbers of_two pick
moof_back (inBoxes.Head seen h) rest = rw (flag_back seen.any, head_back h rest)
moof_back (inBoxes.Body seen b) rest = rw (flag_back seen.any, moof_body_back b rest)

leaf_body_back : (b : LeafBody) (rest : List ℕ) → leaf_body_of (leaf_body_numbers b ++ rest) ≡ b
unfolding leaf_body_numbers of_two pick
leaf_body_back (leaves.Skip stop) rest = refl
leaf_body_back (leaves.Moof end boxes) rest = rw (moof_back boxes rest)

leaf_back : (b : LeafBoxes) (rest : List ℕ) → leaf_of (leaf_numbers b ++ rest) ≡ b
unfolding leaf_numbers of_two pick
leaf_back (inBoxes.Head so h) rest = rw (flag_back so.moof, flag_back so.seen.any, head_back h rest)
leaf_back (inBoxes.Body so b) rest = rw (flag_back so.moof, flag_back so.seen.any, leaf_body_back b rest)

-- what follows the levels' block
after_levels : (ls : Levels) (rest : List ℕ) → drop 17 (padded 17 (levels_numbers ls) ++ rest) ≡ rest
unfolding padded levels_numbers
after_levels (levels.One a) rest = refl
after_levels (levels.Two a b) rest = refl
after_levels (levels.Three a b c) rest = refl
after_levels (levels.Four a b c d) rest = refl

-- and what follows the four numbers of an entry behind it
after_slot : (ls : Levels) (slot : Slot) (rest : List ℕ) → drop 21 (padded 17 (levels_numbers ls) ++ (slot_numbers slot ++ rest)) ≡ rest
unfolding padded levels_numbers
after_slot (levels.One a) slot rest = refl
after_slot (levels.Two a b) slot rest = refl
after_slot (levels.Three a b c) slot rest = refl
after_slot (levels.Four a b c d) slot rest = refl

-- what stands in the levels' block and behind it, with what follows put together
nested_joined : (ls : Levels) (slot : Slot) (xs rest : List ℕ) →
    ((padded 17 (levels_numbers ls) ++ slot_numbers slot) ++ xs) ++ rest ≡ padded 17 (levels_numbers ls) ++ (slot_numbers slot ++ (xs ++ rest))
nested_joined ls slot xs rest =
    append_assoc (padded 17 (levels_numbers ls) ++ slot_numbers slot) xs rest ∙ append_assoc (padded 17 (levels_numbers ls)) (slot_numbers slot) (xs ++ rest)

stage_back : (s : Stage) (rest : List ℕ) → stage_of (stage_numbers s ++ rest) ≡ s
unfolding stage_numbers of_three pick
stage_back (stage.Opening brand boxes) rest = rw (opening_back boxes rest)
stage_back (stage.Gap t l end boxes) rest = rw (gap_back boxes rest)
stage_back (stage.Entry t ls) rest = rw (levels_back ls rest)
stage_back (stage.Leaf t ls slot boxes) rest =
    let behind : List ℕ = leaf_numbers boxes ++ rest in
    rw (nested_joined ls slot (leaf_numbers boxes) rest, levels_back ls (slot_numbers slot ++ behind), after_levels ls (slot_numbers slot ++ behind), after_slot ls slot behind, leaf_back boxes rest)
stage_back (stage.Inner t ls slot first) rest =
    let behind : List ℕ = inner_numbers first ++ rest in
    rw (nested_joined ls slot (inner_numbers first) rest, levels_back ls (slot_numbers slot ++ behind), after_levels ls (slot_numbers slot ++ behind), after_slot ls slot behind, inner_back first rest)

-- a state is had back from its numbers
pub state_back : (s : State) → state_of (numbers_of s) ≡ s
unfolding used_numbers padded of_four pick
state_back (state.Reading count leaves now last s) = rw (stage_back s (replicate (57 - length (used_numbers (state.Reading count leaves now last s))) 0))
state_back (state.Ended count leaves t) = refl
state_back (state.Refused count leaves x) = refl
state_back (state.Accepted count leaves t) = refl
