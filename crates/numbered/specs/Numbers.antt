-- The state as numbers at fixed places: docs/STATE.md, "The state as numbers", block by block. A type with cases is a tag and the
-- numbers of the case.
use Rattle.std.specs.Prelude.{ℕ, ◌-◌, List, [], ◌∷◌, ◌++◌, Bool, length, replicate}
use Rattle.basics.specs.Choose.{pick}
use Rattle.machine.specs.declared.Head.{Head}
use Rattle.machine.specs.declared.Head.TheVariants as at
use Rattle.state.specs.declared.Span.{Span}
use Rattle.state.specs.declared.Seen.{Seen}
use Rattle.state.specs.declared.Top.{Top}
use Rattle.state.specs.declared.Level.{Level}
use Rattle.state.specs.declared.Levels.{Levels}
use Rattle.state.specs.declared.Levels.TheVariants as levels
use Rattle.state.specs.declared.Slot.{Slot}
use Rattle.state.specs.declared.Draft.{Draft}
use Rattle.state.specs.declared.Sums.{Sums}
use Rattle.state.specs.declared.IndexPart.{IndexPart}
use Rattle.state.specs.declared.IndexPart.TheVariants as part
use Rattle.state.specs.declared.EntryPart.{EntryPart}
use Rattle.state.specs.declared.EntryPart.TheVariants as entry
use Rattle.state.specs.declared.StypPart.{StypPart}
use Rattle.state.specs.declared.StypPart.TheVariants as styp
use Rattle.state.specs.declared.Sidx.{Sidx}
use Rattle.state.specs.declared.Sidx.TheVariants as sidx
use Rattle.state.specs.declared.OpeningBody.{OpeningBody}
use Rattle.state.specs.declared.OpeningBody.TheVariants as openings
use Rattle.state.specs.Boxed.{OpeningBoxes}
use Rattle.machine.specs.declared.BoxesSo.TheVariants as inBoxes
use Rattle.state.specs.declared.GapBoxes.{GapBoxes}
use Rattle.state.specs.declared.GapBoxes.TheVariants as gaps
use Rattle.state.specs.declared.InnerBox.{InnerBox}
use Rattle.state.specs.declared.InnerBox.TheVariants as inners
use Rattle.state.specs.declared.TrafPhase.{TrafPhase}
use Rattle.state.specs.declared.TrafPhase.TheVariants as track
use Rattle.state.specs.declared.TrafSo.{TrafSo}
use Rattle.state.specs.declared.TrafPart.{TrafPart}
use Rattle.state.specs.declared.TrafPart.TheVariants as trafPart
use Rattle.state.specs.declared.TrafBody.{TrafBody}
use Rattle.state.specs.declared.TrafBody.TheVariants as trafs
use Rattle.state.specs.Boxed.{TrafBoxes}
use Rattle.state.specs.declared.MoofBody.{MoofBody}
use Rattle.state.specs.declared.MoofBody.TheVariants as moofs
use Rattle.state.specs.Boxed.{MoofBoxes}
use Rattle.state.specs.declared.LeafSo.{LeafSo}
use Rattle.state.specs.declared.LeafBody.{LeafBody}
use Rattle.state.specs.declared.LeafBody.TheVariants as leaves
use Rattle.state.specs.Boxed.{LeafBoxes}
use Rattle.state.specs.declared.Stage.{Stage}
use Rattle.state.specs.declared.Stage.TheVariants as stage
use Rattle.state.specs.declared.State.{State}
use Rattle.state.specs.declared.State.TheVariants as state

-- how many numbers a state is
abbrev pub state_numbers : ℕ
state_numbers = 57

-- "A flag is 0 or 1."
unfoldable pub flag_number : Bool → ℕ
flag_number b = pick b 1 0

-- "The block is as long as that of the longest case; what a case does not use is 0."
unfoldable pub padded : ℕ → List ℕ → List ℕ
padded n xs = xs ++ replicate (n - length xs) 0

abbrev pub span_numbers : Span → List ℕ
span_numbers s = s.pos ∷ s.end ∷ []

abbrev pub seen_numbers : Seen → List ℕ
seen_numbers s = flag_number s.any ∷ s.first ∷ s.last ∷ []

abbrev pub top_numbers : Top → List ℕ
top_numbers t = t.id ∷ t.scale ∷ t.start ∷ t.durations ∷ []

abbrev pub level_numbers : Level → List ℕ
level_numbers l = l.next ∷ l.count ∷ l.end ∷ l.until ∷ []

abbrev pub slot_numbers : Slot → List ℕ
slot_numbers s = s.pos ∷ s.end ∷ s.until ∷ s.sap ∷ []

abbrev pub draft_numbers : Draft → List ℕ
draft_numbers d = flag_number d.wide ∷ d.id ∷ d.scale ∷ d.time ∷ d.offset ∷ []

abbrev pub sums_numbers : Sums → List ℕ
sums_numbers s = s.next ∷ s.count ∷ s.sizes ∷ s.durations ∷ []

-- the top index first
unfoldable pub levels_numbers : Levels → List ℕ
levels_numbers (levels.One a) = 1 ∷ level_numbers a
levels_numbers (levels.Two a b) = 2 ∷ level_numbers a ++ level_numbers b
levels_numbers (levels.Three a b c) = 3 ∷ level_numbers a ++ level_numbers b ++ level_numbers c
levels_numbers (levels.Four a b c d) = 4 ∷ level_numbers a ++ level_numbers b ++ level_numbers c ++ level_numbers d

unfoldable pub head_numbers : Head → List ℕ
head_numbers at.First = 1 ∷ []
head_numbers (at.Size pos more acc) = 2 ∷ pos ∷ more ∷ acc ∷ []
head_numbers (at.Kind pos size more acc) = 3 ∷ pos ∷ size ∷ more ∷ acc ∷ []
head_numbers (at.Large pos kind more acc) = 4 ∷ pos ∷ kind ∷ more ∷ acc ∷ []

-- An index.
unfoldable pub index_part_number : IndexPart → ℕ
index_part_number part.Version = 1
index_part_number part.Flags = 2
index_part_number part.Id = 3
index_part_number part.Scale = 4
index_part_number part.Time = 5
index_part_number part.Offset = 6
index_part_number part.Reserved = 7
index_part_number part.Count = 8

unfoldable pub entry_part_number : EntryPart → ℕ
entry_part_number entry.Size = 1
entry_part_number entry.Duration = 2
entry_part_number entry.Sap = 3

unfoldable pub sidx_numbers : Sidx → List ℕ
sidx_numbers (sidx.Field p d more acc) = 1 ∷ index_part_number p ∷ draft_numbers d ++ more ∷ acc ∷ []
sidx_numbers (sidx.Entry p d s more acc) = 2 ∷ entry_part_number p ∷ draft_numbers d ++ sums_numbers s ++ more ∷ acc ∷ []

-- The boxes up to the top index, of the gap, and the first one of an index entry.
unfoldable pub styp_part_number : StypPart → ℕ
styp_part_number styp.Major = 1
styp_part_number styp.Minor = 2
styp_part_number styp.Brand = 3

unfoldable pub opening_body_numbers : OpeningBody → List ℕ
opening_body_numbers (openings.Skip stop) = 1 ∷ stop ∷ []
opening_body_numbers (openings.Styp span p listed more acc) = 2 ∷ span_numbers span ++ styp_part_number p ∷ flag_number listed ∷ more ∷ acc ∷ []
opening_body_numbers (openings.Index span s) = 3 ∷ span_numbers span ++ sidx_numbers s

unfoldable pub opening_numbers : OpeningBoxes → List ℕ
opening_numbers (inBoxes.Head typed h) = 1 ∷ flag_number typed ∷ head_numbers h
opening_numbers (inBoxes.Body typed b) = 2 ∷ flag_number typed ∷ opening_body_numbers b

unfoldable pub gap_numbers : GapBoxes → List ℕ
gap_numbers (gaps.Head h) = 1 ∷ head_numbers h
gap_numbers (gaps.Body stop) = 2 ∷ stop ∷ []

unfoldable pub inner_numbers : InnerBox → List ℕ
inner_numbers (inners.Head h) = 1 ∷ head_numbers h
inner_numbers (inners.Body span s) = 2 ∷ span_numbers span ++ sidx_numbers s

-- A `traf`.
unfoldable pub traf_phase_numbers : TrafPhase → List ℕ
traf_phase_numbers track.Fresh = 1 ∷ []
traf_phase_numbers (track.Headed reference) = 2 ∷ flag_number reference ∷ []
traf_phase_numbers track.Timed = 3 ∷ []

abbrev pub traf_so_numbers : TrafSo → List ℕ
traf_so_numbers so = padded 2 (traf_phase_numbers so.track) ++ seen_numbers so.seen

unfoldable pub traf_part_numbers : TrafPart → List ℕ
traf_part_numbers (trafPart.HeadFlags end) = 1 ∷ end ∷ []
traf_part_numbers (trafPart.TrackId end) = 2 ∷ end ∷ []
traf_part_numbers (trafPart.Version pos end) = 3 ∷ pos ∷ end ∷ []
traf_part_numbers (trafPart.TimeFlags pos wide) = 4 ∷ pos ∷ flag_number wide ∷ []
traf_part_numbers (trafPart.Time pos) = 5 ∷ pos ∷ []

unfoldable pub traf_body_numbers : TrafBody → List ℕ
traf_body_numbers (trafs.Skip stop) = 1 ∷ stop ∷ []
traf_body_numbers (trafs.Rest stop reference) = 2 ∷ stop ∷ flag_number reference ∷ []
traf_body_numbers (trafs.Field p more acc) = 3 ∷ padded 3 (traf_part_numbers p) ++ more ∷ acc ∷ []

unfoldable pub traf_numbers : TrafBoxes → List ℕ
traf_numbers (inBoxes.Head so h) = 1 ∷ traf_so_numbers so ++ head_numbers h
traf_numbers (inBoxes.Body so b) = 2 ∷ traf_so_numbers so ++ traf_body_numbers b

-- A leaf with its `moof`.
unfoldable pub moof_body_numbers : MoofBody → List ℕ
moof_body_numbers (moofs.Skip stop) = 1 ∷ stop ∷ []
moof_body_numbers (moofs.Traf span t) = 2 ∷ span_numbers span ++ traf_numbers t

unfoldable pub moof_numbers : MoofBoxes → List ℕ
moof_numbers (inBoxes.Head seen h) = 1 ∷ seen_numbers seen ++ head_numbers h
moof_numbers (inBoxes.Body seen b) = 2 ∷ seen_numbers seen ++ moof_body_numbers b

unfoldable pub leaf_body_numbers : LeafBody → List ℕ
leaf_body_numbers (leaves.Skip stop) = 1 ∷ stop ∷ []
leaf_body_numbers (leaves.Moof end boxes) = 2 ∷ end ∷ moof_numbers boxes

abbrev pub leaf_so_numbers : LeafSo → List ℕ
leaf_so_numbers so = flag_number so.moof ∷ seen_numbers so.seen

unfoldable pub leaf_numbers : LeafBoxes → List ℕ
leaf_numbers (inBoxes.Head so h) = 1 ∷ leaf_so_numbers so ++ head_numbers h
leaf_numbers (inBoxes.Body so b) = 2 ∷ leaf_so_numbers so ++ leaf_body_numbers b

-- what all stages after the gap hold
abbrev pub nested_numbers : Top → Levels → List ℕ
nested_numbers t ls = top_numbers t ++ padded 17 (levels_numbers ls)

unfoldable pub stage_numbers : Stage → List ℕ
stage_numbers (stage.Opening brand boxes) = 1 ∷ brand ∷ opening_numbers boxes
stage_numbers (stage.Gap t l end boxes) = 2 ∷ top_numbers t ++ level_numbers l ++ end ∷ gap_numbers boxes
stage_numbers (stage.Entry t ls) = 3 ∷ nested_numbers t ls
stage_numbers (stage.Leaf t ls slot boxes) = 4 ∷ nested_numbers t ls ++ slot_numbers slot ++ leaf_numbers boxes
stage_numbers (stage.Inner t ls slot first) = 5 ∷ nested_numbers t ls ++ slot_numbers slot ++ inner_numbers first

unfoldable pub used_numbers : State → List ℕ
used_numbers (state.Reading count leaves now last s) = 1 ∷ count ∷ leaves ∷ now ∷ last ∷ stage_numbers s
used_numbers (state.Ended count leaves t) = 2 ∷ count ∷ leaves ∷ top_numbers t
used_numbers (state.Refused count leaves x) = 3 ∷ count ∷ leaves ∷ x.number ∷ x.place ∷ []
used_numbers (state.Accepted count leaves t) = 4 ∷ count ∷ leaves ∷ top_numbers t

-- the state as numbers
abbrev pub numbers_of : State → List ℕ
numbers_of s = padded state_numbers (used_numbers s)
