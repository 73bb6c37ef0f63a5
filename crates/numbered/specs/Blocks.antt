-- Numbers read as a state, block by block from the front: whatever the numbers are, some state comes of it. A tag that is not known
-- reads as the last case. Whether the numbers are that state's is asked afterwards (specs `Unpacked`).
use Rattle.std.specs.Prelude.{ℕ, List, Bool, eqb, get_or, drop}
use Rattle.basics.specs.Choose.{pick}
use Rattle.machine.specs.declared.Refusal.{Refusal}
use Rattle.machine.specs.declared.Head.{Head}
use Rattle.machine.specs.declared.Head.TheVariants as heads
use Rattle.state.specs.declared.Span.{Span}
use Rattle.state.specs.declared.Seen.{Seen}
use Rattle.state.specs.declared.Top.{Top}
use Rattle.state.specs.declared.Level.{Level}
use Rattle.state.specs.declared.Levels.{Levels}
use Rattle.state.specs.declared.Levels.TheVariants as levels
use Rattle.state.specs.declared.Slot.{Slot}
use Rattle.state.specs.declared.Draft.{Draft}
use Rattle.state.specs.declared.Sums.{Sums}
use Rattle.state.specs.declared.IndexPart.{IndexPart}
use Rattle.state.specs.declared.IndexPart.TheVariants as part
use Rattle.state.specs.declared.EntryPart.{EntryPart}
use Rattle.state.specs.declared.EntryPart.TheVariants as entry
use Rattle.state.specs.declared.StypPart.{StypPart}
use Rattle.state.specs.declared.StypPart.TheVariants as styp
use Rattle.state.specs.declared.Sidx.{Sidx}
use Rattle.state.specs.declared.Sidx.TheVariants as sidx
use Rattle.state.specs.declared.OpeningBody.{OpeningBody}
use Rattle.state.specs.declared.OpeningBody.TheVariants as openings
use Rattle.state.specs.Boxed.{OpeningBoxes}
use Rattle.machine.specs.declared.BoxesSo.TheVariants as inBoxes
use Rattle.state.specs.declared.GapBoxes.{GapBoxes}
use Rattle.state.specs.declared.GapBoxes.TheVariants as gaps
use Rattle.state.specs.declared.InnerBox.{InnerBox}
use Rattle.state.specs.declared.InnerBox.TheVariants as inners
use Rattle.state.specs.declared.TrafPhase.{TrafPhase}
use Rattle.state.specs.declared.TrafPhase.TheVariants as track
use Rattle.state.specs.declared.TrafSo.{TrafSo}
use Rattle.state.specs.declared.TrafPart.{TrafPart}
use Rattle.state.specs.declared.TrafPart.TheVariants as trafPart
use Rattle.state.specs.declared.TrafBody.{TrafBody}
use Rattle.state.specs.declared.TrafBody.TheVariants as trafs
use Rattle.state.specs.Boxed.{TrafBoxes}
use Rattle.state.specs.declared.MoofBody.{MoofBody}
use Rattle.state.specs.declared.MoofBody.TheVariants as moofs
use Rattle.state.specs.Boxed.{MoofBoxes}
use Rattle.state.specs.declared.LeafSo.{LeafSo}
use Rattle.state.specs.declared.LeafBody.{LeafBody}
use Rattle.state.specs.declared.LeafBody.TheVariants as leaves
use Rattle.state.specs.Boxed.{LeafBoxes}
use Rattle.state.specs.declared.Stage.{Stage}
use Rattle.state.specs.declared.Stage.TheVariants as stage
use Rattle.state.specs.declared.State.{State}
use Rattle.state.specs.declared.State.TheVariants as state

-- the number at a place of a block
abbrev pub at : List ℕ → ℕ → ℕ
at ns i = get_or ns i 0

abbrev pub flag_at : List ℕ → ℕ → Bool
flag_at ns i = eqb (at ns i) 1

-- by a tag, which counts from 1: of two, three, four, five cases
unfoldable pub of_two : {A : Type 0} → ℕ → A → A → A
of_two tag a b = pick (eqb tag 1) a b

unfoldable pub of_three : {A : Type 0} → ℕ → A → A → A → A
of_three tag a b c = pick (eqb tag 1) a (pick (eqb tag 2) b c)

unfoldable pub of_four : {A : Type 0} → ℕ → A → A → A → A → A
of_four tag a b c d = pick (eqb tag 1) a (pick (eqb tag 2) b (pick (eqb tag 3) c d))

unfoldable pub of_five : {A : Type 0} → ℕ → A → A → A → A → A → A
of_five tag a b c d e = pick (eqb tag 1) a (pick (eqb tag 2) b (pick (eqb tag 3) c (pick (eqb tag 4) d e)))

abbrev pub span_of : List ℕ → Span
span_of ns = record { pos = at ns 0; end = at ns 1 }

abbrev pub seen_of : List ℕ → Seen
seen_of ns = record { any = flag_at ns 0; first = at ns 1; last = at ns 2 }

abbrev pub top_of : List ℕ → Top
top_of ns = record { id = at ns 0; scale = at ns 1; start = at ns 2; durations = at ns 3 }

abbrev pub level_of : List ℕ → Level
level_of ns = record { next = at ns 0; count = at ns 1; end = at ns 2; until = at ns 3 }

abbrev pub slot_of : List ℕ → Slot
slot_of ns = record { pos = at ns 0; end = at ns 1; until = at ns 2; sap = at ns 3 }

abbrev pub draft_of : List ℕ → Draft
draft_of ns = record { wide = flag_at ns 0; id = at ns 1; scale = at ns 2; time = at ns 3; offset = at ns 4 }

abbrev pub sums_of : List ℕ → Sums
sums_of ns = record { next = at ns 0; count = at ns 1; sizes = at ns 2; durations = at ns 3 }

abbrev pub refusal_of : List ℕ → Refusal
refusal_of ns = record { number = at ns 0; place = at ns 1 }

abbrev pub levels_of : List ℕ → Levels
levels_of ns =
    let l : ℕ → Level = λ i. level_of (drop i ns) in
    of_four (at ns 0) (levels.One (l 1)) (levels.Two (l 1) (l 5)) (levels.Three (l 1) (l 5) (l 9)) (levels.Four (l 1) (l 5) (l 9) (l 13))

abbrev pub head_of : List ℕ → Head
head_of ns =
    of_four (at ns 0) heads.First (heads.Size (at ns 1) (at ns 2) (at ns 3)) (heads.Kind (at ns 1) (at ns 2) (at ns 3) (at ns 4)) (heads.Large (at ns 1) (at ns 2) (at ns 3) (at ns 4))

abbrev pub index_part_of : ℕ → IndexPart
index_part_of n =
    of_five n part.Version part.Flags part.Id part.Scale (pick (eqb n 5) part.Time (pick (eqb n 6) part.Offset (pick (eqb n 7) part.Reserved part.Count)))

abbrev pub entry_part_of : ℕ → EntryPart
entry_part_of n = of_three n entry.Size entry.Duration entry.Sap

abbrev pub sidx_of : List ℕ → Sidx
sidx_of ns =
    let d : Draft = draft_of (drop 2 ns) in
    of_two (at ns 0) (sidx.Field (index_part_of (at ns 1)) d (at ns 7) (at ns 8)) (sidx.Entry (entry_part_of (at ns 1)) d (sums_of (drop 7 ns)) (at ns 11) (at ns 12))

abbrev pub styp_part_of : ℕ → StypPart
styp_part_of n = of_three n styp.Major styp.Minor styp.Brand

abbrev pub opening_body_of : List ℕ → OpeningBody
opening_body_of ns =
    let span : Span = span_of (drop 1 ns) in
    of_three (at ns 0) (openings.Skip (at ns 1)) (openings.Styp span (styp_part_of (at ns 3)) (flag_at ns 4) (at ns 5) (at ns 6)) (openings.Index span (sidx_of (drop 3 ns)))

abbrev pub opening_of : List ℕ → OpeningBoxes
opening_of ns = of_two (at ns 0) (inBoxes.Head (flag_at ns 1) (head_of (drop 2 ns))) (inBoxes.Body (flag_at ns 1) (opening_body_of (drop 2 ns)))

abbrev pub gap_of : List ℕ → GapBoxes
gap_of ns = of_two (at ns 0) (gaps.Head (head_of (drop 1 ns))) (gaps.Body (at ns 1))

abbrev pub inner_of : List ℕ → InnerBox
inner_of ns = of_two (at ns 0) (inners.Head (head_of (drop 1 ns))) (inners.Body (span_of (drop 1 ns)) (sidx_of (drop 3 ns)))

abbrev pub traf_phase_of : List ℕ → TrafPhase
traf_phase_of ns = of_three (at ns 0) track.Fresh (track.Headed (flag_at ns 1)) track.Timed

abbrev pub traf_so_of : List ℕ → TrafSo
traf_so_of ns = record { track = traf_phase_of ns; seen = seen_of (drop 2 ns) }

abbrev pub traf_part_of : List ℕ → TrafPart
traf_part_of ns =
    of_five (at ns 0) (trafPart.HeadFlags (at ns 1)) (trafPart.TrackId (at ns 1)) (trafPart.Version (at ns 1) (at ns 2)) (trafPart.TimeFlags (at ns 1) (flag_at ns 2)) (trafPart.Time (at ns 1))

abbrev pub traf_body_of : List ℕ → TrafBody
traf_body_of ns = of_three (at ns 0) (trafs.Skip (at ns 1)) (trafs.Rest (at ns 1) (flag_at ns 2)) (trafs.Field (traf_part_of (drop 1 ns)) (at ns 4) (at ns 5))

abbrev pub traf_of : List ℕ → TrafBoxes
traf_of ns =
    let so : TrafSo = traf_so_of (drop 1 ns) in
    of_two (at ns 0) (inBoxes.Head so (head_of (drop 6 ns))) (inBoxes.Body so (traf_body_of (drop 6 ns)))

abbrev pub moof_body_of : List ℕ → MoofBody
moof_body_of ns = of_two (at ns 0) (moofs.Skip (at ns 1)) (moofs.Traf (span_of (drop 1 ns)) (traf_of (drop 3 ns)))

abbrev pub moof_of : List ℕ → MoofBoxes
moof_of ns = of_two (at ns 0) (inBoxes.Head (seen_of (drop 1 ns)) (head_of (drop 4 ns))) (inBoxes.Body (seen_of (drop 1 ns)) (moof_body_of (drop 4 ns)))

abbrev pub leaf_body_of : List ℕ → LeafBody
leaf_body_of ns = of_two (at ns 0) (leaves.Skip (at ns 1)) (leaves.Moof (at ns 1) (moof_of (drop 2 ns)))

abbrev pub leaf_so_of : List ℕ → LeafSo
leaf_so_of ns = record { moof = flag_at ns 0; seen = seen_of (drop 1 ns) }

abbrev pub leaf_of : List ℕ → LeafBoxes
leaf_of ns = of_two (at ns 0) (inBoxes.Head (leaf_so_of (drop 1 ns)) (head_of (drop 5 ns))) (inBoxes.Body (leaf_so_of (drop 1 ns)) (leaf_body_of (drop 5 ns)))

abbrev pub opening_stage_of : List ℕ → Stage
opening_stage_of ns = stage.Opening (at ns 1) (opening_of (drop 2 ns))

abbrev pub gap_stage_of : List ℕ → Stage
gap_stage_of ns = stage.Gap (top_of (drop 1 ns)) (level_of (drop 5 ns)) (at ns 9) (gap_of (drop 10 ns))

abbrev pub nested_stage_of : List ℕ → Stage
nested_stage_of ns =
    let t : Top = top_of (drop 1 ns) in
    let ls : Levels = levels_of (drop 5 ns) in
    let slot : Slot = slot_of (drop 22 ns) in
    pick (eqb (at ns 0) 3) (stage.Entry t ls) (pick (eqb (at ns 0) 4) (stage.Leaf t ls slot (leaf_of (drop 26 ns))) (stage.Inner t ls slot (inner_of (drop 26 ns))))

abbrev pub stage_of : List ℕ → Stage
stage_of ns = of_three (at ns 0) (opening_stage_of ns) (gap_stage_of ns) (nested_stage_of ns)

abbrev pub state_of : List ℕ → State
state_of ns =
    of_four (at ns 0)
    (state.Reading (at ns 1) (at ns 2) (at ns 3) (at ns 4) (stage_of (drop 5 ns)))
    (state.Ended (at ns 1) (at ns 2) (top_of (drop 3 ns)))
    (state.Refused (at ns 1) (at ns 2) (refusal_of (drop 3 ns)))
    (state.Accepted (at ns 1) (at ns 2) (top_of (drop 3 ns)))
