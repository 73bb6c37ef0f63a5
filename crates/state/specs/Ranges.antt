-- The ranges of the state's numbers (row 2), phase by phase, as docs/STATE.md lists them: what must be at most what. A test, and the
-- same as a type.
use Rattle.std.specs.Prelude.{ℕ, suc, ◌+◌, ◌-◌, ◌*◌, ◌^◌, ◌≤◌, List, [], ◌∷◌, ◌++◌, Bool, true, ◌&&◌, leb}
use Rattle.segment.specs.Constants.{limit, time_limit, type_bit, most_entries}
use Rattle.table.specs.Table.{most_records}
use Rattle.machine.specs.declared.Head.{Head}
use Rattle.machine.specs.declared.Head.TheVariants as at
use Rattle.state.specs.declared.TrafBody.{TrafBody}
use Rattle.state.specs.declared.TrafBody.TheVariants as trafs
use Rattle.state.specs.Boxed.{TrafBoxes}
use Rattle.machine.specs.declared.BoxesSo.TheVariants as inBoxes
use Rattle.state.specs.declared.TrafPart.{TrafPart}
use Rattle.state.specs.declared.TrafPart.TheVariants as trafPart
use Rattle.state.specs.declared.MoofBody.{MoofBody}
use Rattle.state.specs.declared.MoofBody.TheVariants as moofs
use Rattle.state.specs.Boxed.{MoofBoxes}
use Rattle.state.specs.declared.LeafBody.{LeafBody}
use Rattle.state.specs.declared.LeafBody.TheVariants as leaves
use Rattle.state.specs.Boxed.{LeafBoxes}
use Rattle.state.specs.declared.IndexPart.{IndexPart}
use Rattle.state.specs.declared.IndexPart.TheVariants as part
use Rattle.state.specs.declared.EntryPart.{EntryPart}
use Rattle.state.specs.declared.EntryPart.TheVariants as entry
use Rattle.state.specs.declared.Draft.{Draft}
use Rattle.state.specs.declared.Sums.{Sums}
use Rattle.state.specs.declared.Sidx.{Sidx}
use Rattle.state.specs.declared.Sidx.TheVariants as sidx
use Rattle.state.specs.declared.OpeningBody.{OpeningBody}
use Rattle.state.specs.declared.OpeningBody.TheVariants as openings
use Rattle.state.specs.Boxed.{OpeningBoxes}
use Rattle.state.specs.declared.GapBoxes.{GapBoxes}
use Rattle.state.specs.declared.GapBoxes.TheVariants as gaps
use Rattle.state.specs.declared.Top.{Top}
use Rattle.state.specs.declared.Level.{Level}
use Rattle.state.specs.declared.Levels.{Levels}
use Rattle.state.specs.declared.Levels.TheVariants as levels
use Rattle.state.specs.declared.Slot.{Slot}
use Rattle.state.specs.declared.InnerBox.{InnerBox}
use Rattle.state.specs.declared.InnerBox.TheVariants as inners
use Rattle.state.specs.declared.Stage.{Stage}
use Rattle.state.specs.declared.Stage.TheVariants as stage
use Rattle.state.specs.declared.State.{State}
use Rattle.state.specs.declared.State.TheVariants as state
use Rattle.state.specs.Levels.{inmost, depth}
use Rattle.state.specs.Sidx.{wide_more}

-- every number of 32 bits is below this
abbrev pub word_limit : ℕ
word_limit = 4294967296

-- the first number is at most the second
pub record Bound : Type 0 where
  pub low : ℕ
  pub high : ℕ

abbrev pub at_most : ℕ → ℕ → Bound
at_most a b = record { low = a; high = b }

abbrev pub below : ℕ → ℕ → Bound
below a b = at_most (suc a) b

-- all hold: the test, and the type
unfoldable pub within : List Bound → Bool
within [] = true
within (b ∷ bs) = leb b.low b.high && within bs

abbrev pub Within : List Bound → Type 0
Within [] = Unit {0}
Within (b ∷ bs) = (b.low ≤ b.high) × Within bs

-- a number of at most `most` + 1 bytes: those read spell it so far
abbrev pub spelled_bounds : ℕ → ℕ → ℕ → List Bound
spelled_bounds most more acc = at_most more most ∷ below acc (256 ^ (most - more)) ∷ []

-- a header that is being read
unfoldable pub head_bounds : Head → List Bound
head_bounds at.First = []
head_bounds (at.Size pos more acc) = at_most pos limit ∷ spelled_bounds 3 more acc
head_bounds (at.Kind pos size more acc) = at_most pos limit ∷ spelled_bounds 3 more acc
head_bounds (at.Large pos kind more acc) = at_most pos limit ∷ spelled_bounds 7 more acc

-- how many bytes follow the first of a number
unfoldable pub traf_most : TrafPart → ℕ
traf_most (trafPart.HeadFlags end) = 3
traf_most (trafPart.TrackId end) = 3
traf_most (trafPart.Version pos end) = 0
traf_most (trafPart.TimeFlags pos wide) = 2
traf_most (trafPart.Time pos) = 7

unfoldable pub traf_body_bounds : TrafBody → List Bound
traf_body_bounds (trafs.Skip stop) = []
traf_body_bounds (trafs.Rest stop r) = []
traf_body_bounds (trafs.Field p more acc) = spelled_bounds (traf_most p) more acc

unfoldable pub traf_bounds : TrafBoxes → List Bound
traf_bounds (inBoxes.Head so h) = head_bounds h
traf_bounds (inBoxes.Body so s) = traf_body_bounds s

unfoldable pub moof_body_bounds : MoofBody → List Bound
moof_body_bounds (moofs.Skip stop) = []
moof_body_bounds (moofs.Traf span s) = traf_bounds s

unfoldable pub moof_bounds : MoofBoxes → List Bound
moof_bounds (inBoxes.Head seen h) = head_bounds h
moof_bounds (inBoxes.Body seen s) = moof_body_bounds s

unfoldable pub leaf_body_bounds : LeafBody → List Bound
leaf_body_bounds (leaves.Skip stop) = []
leaf_body_bounds (leaves.Moof end s) = moof_bounds s

unfoldable pub leaf_bounds : LeafBoxes → List Bound
leaf_bounds (inBoxes.Head so h) = head_bounds h
leaf_bounds (inBoxes.Body so s) = leaf_body_bounds s

unfoldable pub index_most : IndexPart → Bool → ℕ
index_most part.Version wide = 0
index_most part.Flags wide = 2
index_most part.Id wide = 3
index_most part.Scale wide = 3
index_most part.Time wide = wide_more wide
index_most part.Offset wide = wide_more wide
index_most part.Reserved wide = 1
index_most part.Count wide = 1

-- a timescale is not 0 once it was read
unfoldable pub scale_least : IndexPart → ℕ
scale_least part.Version = 0
scale_least part.Flags = 0
scale_least part.Id = 0
scale_least part.Scale = 0
scale_least part.Time = 1
scale_least part.Offset = 1
scale_least part.Reserved = 1
scale_least part.Count = 1

abbrev pub draft_bounds : ℕ → Draft → List Bound
draft_bounds least d = below d.id word_limit ∷ at_most least d.scale ∷ below d.scale word_limit ∷ []

-- the entries whose size, and whose duration, is in the sums
unfoldable pub sizes_read : EntryPart → ℕ → ℕ
sizes_read entry.Size next = next
sizes_read entry.Duration next = suc next
sizes_read entry.Sap next = suc next

unfoldable pub durations_read : EntryPart → ℕ → ℕ
durations_read entry.Size next = next
durations_read entry.Duration next = next
durations_read entry.Sap next = suc next

abbrev pub sums_bounds : EntryPart → Sums → List Bound
sums_bounds e s =
    below s.next s.count
    ∷ at_most s.count most_entries
    ∷ at_most s.sizes (type_bit * sizes_read e s.next)
    ∷ at_most s.durations (word_limit * durations_read e s.next)
    ∷ []

unfoldable pub sidx_bounds : Sidx → List Bound
sidx_bounds (sidx.Field i d more acc) = draft_bounds (scale_least i) d ++ spelled_bounds (index_most i d.wide) more acc
sidx_bounds (sidx.Entry e d s more acc) = draft_bounds 1 d ++ (sums_bounds e s ++ spelled_bounds 3 more acc)

unfoldable pub opening_body_bounds : OpeningBody → List Bound
opening_body_bounds (openings.Skip stop) = []
opening_body_bounds (openings.Styp span p listed more acc) = spelled_bounds 3 more acc
opening_body_bounds (openings.Index span s) = sidx_bounds s

unfoldable pub opening_bounds : OpeningBoxes → List Bound
opening_bounds (inBoxes.Head branded h) = head_bounds h
opening_bounds (inBoxes.Body branded s) = opening_body_bounds s

unfoldable pub gap_bounds : GapBoxes → List Bound
gap_bounds (gaps.Head h) = head_bounds h
gap_bounds (gaps.Body stop) = []

-- start plus durations is at most 2^64 − 1
abbrev pub top_bounds : Top → List Bound
top_bounds t =
    below t.id word_limit ∷ at_most 1 t.scale ∷ below t.scale word_limit ∷ below (t.start + t.durations) time_limit ∷ []

abbrev pub level_bounds : Level → List Bound
level_bounds l = at_most l.next l.count ∷ at_most l.count most_entries ∷ []

-- an inner index ends no later than the one around it
unfoldable pub levels_bounds : Levels → List Bound
levels_bounds (levels.One a) = level_bounds a
levels_bounds (levels.Two a b) = level_bounds a ++ (level_bounds b ++ (at_most b.until a.until ∷ []))
levels_bounds (levels.Three a b c) =
    level_bounds a ++ (level_bounds b ++ (level_bounds c ++ (at_most b.until a.until ∷ at_most c.until b.until ∷ [])))
levels_bounds (levels.Four a b c d) =
    level_bounds a
    ++ (level_bounds b ++ (level_bounds c ++ (level_bounds d ++ (at_most b.until a.until ∷ at_most c.until b.until ∷ at_most d.until c.until ∷ []))))

-- an entry ends no earlier than it starts, and no later than its index
abbrev pub slot_bounds : Levels → Slot → ℕ → List Bound
slot_bounds ls s now = at_most s.pos s.end ∷ at_most now s.until ∷ at_most s.until (inmost ls).until ∷ []

-- an index that is being read inside an entry is on level 4 at the most
unfoldable pub inner_bounds : Levels → InnerBox → List Bound
inner_bounds ls (inners.Head h) = head_bounds h
inner_bounds ls (inners.Body span s) = below (depth ls) 4 ∷ sidx_bounds s

-- the numbers of a stage, when the time line stands at `now`
unfoldable pub stage_bounds : Stage → ℕ → List Bound
stage_bounds (stage.Opening brand s) now = opening_bounds s
stage_bounds (stage.Gap top l end s) now = top_bounds top ++ (level_bounds l ++ (at_most now l.until ∷ gap_bounds s))
stage_bounds (stage.Entry top ls) now =
    top_bounds top ++ (levels_bounds ls ++ (below (inmost ls).next (inmost ls).count ∷ at_most now (inmost ls).until ∷ []))
stage_bounds (stage.Leaf top ls slot s) now = top_bounds top ++ (levels_bounds ls ++ (slot_bounds ls slot now ++ leaf_bounds s))
stage_bounds (stage.Inner top ls slot s) now = top_bounds top ++ (levels_bounds ls ++ (slot_bounds ls slot now ++ inner_bounds ls s))

-- The ranges of a state.
unfoldable pub bounds : State → List Bound
bounds (state.Reading count leaves' now last s) = at_most count limit ∷ at_most leaves' most_records ∷ stage_bounds s now
bounds (state.Ended count leaves' top) = at_most count limit ∷ at_most leaves' most_records ∷ top_bounds top
bounds (state.Refused count leaves' x) = at_most count (suc limit) ∷ at_most leaves' most_records ∷ at_most 3 x.number ∷ at_most x.number 21 ∷ []
bounds (state.Accepted count leaves' top) = at_most count limit ∷ at_most leaves' most_records ∷ top_bounds top

-- the test, and the type
abbrev pub in_range : State → Bool
in_range s = within (bounds s)

abbrev pub InRange : State → Type 0
InRange s = Within (bounds s)
