-- A leaf: whole boxes, without `styp` or `sidx`, with a `moof` before any `mdat`; a `moof` holds `traf`.
use Rattle.std.specs.Prelude.{ℕ, suc, List, [], ◌++◌, true, false, not, eqb, leb}
use Rattle.basics.specs.Choose.{pick}
use Rattle.segment.specs.Constants.{moof, traf}
use Rattle.machine.specs.Faults.{shows}
use Rattle.machine.specs.Run.{Sub, go, done, bad, lift}
use Rattle.machine.specs.Heads.{box_end}
use Rattle.machine.specs.Lists.{BoxPhase, in_head, in_body, Kind, Next, again, over, Boxes, step_boxes, go_on}
use Rattle.machine.specs.declared.Refusal.{Refusal}
use Rattle.machine.specs.declared.Header.{Header}
use Rattle.state.specs.declared.Span.{Span}
use Rattle.state.specs.declared.Seen.{Seen}
use Rattle.state.specs.declared.Slot.{Slot}
use Rattle.state.specs.declared.MoofBody.{MoofBody}
use Rattle.state.specs.declared.MoofBody.TheVariants as moofs
use Rattle.state.specs.Boxed.{MoofBoxes}
use Rattle.machine.specs.declared.BoxesSo.TheVariants as inBoxes
use Rattle.state.specs.declared.LeafSo.{LeafSo}
use Rattle.state.specs.declared.LeafBody.{LeafBody}
use Rattle.state.specs.declared.LeafBody.TheVariants as leaves
use Rattle.state.specs.Boxed.{LeafBoxes}
use Rattle.state.specs.Boxed.{TrafBoxes}
use Rattle.state.specs.Flow.{Flow, Left, left}
use Rattle.state.specs.Rows.{is, leaf_faults, no_room}
use Rattle.state.specs.Opening.{span_of}
use Rattle.state.specs.Traf.{step_traf, begin_traf_boxes}

-- what a box gives to the list that it stands in: nothing, or the decode times seen so far
pub data Passed : Type 0 where
  skipped : Passed
  seeing : Seen → Passed

unfoldable pub seen_now : Seen → Passed → Seen
seen_now seen skipped = seen
seen_now seen (seeing s) = s

-- A `moof`.
abbrev pub skip_moof : ℕ → Flow → ℕ → Sub MoofBody Passed Flow Left
skip_moof stop f n = pick (leb stop n) (done skipped f) (go (moofs.Skip stop) f)

abbrev pub lift_traf : Span → Sub TrafBoxes Seen Flow Left → Sub MoofBody Passed Flow Left
lift_traf span r = lift (moofs.Traf span) (λ seen f. done (seeing seen) f) bad r

unfoldable pub begin_moof : ℕ → Seen → Header → Flow → ℕ → Sub MoofBody Passed Flow Left
begin_moof id seen h f n = pick (is h traf) (lift_traf (span_of h) (begin_traf_boxes id (span_of h) seen f n)) (skip_moof (box_end h) f n)

unfoldable pub step_moof_body : ℕ → MoofBody → Flow → ℕ → ℕ → Sub MoofBody Passed Flow Left
step_moof_body id (moofs.Skip stop) f n b = skip_moof stop f (suc n)
step_moof_body id (moofs.Traf span s) f n b = lift_traf span (step_traf id span s f n b)

abbrev pub moof_kind : ℕ → ℕ → Seen → Kind MoofBody Passed Flow Left
moof_kind id end seen = record { left = left; end = end; shown = λ h f. []; begin = begin_moof id seen; body = step_moof_body id }

unfoldable pub moof_next : ℕ → Seen → ℕ → Next Seen Seen
moof_next end seen n = pick (eqb n end) (over seen []) (again seen [])

abbrev pub moof_boxes : ℕ → ℕ → Boxes Seen MoofBody Passed Seen Flow Left
moof_boxes id end =
    record { kept = left; box = moof_kind id end; close = λ seen r f n. moof_next end (seen_now seen r) n; beside = λ seen kept n. [] }

abbrev pub wrap_moof : Seen → BoxPhase MoofBody → MoofBoxes
wrap_moof seen (in_head h) = inBoxes.Head seen h
wrap_moof seen (in_body s) = inBoxes.Body seen s

unfoldable pub step_moof : ℕ → ℕ → MoofBoxes → Flow → ℕ → ℕ → Sub MoofBoxes Seen Flow Left
step_moof id end (inBoxes.Head seen h) f n b = step_boxes (moof_boxes id end) wrap_moof seen (in_head h) f n b
step_moof id end (inBoxes.Body seen s) f n b = step_boxes (moof_boxes id end) wrap_moof seen (in_body s) f n b

abbrev pub begin_moof_boxes : ℕ → ℕ → Seen → Flow → ℕ → Sub MoofBoxes Seen Flow Left
begin_moof_boxes id end seen f n = go_on (moof_boxes id end) wrap_moof (moof_next end seen n) f

-- A leaf.
abbrev pub skip_leaf : ℕ → Flow → ℕ → Sub LeafBody Passed Flow Left
skip_leaf stop f n = pick (leb stop n) (done skipped f) (go (leaves.Skip stop) f)

abbrev pub lift_moof : ℕ → Sub MoofBoxes Seen Flow Left → Sub LeafBody Passed Flow Left
lift_moof end r = lift (leaves.Moof end) (λ seen f. done (seeing seen) f) bad r

unfoldable pub begin_leaf : ℕ → Seen → Header → Flow → ℕ → Sub LeafBody Passed Flow Left
begin_leaf id seen h f n = pick (is h moof) (lift_moof (box_end h) (begin_moof_boxes id (box_end h) seen f n)) (skip_leaf (box_end h) f n)

unfoldable pub step_leaf_body : ℕ → LeafBody → Flow → ℕ → ℕ → Sub LeafBody Passed Flow Left
step_leaf_body id (leaves.Skip stop) f n b = skip_leaf stop f (suc n)
step_leaf_body id (leaves.Moof end s) f n b = lift_moof end (step_moof id end s f n b)

abbrev pub leaf_kind : ℕ → Slot → LeafSo → Kind LeafBody Passed Flow Left
leaf_kind id slot so =
    record { left = left; end = slot.end; shown = λ h f. leaf_faults slot.pos so.moof h f; begin = begin_leaf id so.seen; body = step_leaf_body id }

unfoldable pub leaf_now : LeafSo → Passed → LeafSo
leaf_now so skipped = so
leaf_now so (seeing s) = record { moof = true; seen = s }

-- row 15: a leaf beyond the room (at its last byte); row 19: leaf without decode time of the reference track (leaf's end)
unfoldable pub leaf_lacks : Slot → LeafSo → Left → List Refusal
leaf_lacks slot so kept = shows (no_room kept.leaves kept.table) 15 slot.pos ++ shows (not so.seen.any) 19 slot.pos

-- the list goes on, or it ends where the leaf does, with the decode times seen
unfoldable pub leaf_next : Slot → LeafSo → Flow → ℕ → Next LeafSo Seen
leaf_next slot so f n = pick (eqb n slot.end) (over so.seen (leaf_lacks slot so (left f))) (again so [])

abbrev pub leaf_boxes : ℕ → Slot → Boxes LeafSo LeafBody Passed Seen Flow Left
leaf_boxes id slot =
    record {
      kept = left;
      box = leaf_kind id slot;
      close = λ so r f n. leaf_next slot (leaf_now so r) f n;
      beside = λ so kept n. pick (eqb n slot.end) (leaf_lacks slot so kept) [];
    }

abbrev pub wrap_leaf : LeafSo → BoxPhase LeafBody → LeafBoxes
wrap_leaf so (in_head h) = inBoxes.Head so h
wrap_leaf so (in_body s) = inBoxes.Body so s

unfoldable pub step_leaf : ℕ → Slot → LeafBoxes → Flow → ℕ → ℕ → Sub LeafBoxes Seen Flow Left
step_leaf id slot (inBoxes.Head so h) f n b = step_boxes (leaf_boxes id slot) wrap_leaf so (in_head h) f n b
step_leaf id slot (inBoxes.Body so s) f n b = step_boxes (leaf_boxes id slot) wrap_leaf so (in_body s) f n b

-- a leaf at its first byte, after the last decode time before it
abbrev pub leaf_so0 : ℕ → LeafSo
leaf_so0 last = record { moof = false; seen = record { any = false; first = 0; last = last } }
