-- `range::stage_fits` meets its contract, by those of `boxes_fit`, `gap_stage_fits`, `nested_fits`, `next_entry_fits`, `slot_fits` and `inner_fits`, by the laws
-- `joined`, `three`, `opening_listed` and `leaf_listed`, and by the definition of `stage_bounds`.
use mathlib.Core.Path.{ap, ◌∙◌}
use Rattle.state.specs.Ranges.{within, stage_bounds}
use Rattle.range.proofs.Joined.{joined, three}
use Rattle.range.proofs.Listed.{opening_listed, leaf_listed}
use Rattle.range.proofs.stage_fits.Goals as goal

pub returns-in-Opening : goal.returns-in-Opening
unfolding stage_bounds
returns-in-Opening c = rw (c.in-Opening.is, ← opening_listed) c.boxes_fit.ensures

pub returns-in-Gap : goal.returns-in-Gap
unfolding stage_bounds
returns-in-Gap c = rw c.in-Gap.is c.gap_stage_fits.ensures

pub returns-in-Entry : goal.returns-in-Entry
unfolding stage_bounds
returns-in-Entry c = rw c.in-Entry.is (joined _ _ c.nested_fits.ensures c.next_entry_fits.ensures)

pub returns-in-Leaf : goal.returns-in-Leaf
unfolding stage_bounds
returns-in-Leaf c = rw c.in-Leaf.is (three _ _ _ c.nested_fits-in-Leaf.ensures c.slot_fits.ensures (c.boxes_fit-in-Leaf.ensures ∙ ap within (leaf_listed _)))

pub returns-in-Inner : goal.returns-in-Inner
unfolding stage_bounds
returns-in-Inner c = rw c.in-Inner.is (three _ _ _ c.nested_fits-in-Inner.ensures c.slot_fits-in-Inner.ensures c.inner_fits.ensures)
