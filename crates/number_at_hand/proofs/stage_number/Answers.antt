-- `number_at_hand::stage_number` meets its contract, by those of the functions that it calls, by the laws `opening_ready` and `four_within`, and by the
-- definition of `stage_bounds`.
use Rattle.state.specs.Ranges.{stage_bounds, top_bounds, levels_bounds, slot_bounds, inner_bounds}
use Rattle.state.proofs.RangeTests.{four_within}
use Rattle.number_at_hand.proofs.Ready.{opening_ready}
use Rattle.number_at_hand.proofs.stage_number.Goals as goal

pub number-requires : goal.number-requires
unfolding stage_bounds
number-requires c = opening_ready _ (rw c.in-Opening.is at c.requires)

pub inner_number-requires : goal.inner_number-requires
unfolding stage_bounds
inner_number-requires c =
    let s = c.in-Inner in
    let ls = s.levels in
    (four_within (top_bounds s.top) (levels_bounds ls) (slot_bounds ls s.slot c.args.now) (inner_bounds ls s.first) (rw s.is at c.requires)).3
