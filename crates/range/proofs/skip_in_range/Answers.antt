-- `range::skip_in_range` meets its contract, by those of `counts_fit`, `nested_fits` and `slot_fits`, by the law `joined`, and by the definitions of the ranges.
use Rattle.state.specs.Ranges.{leaf_body_bounds, leaf_bounds, stage_bounds, bounds}
use Rattle.range.proofs.Joined.{joined}
use Rattle.range.proofs.skip_in_range.Goals as goal

pub returns : goal.returns
unfolding bounds stage_bounds leaf_bounds leaf_body_bounds
returns c last stop so = joined _ _ (joined _ _ c.counts_fit.ensures c.nested_fits.ensures) c.slot_fits.ensures
