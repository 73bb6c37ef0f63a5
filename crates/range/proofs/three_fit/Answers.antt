-- `range::three_fit` meets its contract, by that of `level_fits`, by the laws `joined` and `one`, and by the definition of `levels_bounds`.
use Rattle.state.specs.Ranges.{levels_bounds}
use Rattle.range.proofs.Joined.{one, joined}
use Rattle.range.proofs.three_fit.Goals as goal

pub returns : goal.returns
unfolding levels_bounds
returns c = joined _ _ (joined _ _ (joined _ _ c.level_fits.ensures c.level_fits-2.ensures) c.level_fits-3.ensures) (joined _ _ (one _ _) (one _ _))
