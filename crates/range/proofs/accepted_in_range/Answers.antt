-- `range::accepted_in_range` meets its contract, by those of `counts_fit` and `top_fits`, by the law `joined`, and by the definition of `bounds`.
use Rattle.state.specs.Ranges.{bounds}
use Rattle.range.proofs.Joined.{joined}
use Rattle.range.proofs.accepted_in_range.Goals as goal

pub returns : goal.returns
unfolding bounds
returns c = joined _ _ c.counts_fit.ensures c.top_fits.ensures
