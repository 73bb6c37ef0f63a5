-- `range::refused_fits` meets its contract, by that of `counts_fit`, by the laws `joined` and `one`, and by the definition of `bounds`.
use Rattle.state.specs.Ranges.{bounds}
use Rattle.range.proofs.Joined.{one, joined}
use Rattle.range.proofs.refused_fits.Goals as goal

pub returns : goal.returns
unfolding bounds
returns c = joined _ _ (joined _ _ c.counts_fit.ensures (one _ _)) (one _ _)
