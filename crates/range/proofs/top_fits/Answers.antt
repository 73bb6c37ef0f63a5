-- `range::top_fits` meets its contract, by that of `sum_fits`, and by the laws `joined`, `one` and `one_below`.
use Rattle.range.proofs.Joined.{one, one_below, joined}
use Rattle.range.proofs.top_fits.Goals as goal

pub returns : goal.returns
returns c = joined _ _ (joined _ _ (joined _ _ (one_below _ _) (one _ _)) (one_below _ _)) c.sum_fits.ensures
