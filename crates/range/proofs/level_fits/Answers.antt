-- `range::level_fits` meets its contract, by the laws `joined` and `one`.
use Rattle.range.proofs.Joined.{one, joined}
use Rattle.range.proofs.level_fits.Goals as goal

pub returns : goal.returns
returns c = joined _ _ (one _ _) (one _ _)
