-- `range::head_number_fits` meets its contract, by that of `spelling_fits`, and by the laws `joined` and `one`.
use Rattle.range.proofs.Joined.{one, joined}
use Rattle.range.proofs.head_number_fits.Goals as goal

pub returns : goal.returns
returns c = joined _ _ (one _ _) c.spelling_fits.ensures
