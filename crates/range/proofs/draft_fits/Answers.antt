-- `range::draft_fits` meets its contract, by the laws `joined`, `one` and `one_below`.
use Rattle.range.proofs.Joined.{one, one_below, joined}
use Rattle.range.proofs.draft_fits.Goals as goal

pub returns : goal.returns
returns c = joined _ _ (joined _ _ (one_below _ _) (one _ _)) (one_below _ _)
