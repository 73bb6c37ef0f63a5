-- `range::gap_stage_fits` meets its contract, by those of `top_fits`, `level_fits` and `gap_fits`, and by the laws `joined` and `one`.
use Rattle.range.proofs.Joined.{one, joined}
use Rattle.range.proofs.gap_stage_fits.Goals as goal

pub returns : goal.returns
returns c = joined _ _ (joined _ _ (joined _ _ c.top_fits.ensures c.level_fits.ensures) (one _ _)) c.gap_fits.ensures
