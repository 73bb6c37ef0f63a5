-- `range::slot_fits` meets its contract, by that of `inmost`, and by the laws `joined` and `one`.
use Rattle.range.proofs.Joined.{one, joined}
use Rattle.range.proofs.slot_fits.Goals as goal

pub returns : goal.returns
returns c = rw (← c.inmost-inner.ensures) (joined _ _ (joined _ _ (one _ _) (one _ _)) (one _ _))
