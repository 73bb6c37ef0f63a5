-- `range::next_entry_fits` meets its contract, by that of `inmost`, and by the laws `joined`, `one` and `one_below`.
use Rattle.range.proofs.Joined.{one, one_below, joined}
use Rattle.range.proofs.next_entry_fits.Goals as goal

pub returns : goal.returns
returns c = rw (← c.inmost-inner.ensures) (joined _ _ (one_below _ _) (one _ _))
