-- `range::nested_fits` meets its contract, by those of `top_fits` and `levels_fit`, and by the law `joined`.
use Rattle.range.proofs.Joined.{joined}
use Rattle.range.proofs.nested_fits.Goals as goal

pub returns : goal.returns
returns c = joined _ _ c.top_fits.ensures c.levels_fit.ensures
