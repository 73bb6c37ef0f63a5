-- `range::inner_fits` meets its contract, by those of `head_fits`, `depth` and `sidx_fits`, by the laws `joined` and `one_below`, and by the definition of `inner_bounds`.
use Rattle.state.specs.Ranges.{inner_bounds}
use Rattle.range.proofs.Joined.{one_below, joined}
use Rattle.range.proofs.inner_fits.Goals as goal

pub returns-in-Head : goal.returns-in-Head
unfolding inner_bounds
returns-in-Head c = rw c.in-Head.is c.head_fits.ensures

pub returns-in-Body : goal.returns-in-Body
unfolding inner_bounds
returns-in-Body c = rw (c.in-Body.is, ← c.depth.ensures) (joined _ _ (one_below _ _) c.sidx_fits.ensures)
