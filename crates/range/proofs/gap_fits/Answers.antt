-- `range::gap_fits` meets its contract, by that of `head_fits`, by the law `all_of_none`, and by the definition of `gap_bounds`.
use Rattle.state.specs.Ranges.{gap_bounds}
use Rattle.range.proofs.Joined.{all_of_none}
use Rattle.range.proofs.gap_fits.Goals as goal

pub returns-in-Head : goal.returns-in-Head
unfolding gap_bounds
returns-in-Head c = rw c.in-Head.is c.head_fits.ensures

pub returns-in-Body : goal.returns-in-Body
unfolding gap_bounds
returns-in-Body c = rw c.in-Body.is (all_of_none)
