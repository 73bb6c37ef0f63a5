-- `range::levels_fit` meets its contract, by those of `level_fits`, `two_fit`, `three_fit` and `four_fit`, and by the definition of `levels_bounds`.
use Rattle.state.specs.Ranges.{levels_bounds}
use Rattle.range.proofs.levels_fit.Goals as goal

pub returns-in-One : goal.returns-in-One
unfolding levels_bounds
returns-in-One c = rw c.in-One.is c.level_fits.ensures

pub returns-in-Two : goal.returns-in-Two
unfolding levels_bounds
returns-in-Two c = rw c.in-Two.is c.two_fit.ensures

pub returns-in-Three : goal.returns-in-Three
unfolding levels_bounds
returns-in-Three c = rw c.in-Three.is c.three_fit.ensures

pub returns-in-Four : goal.returns-in-Four
unfolding levels_bounds
returns-in-Four c = rw c.in-Four.is c.four_fit.ensures
