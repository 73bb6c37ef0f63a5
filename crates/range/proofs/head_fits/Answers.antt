-- `range::head_fits` meets its contract, by that of `head_number_fits`, by the law `all_of_none`, and by the definition of `head_bounds`.
use Rattle.state.specs.Ranges.{head_bounds}
use Rattle.range.proofs.Joined.{all_of_none}
use Rattle.range.proofs.head_fits.Goals as goal

pub returns-in-First : goal.returns-in-First
unfolding head_bounds
returns-in-First c = rw c.in-First.is (all_of_none)

pub returns-in-Size : goal.returns-in-Size
unfolding head_bounds
returns-in-Size c = rw c.in-Size.is c.head_number_fits.ensures

pub returns-in-Kind : goal.returns-in-Kind
unfolding head_bounds
returns-in-Kind c = rw c.in-Kind.is c.head_number_fits-in-Kind.ensures

pub returns-in-Large : goal.returns-in-Large
unfolding head_bounds
returns-in-Large c = rw c.in-Large.is c.head_number_fits-in-Large.ensures
