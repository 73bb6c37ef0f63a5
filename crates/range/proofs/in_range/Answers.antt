-- `range::in_range` meets its contract, by those of `counts_fit`, `stage_fits`, `top_fits`, `refused_fits` and `accepted_in_range`, by the law `joined`, and by the definition of `bounds`.
use Rattle.state.specs.Ranges.{bounds}
use Rattle.range.proofs.Joined.{joined}
use Rattle.range.proofs.in_range.Goals as goal

pub returns-in-Reading : goal.returns-in-Reading
unfolding bounds
returns-in-Reading c = rw c.in-Reading.is (joined _ _ c.counts_fit.ensures c.stage_fits.ensures)

pub returns-in-Refused : goal.returns-in-Refused
unfolding bounds
returns-in-Refused c = rw c.in-Refused.is c.refused_fits.ensures

pub returns-in-Ended : goal.returns-in-Ended
unfolding bounds
returns-in-Ended c = rw c.in-Ended.is (joined _ _ c.counts_fit-in-Ended.ensures c.top_fits.ensures)

pub returns-in-Accepted : goal.returns-in-Accepted
unfolding bounds
returns-in-Accepted c = rw c.in-Accepted.is c.accepted_in_range.ensures
