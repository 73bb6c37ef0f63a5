-- `finish::finish_state` meets its contract, by those of `cut_short` and `declined`, and by the definition of `finish_state`.
use Rattle.state.specs.Calls.{finish_state}
use Rattle.finish.proofs.finish_state.Goals as goal

pub returns-in-Reading : goal.returns-in-Reading
unfolding finish_state
returns-in-Reading c = rw c.in-Reading.is c.cut_short.ensures

pub returns-in-Ended : goal.returns-in-Ended
unfolding finish_state
returns-in-Ended c = rw c.in-Ended.is

pub returns-in-Refused : goal.returns-in-Refused
unfolding finish_state
returns-in-Refused c = rw c.in-Refused.is

pub returns-in-Accepted : goal.returns-in-Accepted
unfolding finish_state
returns-in-Accepted c = let e = c.in-Accepted.is in rw e (rw e at c.declined.ensures)
