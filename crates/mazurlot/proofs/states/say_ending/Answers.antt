-- `mazurlot::states::say_ending` meets its contract, by those of the functions that put a state and of `say`, and by the definitions of `ending_out`
-- and `of_count`.
use Rattle.numbered.specs.Numbers.{used_numbers, padded}
use Rattle.whole.specs.Views.{ending_out}
use Rattle.mazurlot.specs.Answers.{of_count}
use Rattle.mazurlot.proofs.Laws.{same_call}
use Rattle.mazurlot.proofs.states.say_ending.Goals as goal

pub returns-in-Accepted : goal.returns-in-Accepted
unfolding ending_out of_count used_numbers padded
returns-in-Accepted c work table = rw c.in-Accepted.is (same_call c.say.ensures.0 c.say.ensures.1 c.put_ended.ensures)

pub returns-in-Refused : goal.returns-in-Refused
unfolding ending_out of_count used_numbers padded
returns-in-Refused c work table = rw c.in-Refused.is (same_call c.say-in-Refused.ensures.0 c.say-in-Refused.ensures.1 c.put_ended-in-Refused.ensures)

pub returns-in-ShortWork : goal.returns-in-ShortWork
unfolding ending_out of_count
returns-in-ShortWork c work table = rw c.in-ShortWork.is (same_call c.say-in-ShortWork.ensures.0 c.say-in-ShortWork.ensures.1 c.put_start.ensures)
