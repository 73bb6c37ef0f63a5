-- `mazurlot::answers::say_count` meets its contract, by that of `say`, and by the definition of `of_count`.
use Rattle.mazurlot.specs.Answers.{of_count}
use Rattle.mazurlot.proofs.answers.say_count.Goals as goal

pub returns-in-Ok : goal.returns-in-Ok
unfolding of_count
returns-in-Ok c = rw c.in-Ok.is c.say.ensures

pub returns-in-Err : goal.returns-in-Err
unfolding of_count
returns-in-Err c = rw c.in-Err.is c.say-in-Err.ensures
