-- `next_stage::opening_after` meets its contract, by that of `index_ends`, and by the definition of `lift`.
use Rattle.machine.specs.Run.{lift}
use Rattle.next_stage.proofs.opening_after.Goals as goal

pub returns-in-Done : goal.returns-in-Done
unfolding lift
returns-in-Done c = λ work table. rw (c.in_ok-boxes.was, c.in-Done.is) (c.index_ends.ensures c.args.r.leaves work table)
