-- `next_stage::gap_after` meets its contract, by that of `follow`, and by the definition of `lift`.
use Rattle.machine.specs.Run.{lift}
use Rattle.next_stage.proofs.gap_after.Goals as goal

pub returns-in-Done : goal.returns-in-Done
unfolding lift
returns-in-Done c = λ work table. rw (c.in_ok-boxes.was, c.in-Done.is) (c.follow.ensures c.args.r.leaves work table)
