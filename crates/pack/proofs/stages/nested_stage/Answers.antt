-- `pack::stages::nested_stage` meets its contract, by those of the blocks in it, and by the law `rest_is`.
use Rattle.std.proofs.Common.{rules}
use Rattle.basics.specs.Choose.{pick}
use Rattle.pack.proofs.Laws.{rest_is}
use Rattle.pack.proofs.stages.nested_stage.Goals as goal

pub returns-in-3 : goal.returns-in-3
unfolding pick
returns-in-3 c = rw (c.in-3.is, c.take-top.ensures, rest_is _ _, c.take-levels.ensures, rest_is _ _)

pub returns-in-4 : goal.returns-in-4
unfolding pick
returns-in-4 c = rw (c.in-4.is, c.take-top.ensures, rest_is _ _, c.take-levels.ensures, rest_is _ _, c.take-slot.ensures, rest_is _ _, c.take.ensures, rest_is _ _)

pub returns-in_default : goal.returns-in_default
unfolding pick
returns-in_default c = rw (c.take-top.ensures, rest_is _ _, c.take-levels.ensures, rest_is _ _, c.take-slot.ensures, rest_is _ _, c.take-in_default.ensures, rest_is _ _) (search rules)
