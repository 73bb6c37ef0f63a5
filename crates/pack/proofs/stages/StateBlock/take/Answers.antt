-- `pack::stages::StateBlock::take` meets its contract, by those of the blocks in it, and by the law `rest_is`.
use Rattle.std.proofs.Common.{rules}
use Rattle.basics.specs.Choose.{pick}
use Rattle.numbered.specs.Blocks.{of_four}
use Rattle.pack.proofs.Laws.{rest_is}
use Rattle.pack.proofs.stages.StateBlock.take.Goals as goal

pub returns-in-1 : goal.returns-in-1
unfolding of_four pick
returns-in-1 c = rw (c.in-1.is, c.take.ensures, rest_is _ _)

pub returns-in-2 : goal.returns-in-2
unfolding of_four pick
returns-in-2 c = rw (c.in-2.is, c.take-in-2.ensures, rest_is _ _)

pub returns-in-3 : goal.returns-in-3
unfolding of_four pick
returns-in-3 c = rw (c.in-3.is, c.take-in-3.ensures, rest_is _ _)

pub returns-in_default : goal.returns-in_default
unfolding of_four pick
returns-in_default c = rw (c.take-in_default.ensures, rest_is _ _) (search rules)
