-- `pack::stages::StageBlock::take` meets its contract, by those of the blocks in it, and by the law `rest_is`.
use Rattle.basics.specs.Choose.{pick}
use Rattle.numbered.specs.Blocks.{of_three}
use Rattle.pack.proofs.Laws.{rest_is}
use Rattle.pack.proofs.stages.StageBlock.take.Goals as goal

pub returns-in-1 : goal.returns-in-1
unfolding of_three pick
returns-in-1 c = rw (c.in-1.is, c.take.ensures, rest_is _ _)

pub returns-in-2 : goal.returns-in-2
unfolding of_three pick
returns-in-2 c = rw (c.in-2.is, c.take-in-2.ensures, rest_is _ _, c.take-in-2-2.ensures, rest_is _ _, c.take-in-2-3.ensures, rest_is _ _)
