-- `pack::boxes::LeafBoxesBlock::take` meets its contract, by those of the blocks in it, and by the law `rest_is`.
use Rattle.std.proofs.Common.{rules}
use Rattle.basics.specs.Choose.{pick}
use Rattle.numbered.specs.Blocks.{of_two}
use Rattle.pack.proofs.Laws.{rest_is}
use Rattle.pack.proofs.boxes.LeafBoxesBlock.take.Goals as goal

pub returns-in-1 : goal.returns-in-1
unfolding of_two pick
returns-in-1 c = rw (c.in-1.is, c.take-so.ensures, rest_is _ _, c.take.ensures, rest_is _ _)

pub returns-in_default : goal.returns-in_default
unfolding of_two pick
returns-in_default c = rw (c.take-so.ensures, rest_is _ _, c.take-in_default.ensures, rest_is _ _) (search rules)
