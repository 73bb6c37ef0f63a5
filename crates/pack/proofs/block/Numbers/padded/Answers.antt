-- `pack::block::Numbers::padded` meets its contract, by the law `view_all`.
use mathlib.Core.Path.{ap, ◌∙◌}
use Rattle.numbered.specs.Numbers.{padded}
use Rattle.pack.proofs.Laws.{view_all}
use Rattle.pack.proofs.block.Numbers.padded.Goals as goal

pub returns : goal.returns
returns c = view_all _ 57 _ c.self.told c.self.invariant.0 c.self.invariant.1 ∙ ap (padded 57) c.self.view_is
