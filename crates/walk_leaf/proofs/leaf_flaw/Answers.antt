-- `walk_leaf::leaf_flaw` meets its contract, by those of `leaf_kind_flaw` and `top_flaw`.
use mathlib.Core.Path.{◌∙◌}
use Rattle.flaws.proofs.Numbered.{two_kinds, length_first}
use Rattle.walk_leaf.proofs.leaf_flaw.Goals as goal

pub returns : goal.returns
returns c = length_first c.args.h _ c.top_flaw.ensures (c.leaf_kind_flaw.ensures ∙ two_kinds _ _)
