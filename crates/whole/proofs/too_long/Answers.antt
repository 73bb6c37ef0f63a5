-- `whole::too_long` meets its contract, by that of `refused`, and by the laws `long_limit` and `long_elsewhere`.
use mathlib.Core.Path.{ap, ◌∙◌}
use Rattle.whole.specs.Views.{ending_out}
use Rattle.whole.proofs.Laws.{long_limit, long_elsewhere}
use Rattle.whole.proofs.too_long.Goals as goal

pub returns-then-n-eq-LIMIT : goal.returns-then-n-eq-LIMIT
unfolding ending_out
returns-then-n-eq-LIMIT c brand work table =
    let a = c.args in
    ap (ending_out brand work table) c.refused.ensures ∙ long_limit a.n a.leaves work table c.if-n-eq-LIMIT.true

pub returns : goal.returns
unfolding ending_out
returns c brand work table =
    let a = c.args in
    ap (ending_out brand work table) c.refused-2.ensures ∙ long_elsewhere a.n a.leaves work table c.if-n-eq-LIMIT.false
