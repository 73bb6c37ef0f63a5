-- `next_stage::index_ends` meets its contract, by that of `follow`, and by the laws `material_follows` and `gap_follows`.
use mathlib.Core.Path.{◌∙◌}
use Rattle.next_stage.specs.Views.{flowing}
use Rattle.next_stage.proofs.Laws.{material_follows, gap_follows}
use Rattle.next_stage.proofs.index_ends.Goals as goal

pub returns-then-x-eq0 : goal.returns-then-x-eq0
returns-then-x-eq0 c =
    let a = c.args in
    λ leaves work table. c.follow.ensures leaves work table ∙ material_follows _ (flowing a.r work table) _ c.if-x-eq0.true

pub returns : goal.returns
returns c =
    let a = c.args in
    λ leaves work table. gap_follows _ (flowing a.r work table) _ c.if-x-eq0.false
