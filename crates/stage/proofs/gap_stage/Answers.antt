-- `stage::gap_stage` meets its contract, by those of `gap_byte` and `gap_after`, and by the definition of `step_stage`.
use mathlib.Core.Path.{ap, ◌∙◌}
use Rattle.next_stage.specs.Views.{flowing}
use Rattle.next_stage.specs.Arms.{lift_gap}
use Rattle.state.specs.Stages.{step_stage}
use Rattle.stage.proofs.gap_stage.Goals as goal

pub returns : goal.returns
unfolding step_stage
returns c =
    let a = c.args in
    λ work table. c.gap_after.ensures work table
    ∙ ap (lift_gap a.top a.level a.end) (c.gap_byte-q.ensures (flowing a.r work table))
