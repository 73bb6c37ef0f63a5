-- `next_stage::inner_after` meets its contract, by those of `push` and `follow`, and by the definition of `lift`.
use mathlib.Core.Path.{ap, ◌∙◌}
use Rattle.machine.specs.Run.{lift}
use Rattle.state.specs.declared.Levels.{Levels}
use Rattle.state.specs.Stages as defs
use Rattle.next_stage.specs.Views.{flowing}
use Rattle.next_stage.proofs.inner_after.Goals as goal

pub returns-in-Done : goal.returns-in-Done
unfolding lift
returns-in-Done c =
    let a = c.args in
    λ work table. rw (c.in_ok-first.was, c.in-Done.is)
    (c.follow.ensures a.r.leaves work table ∙ ap (λ (m : Levels). defs.follow a.top m (flowing a.r work table)) c.push.ensures)
