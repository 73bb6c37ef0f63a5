-- `next_stage::leaf_after` meets its contract, by that of `follow`, and by the law `leaf_done`.
use mathlib.Core.Path.{ap, ◌∙◌}
use Rattle.std.specs.Prelude.{Result, Ok}
use Rattle.machine.specs.declared.Step.{Step}
use Rattle.state.specs.declared.Seen.{Seen}
use Rattle.state.specs.Boxed.{LeafBoxes}
use Rattle.table.specs.Table.{put_record}
use Rattle.state.specs.Stages as defs
use Rattle.next_stage.proofs.Laws.{leaf_done}
use Rattle.next_stage.proofs.leaf_after.Goals as goal

pub returns-in-Done : goal.returns-in-Done
returns-in-Done c =
    let a = c.args in
    let seen = c.in-Done.seen in
    λ work table. leaf_done a.top a.levels a.slot a.r work table a.q seen (Ok c.follow.result) (c.in_ok-boxes.was ∙ ap (λ (s : Step LeafBoxes Seen). Ok s) c.in-Done.is)
    (c.follow.ensures a.r.leaves work (put_record table a.r.leaves (defs.leaf_record a.slot a.r.now seen.first)))
