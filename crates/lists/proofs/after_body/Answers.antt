-- `lists::after_body` meets its contract, by those of `close` and `next_box`, by the law `goes`, and by the definition of `lift`.
use mathlib.Core.Path.{ap, ◌∙◌}
use Rattle.std.proofs.Common.{rules}
use Rattle.machine.specs.Run.{done, bad, lift}
use Rattle.lists.specs.Listed.{next_head}
use Rattle.lists.proofs.Laws.{goes}
use Rattle.lists.proofs.after_body.Goals as goal

pub returns-in-Ok-Done : goal.returns-in-Ok-Done
unfolding lift
returns-in-Ok-Done g c =
    let l = c.args.list.now in
    λ f e.
    let there = c.next_box.ensures f ∙ ap (lift next_head done bad) (c.close.ensures f e) ∙ goes (g.L.BoxList.boxes l) f (g.met.L.BoxList.kept l) _ in
    search rules
