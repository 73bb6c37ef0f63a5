-- `lists::list_byte` meets its contract, by those of `end`, `head_byte`, `after_head`, `body` and `after_body`, by the laws `head_step` and `body_step`, and
-- by the definition of `step_list`.
use mathlib.Core.Path.{ap, ◌∙◌}
use Rattle.header.specs.Views.{after_head, after_body}
use Rattle.header.proofs.Lists.{body_step}
use Rattle.lists.specs.Listed.{boxed, step_list}
use Rattle.lists.proofs.Laws.{head_told}
use Rattle.lists.proofs.list_byte.Goals as goal

pub returns-in-Head : goal.returns-in-Head
unfolding step_list
returns-in-Head g c =
    let l = g.L.BoxList.boxes c.args.list.now in
    λ f e. rw c.in-Head.is
    (c.after_head.ensures f e ∙ ap (after_head l boxed _ _) (c.head_byte.ensures f) ∙ head_told l _ f _ _ _ _ (c.end.ensures c.in-Head.so) (g.met.L.BoxList.box_kept c.args.list.now _))

pub returns-in-Body : goal.returns-in-Body
unfolding step_list
returns-in-Body g c =
    let l = g.L.BoxList.boxes c.args.list.now in
    λ f e. rw c.in-Body.is
    (c.after_body.ensures f e ∙ ap (after_body l boxed _ _) (c.body.ensures f e) ∙ body_step l boxed _ f _ _ _)
