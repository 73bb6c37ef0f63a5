-- `opening::opening_byte` meets its contract, by those of `head_byte`, `after_head`, `body_byte` and `after_body`, by the laws `head_step` and `body_step`,
-- and by the definitions of `opening_bounds` and `step_opening`.
use mathlib.Core.Path.{ap, ◌∙◌}
use Rattle.state.specs.Calls.{flow_of}
use Rattle.state.specs.Ranges.{opening_bounds}
use Rattle.state.specs.Opening.{opening, wrap_opening, step_opening}
use Rattle.header.specs.Views.{after_head, after_body}
use Rattle.header.proofs.Lists.{head_step, body_step}
use Rattle.opening.proofs.opening_byte.Goals as goal

pub head_byte-requires : goal.head_byte-requires
unfolding opening_bounds
head_byte-requires c = let asked = c.requires in (rw c.in-Head.is at asked.0, asked.1)

pub body_byte-requires : goal.body_byte-requires
unfolding opening_bounds
body_byte-requires c =
    let asked = c.requires in
    (rw c.in-Body.is at asked.0, asked.1, asked.2)

pub returns-in-Head : goal.returns-in-Head
unfolding step_opening
returns-in-Head c = λ leaves at last table.
    let f = flow_of leaves at last c.args.work.now table in
    rw c.in-Head.is
    (c.after_head.ensures f tt
    ∙ ap (after_head (opening c.args.brand) wrap_opening _ _) (c.head_byte.ensures f)
    ∙ head_step (opening c.args.brand) wrap_opening _ f _ _ _)

pub returns-in-Body : goal.returns-in-Body
unfolding step_opening
returns-in-Body c = λ leaves at last table.
    rw c.in-Body.is
    (c.after_body.ensures (flow_of leaves at last _ table) tt
    ∙ ap (after_body (opening c.args.brand) wrap_opening _ _) (c.body_byte.ensures leaves at last table)
    ∙ body_step (opening c.args.brand) wrap_opening _ _ _ _ _)
