-- `inner::inner_byte` meets its contract, by those of `head_byte`, `inner_headed`, `index_byte` and `refused_index`, and by the definitions of `box_bounds`,
-- `lift` and `step_box`.
use Rattle.state.specs.Calls.{flow_of}
use Rattle.inner.specs.Views.{box_bounds}
use Rattle.machine.specs.Run.{lift}
use Rattle.machine.specs.Lists.{step_box}
use Prim.Native.Nat.{suc}
use Rattle.std.proofs.lemmas.Result.{err_from_is_err_and}
use Rattle.inner.proofs.inner_byte.Goals as goal

pub head_byte-requires : goal.head_byte-requires
unfolding box_bounds
head_byte-requires c = let asked = c.requires in (rw c.in-Head.is at asked.0, asked.2)

pub index_byte-answer-requires : goal.index_byte-answer-requires
unfolding box_bounds
index_byte-answer-requires c =
    let asked = c.requires in
    let w = rw c.in-Body.is at asked.0 in
    (w.0, asked.1, w.1, asked.2, asked.3)

pub returns-in_err-h-in-Head : goal.returns-in_err-h-in-Head
unfolding step_box lift
returns-in_err-h-in-Head c = λ leaves last table.
    let p = err_from_is_err_and c.from_residual.result c.from_residual.ensures.1 in
    rw (p.1, p.2, c.in-Head.is, ← c.head_byte.ensures (flow_of leaves c.args.at last c.args.work.now table), c.in_err-h-in-Head.was)

pub returns-in_default : goal.returns-in_default
unfolding step_box lift
returns-in_default c = λ leaves last table.
    rw (c.refused_index.ensures, c.in-Body.is, ← c.index_byte-answer.ensures leaves last table, c.in_default.is)

pub returns-in-Going : goal.returns-in-Going
unfolding step_box lift
returns-in-Going c = λ leaves last table.
    rw (c.in-Head.is, ← c.head_byte.ensures (flow_of leaves c.args.at last c.args.work.now table), c.in_ok-h-in-Head.was, c.in-Going.is)

pub returns-in-Done : goal.returns-in-Done
unfolding step_box lift
returns-in-Done c = λ leaves last table.
    let f = flow_of leaves c.args.at last c.args.work.now table in
    rw (c.in-Head.is, ← c.head_byte.ensures f, c.in_ok-h-in-Head.was, c.in-Done.is) (c.inner_headed.ensures c.args.top (suc c.args.n) f)

pub returns-in-Going-step : goal.returns-in-Going-step
unfolding step_box lift
returns-in-Going-step c = λ leaves last table. rw (c.in-Body.is, ← c.index_byte-answer.ensures leaves last table, c.in-Ok.is, c.in-Going-step.is)

pub returns-in-Done-step : goal.returns-in-Done-step
unfolding step_box lift
returns-in-Done-step c = λ leaves last table. rw (c.in-Body.is, ← c.index_byte-answer.ensures leaves last table, c.in-Ok.is, c.in-Done-step.is)
