-- `stage::slot_byte` meets its contract, by those of `inner_stage` and `leaf_stage`, by the laws `leaf_first` and `inner_first`, and by the
-- definitions of `step_stage` and `step_slot`.
use Rattle.stage.proofs.Entries.{leaf_first, inner_first}
use Rattle.state.specs.Stages.{step_slot, step_stage}
use Rattle.stage.proofs.slot_byte.Goals as goal

pub inner_stage-requires : goal.inner_stage-requires
inner_stage-requires c =
    let a = c.args in
    (c.requires.0, c.requires.1, c.requires.3, inner_first a.ls)

pub returns-then-inner : goal.returns-then-inner
unfolding step_stage step_slot
returns-then-inner c = rw c.if-inner.true (c.inner_stage.ensures _)

pub leaf_stage-requires : goal.leaf_stage-requires
leaf_stage-requires c =
    let a = c.args in
    (c.requires.0, c.requires.2, leaf_first a.r.last)

pub returns : goal.returns
unfolding step_stage step_slot
returns c = rw c.if-inner.false (c.leaf_stage.ensures _)
