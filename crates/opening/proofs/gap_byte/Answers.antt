-- `opening::gap_byte` meets its contract, by those of `head_byte`, `gap_headed` and `gap_skip`, and by the definitions of `gap_bounds`, `step_gap`,
-- `step_box`, `lift` and `lowest`.
use native.Mathlib.Numerals.{add-one}
use Rattle.std.proofs.lemmas.Result.{err_from_is_err_and}
use Rattle.machine.specs.Faults.{lowest}
use Rattle.machine.specs.Run.{lift}
use Rattle.machine.specs.Lists.{step_box}
use Rattle.state.specs.Ranges.{gap_bounds}
use Rattle.state.specs.Stages.{step_gap}
use Rattle.opening.proofs.gap_byte.Goals as goal

pub head_byte-requires : goal.head_byte-requires
unfolding gap_bounds
head_byte-requires c = (rw c.in-Head.is at c.requires.0, c.requires.1)

pub returns-in_err-h-in-Head : goal.returns-in_err-h-in-Head
unfolding step_gap step_box lift lowest
returns-in_err-h-in-Head c = λ f.
    let p = err_from_is_err_and c.from_residual.result c.from_residual.ensures.1 in
    rw (p.1, p.2, c.in-Head.is, ← c.head_byte.ensures f, c.in_err-h-in-Head.was)

pub returns-in-Going : goal.returns-in-Going
unfolding step_gap step_box lift
returns-in-Going c = λ f. rw (c.in-Head.is, ← c.head_byte.ensures f, c.in_ok-h-in-Head.was, c.in-Going.is)

pub returns-in-Done : goal.returns-in-Done
unfolding step_gap step_box lift
returns-in-Done c = λ f. rw (c.in-Head.is, ← add-one c.args.n, ← c.head_byte.ensures f, c.in_ok-h-in-Head.was, c.in-Done.is) (c.gap_headed.ensures f)

pub returns-in-Body : goal.returns-in-Body
unfolding step_gap step_box
returns-in-Body c = λ f. rw (c.in-Body.is, ← add-one c.args.n) (c.gap_skip.ensures f)
