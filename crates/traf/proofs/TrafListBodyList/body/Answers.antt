-- `body` of the boxes of a `traf` meets its contract where a body is skipped, by that of `skip_to`, by the law `skipped`, and by the definition of `step_traf_body`.
use native.Mathlib.Numerals.{add-one}
use Rattle.lists.proofs.Laws.{skipped}
use Rattle.state.specs.Traf.{step_traf_body}
use Rattle.traf.specs.Views.{gave_of}
use Rattle.traf.proofs.TrafListBodyList.body.Goals as goal

pub returns-in-Skip : goal.returns-in-Skip
unfolding step_traf_body
returns-in-Skip c = λ f e. rw (c.in-Skip.is, ← add-one) (skipped gave_of f _ _ _ _ c.skip_to.ensures)

pub returns-in-Rest : goal.returns-in-Rest
unfolding step_traf_body
returns-in-Rest c = λ f e. rw (c.in-Rest.is, ← add-one) (skipped gave_of f _ _ _ _ c.skip_to-in-Rest.ensures)
