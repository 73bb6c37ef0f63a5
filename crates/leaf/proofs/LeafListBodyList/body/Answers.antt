-- `body` of the boxes of a `leaf` meets its contract where a body is skipped, by that of `skip_to`, by the law `skipped`, and by the definition of `step_leaf_body`.
use native.Mathlib.Numerals.{add-one}
use Rattle.lists.proofs.Laws.{skipped}
use Rattle.state.specs.Leaf.{step_leaf_body}
use Rattle.leaf.specs.Leaf.{passed_of}
use Rattle.leaf.proofs.LeafListBodyList.body.Goals as goal

pub returns-in-Skip : goal.returns-in-Skip
unfolding step_leaf_body
returns-in-Skip c = λ f e. rw (c.in-Skip.is, ← add-one) (skipped passed_of f _ _ _ _ c.skip_to.ensures)
