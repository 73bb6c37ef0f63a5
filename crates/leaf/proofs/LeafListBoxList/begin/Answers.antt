-- `begin` of the boxes of a leaf meets its contract where a `moof` begins, by those of `moof_on`, `next_box` and `lift_moof`, by the law `goes`, and by the
-- definition of `begin_leaf`.
use mathlib.Core.Path.{ap, refl, ◌∙◌}
use borrow.Author.Tests.{eq-eqb}
use Rattle.basics.specs.Choose.{pick}
use Rattle.machine.specs.Run.{done, bad, lift}
use Rattle.state.specs.Leaf.{moof_boxes, begin_leaf, lift_moof}
use Rattle.lists.specs.Listed.{next_head}
use Rattle.lists.proofs.Laws.{goes}
use Rattle.leaf.proofs.LeafListBoxList.begin.Goals as goal

pub returns-then-h-eq-MOOF : goal.returns-then-h-eq-MOOF
unfolding begin_leaf pick
returns-then-h-eq-MOOF c =
    let a = c.args in
    λ f e. rw (eq-eqb _ _ c.if-h-eq-MOOF.true)
    (c.lift_moof.ensures f
    ∙ ap (lift_moof _) (c.next_box.ensures f ∙ ap (lift next_head done bad) (c.moof_on.ensures f) ∙ goes (moof_boxes a.self.now.id _) f refl _))
