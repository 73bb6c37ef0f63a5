-- `mazurlot::answers::say_page` meets its contract, by the definition of `pick`.
use mathlib.Core.Path.{refl}
use borrow.Author.Tests.{eq-eqb, ne_eqb}
use Rattle.basics.specs.Choose.{pick}
use Rattle.mazurlot.proofs.answers.say_page.Goals as goal

pub returns-then-number-ne-NO_STATE : goal.returns-then-number-ne-NO_STATE
unfolding pick
returns-then-number-ne-NO_STATE c = (refl, rw (ne_eqb _ _ c.if-number-ne-NO_STATE.true))

pub returns-else-number-ne-NO_STATE : goal.returns-else-number-ne-NO_STATE
unfolding pick
returns-else-number-ne-NO_STATE c = (refl, rw (eq-eqb _ _ c.if-number-ne-NO_STATE.false))
