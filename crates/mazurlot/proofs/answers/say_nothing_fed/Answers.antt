-- `mazurlot::answers::say_nothing_fed` meets its contract, by that of `say`, and by the law `two_writes_nothing`.
use mathlib.Core.Path.{refl}
use borrow.Author.Tests.{lt-ltb, le-ltb}
use Rattle.basics.specs.Choose.{pick}
use Rattle.mazurlot.proofs.Laws.{two_writes_nothing}
use Rattle.mazurlot.proofs.answers.say_nothing_fed.Goals as goal

pub returns-then-work-lt-WORK_BYTES : goal.returns-then-work-lt-WORK_BYTES
unfolding pick
returns-then-work-lt-WORK_BYTES c = rw (lt-ltb _ _ c.if-work-lt-WORK_BYTES.true) c.say.ensures

pub returns : goal.returns
unfolding pick
returns c = rw (le-ltb _ _ c.if-work-lt-WORK_BYTES.false) (refl, two_writes_nothing 2 _ _ refl)
