-- `mazurlot::answers::say` meets its contract, by the laws `other_writes` and `two_writes_nothing`.
use mathlib.Core.Path.{refl}
use Rattle.basics.specs.Put.{put_all}
use Rattle.mazurlot.proofs.Laws.{two_writes_nothing, other_writes}
use Rattle.mazurlot.proofs.answers.say.Goals as goal

pub returns-then-n-ne-NO_STATE : goal.returns-then-n-ne-NO_STATE
unfolding put_all
returns-then-n-ne-NO_STATE c = (refl, other_writes _ _ _ c.if-n-ne-NO_STATE.true)

pub returns-else-n-ne-NO_STATE : goal.returns-else-n-ne-NO_STATE
returns-else-n-ne-NO_STATE c = (refl, two_writes_nothing _ _ _ c.if-n-ne-NO_STATE.false)
