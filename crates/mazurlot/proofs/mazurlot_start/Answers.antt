-- `mazurlot::mazurlot_start` meets its contract, by that of `put_start`.
use mathlib.Core.Path.{refl}
use borrow.Author.Tests.{eq-eqb, ne_eqb}
use Rattle.basics.specs.Choose.{pick}
use Rattle.mazurlot.specs.Calls.{start_call}
use Rattle.mazurlot.proofs.Laws.{same_call}
use Rattle.mazurlot.proofs.mazurlot_start.Goals as goal

pub returns-then-state-ne-STATE_NUMBERS : goal.returns-then-state-ne-STATE_NUMBERS
unfolding start_call pick
returns-then-state-ne-STATE_NUMBERS c = rw (ne_eqb _ _ c.if-state-ne-STATE_NUMBERS.true)

pub returns : goal.returns
unfolding start_call pick
returns c = rw (eq-eqb _ _ c.if-state-ne-STATE_NUMBERS.false) (same_call refl refl c.put_start.ensures)
