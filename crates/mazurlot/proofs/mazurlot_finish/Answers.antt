-- `mazurlot::mazurlot_finish` meets its contract, by those of `unpack`, `finish`, `pack` and `say_count`, and by the laws of what a call leaves (`Laws`).
use mathlib.Core.Path.{◌∙◌}
use native.Mathlib.Omega.{arith}
use Rattle.std.proofs.Common.{rules}
use borrow.Author.Tests.{lt-ltb, le-ltb}
use Rattle.basics.specs.Choose.{pick}
use Rattle.mazurlot.specs.Calls.{finished_from, finish_call}
use Rattle.mazurlot.proofs.Laws.{was_refused, finished_call}
use Rattle.mazurlot.proofs.mazurlot_finish.Goals as goal

pub returns-then-answer-lt-ONE_VALUE : goal.returns-then-answer-lt-ONE_VALUE
unfolding finish_call pick
returns-then-answer-lt-ONE_VALUE c = rw (lt-ltb _ _ c.if-answer-lt-ONE_VALUE.true)

pub returns-in_default : goal.returns-in_default
unfolding finish_call finished_from pick
returns-in_default c = rw (le-ltb _ _ c.if-answer-lt-ONE_VALUE.false, was_refused _ _ c.unpack.ensures _ c.in_default.is)

-- what is said is asked of `omega` and `search`, so that only its value counts, and not how it is written
pub returns : goal.returns
returns c =
    let said = c.say_count.ensures in
    finished_call _ _ _ c.unpack.ensures _ c.in-Ok.is c.if-answer-lt-ONE_VALUE.false _ _ c.finish-finished.ensures _ c.pack.ensures.1 _ _ _ (omega arith ∙ said.0, said.1) (search rules)
