-- `fields::field_at` meets its contract, by that of `number_at`, and by the definition of `field_at`.
use native.Mathlib.Omega.{arith}
use borrow.Author.Tests.{lt-ltb, le-ltb}
use Rattle.basics.specs.Choose.{pick}
use Rattle.fields.specs.Answers.{field_at}
use Rattle.fields.proofs.Width.{widths_few}
use Rattle.fields.proofs.field_at.Goals as goal

pub overflow_add-next : goal.overflow_add-next
overflow_add-next c = omega (arith, widths_few c.args.width c.requires.0)

pub returns-then-bytes-next : goal.returns-then-bytes-next
unfolding field_at pick
returns-then-bytes-next c = (rw (lt-ltb _ _ c.if-bytes-next.true), tt)

pub returns : goal.returns
unfolding field_at pick
returns c = (rw (le-ltb _ _ c.if-bytes-next.false, c.number_at.ensures.0), c.number_at.ensures.1)
