-- `flaws::box_span` meets its contract, by that of `header_flaw`, by the law `unshown`, and by the definition of `span_or`.
use mathlib.Core.Path.{sym, ◌∙◌}
use native.Mathlib.Omega.{arith}
use Rattle.flaws.specs.Flaws.{span_or}
use Rattle.flaws.proofs.Headed.{unshown}
use Rattle.flaws.proofs.box_span.Goals as goal

pub overflow_add-result : goal.overflow_add-result
overflow_add-result c = omega (arith, unshown c.args.end c.args.h c.args.other (sym c.header_flaw.ensures ∙ c.in-None.is))

pub returns-in-Some : goal.returns-in-Some
unfolding span_or
returns-in-Some c = rw (← c.header_flaw.ensures, c.in-Some.is)

pub returns-in-None : goal.returns-in-None
unfolding span_or
returns-in-None c = rw (← c.header_flaw.ensures, c.in-None.is)
