-- `mazurlot::accepted::accepted_numbers` meets its contract, by that of `zeros_behind`.
use borrow.Author.Tests.{eq-eqb, ne_eqb}
use Rattle.mazurlot.specs.Accepted.{accepted_numbers}
use Rattle.mazurlot.proofs.accepted.accepted_numbers.Goals as goal

pub returns-then-numbers-ne-STATE_NUMBERS : goal.returns-then-numbers-ne-STATE_NUMBERS
unfolding accepted_numbers
returns-then-numbers-ne-STATE_NUMBERS c = rw (ne_eqb _ _ c.if-numbers-ne-STATE_NUMBERS.true)

pub returns-then-numbers-eq-ACCEPTED : goal.returns-then-numbers-eq-ACCEPTED
unfolding accepted_numbers
returns-then-numbers-eq-ACCEPTED c = rw (eq-eqb _ _ c.if-numbers-ne-STATE_NUMBERS.false, eq-eqb _ _ c.if-numbers-eq-ACCEPTED.true) c.zeros_behind.ensures

pub returns-else-numbers-eq-ACCEPTED : goal.returns-else-numbers-eq-ACCEPTED
unfolding accepted_numbers
returns-else-numbers-eq-ACCEPTED c = rw (eq-eqb _ _ c.if-numbers-ne-STATE_NUMBERS.false, ne_eqb _ _ c.if-numbers-eq-ACCEPTED.false)
