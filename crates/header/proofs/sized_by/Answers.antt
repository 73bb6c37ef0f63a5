-- `header::sized_by` meets its contract, by the definitions of `sized`, `pick`, `unless`, `shows` and `lowest`.
use borrow.Author.Tests.{lt-ltb, le-ltb, eq-eqb, ne_eqb}
use Rattle.basics.specs.Choose.{pick}
use Rattle.machine.specs.Faults.{shows, lowest, unless}
use Rattle.machine.specs.Heads.{sized}
use Rattle.header.proofs.sized_by.Goals as goal

pub returns-then-size-ne1 : goal.returns-then-size-ne1
unfolding sized pick
returns-then-size-ne1 c = λ f. simp (ne_eqb _ _ c.if-size-ne1.true)

pub returns-then-end-pos : goal.returns-then-end-pos
unfolding sized pick unless shows lowest
returns-then-end-pos c = λ f. simp (eq-eqb _ _ c.if-size-ne1.false, lt-ltb _ _ c.if-end-pos.true)

pub returns : goal.returns
unfolding sized pick unless shows lowest
returns c = λ f. simp (eq-eqb _ _ c.if-size-ne1.false, le-ltb _ _ c.if-end-pos.false)
