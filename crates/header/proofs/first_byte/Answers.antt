-- `header::first_byte` meets its contract, by the definitions of `step_head`, `unless`, `shows` and `lowest`.
use borrow.Author.Tests.{lt-ltb, le-ltb}
use Rattle.machine.specs.Faults.{shows, lowest, unless}
use Rattle.machine.specs.Heads.{step_head}
use Rattle.header.proofs.first_byte.Goals as goal

pub returns-then-end-n : goal.returns-then-end-n
unfolding step_head unless shows lowest
returns-then-end-n c = λ f. simp (lt-ltb _ _ c.if-end-n.true)

pub returns : goal.returns
unfolding step_head unless shows lowest
returns c = λ f. simp (le-ltb _ _ c.if-end-n.false)
