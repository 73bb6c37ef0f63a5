-- `mazurlot::accepted::zeros_behind` meets its contract, by the laws of a place (`next_place`, `last_place`).
use native.Mathlib.Omega.{arith}
use Rattle.mazurlot.proofs.Numbered.{next_place, last_place}
use Rattle.mazurlot.proofs.accepted.zeros_behind.Goals as goal

pub loop-i-preserved : goal.loop-i-preserved
loop-i-preserved c = next_place c.args.numbers.now c.loop-i.zeros c.loop-i.i c.loop-i.invariant c.requires (omega arith)

pub returns : goal.returns
returns c = last_place c.args.numbers.now c.loop-i.zeros c.loop-i.i c.loop-i.invariant c.requires (omega arith)
