-- `mazurlot::accepted::zeros_behind` meets its contract, by the laws of a place (`next_place`, `last_place`).
use Rattle.mazurlot.proofs.Numbered.{Rest}
use Rattle.mazurlot.proofs.accepted.zeros_behind.Given as goal

abbrev pub invariant-loop-i : goal.invariant-loop-i
invariant-loop-i l = Rest l.numbers l.zeros l.i
