-- `leap_leaf::leaf_ahead` meets its contract, by those of `leaf_end`, `head_ahead`, `leaf_number`, `number_ahead` and `skipped_ahead`.
use native.Mathlib.Omega.{arith}
use Rattle.leap_leaf.proofs.leaf_ahead.Goals as goal

pub number_ahead-requires : goal.number_ahead-requires
number_ahead-requires c =
    let pre = c.requires in
    (pre.0, c.leaf_number-x.ensures, omega (arith, c.if-x-ne0.true), pre.2)

pub returns-then-x-ne0 : goal.returns-then-x-ne0
returns-then-x-ne0 c id full = c.number_ahead.ensures id _ full _

pub returns : goal.returns
returns c id full = c.skipped_ahead.ensures id _ full
