-- `number_at_hand::inner_number` meets its contract, by those of `head_number`, `depth` and `sidx_number`, and by the definition of `inner_bounds`.
use native.Mathlib.Omega.{arith}
use Rattle.state.specs.Ranges.{inner_bounds}
use Rattle.number_at_hand.proofs.inner_number.Goals as goal

pub sidx_number-requires : goal.sidx_number-requires
unfolding inner_bounds
sidx_number-requires c = let w = rw c.in-Body.is at c.requires in (omega (arith, w.0, c.depth.ensures), w.1)
