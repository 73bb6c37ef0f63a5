-- `leap_leaf::leaf_bytes` meets its contract, by those of `leaf_ahead` and `leaf_byte`, and by the laws `from_then`, `from_byte` and `from_within`. The
-- loop's invariant: the bytes so far have taken the leaf from its first boxes to those at hand; the measure is the bytes to come.
use Prim.Native.Nat.{◌-◌}
use lib.ListN.{length}
use Rattle.state.specs.Ranges.{Within, leaf_bounds}
use Rattle.leap_leaf.specs.Goes.{From}
use Rattle.leap_leaf.proofs.leaf_bytes.Given as goal

abbrev pub invariant-loop-slot : goal.invariant-loop-slot
invariant-loop-slot l = From l.id l.slot l.full l.n l.bytes l.fn.s 0 l.on.boxes l.on.at × Within (leaf_bounds l.on.boxes)

abbrev pub decreases-loop-slot : goal.decreases-loop-slot
decreases-loop-slot l = length l.bytes - l.on.at
