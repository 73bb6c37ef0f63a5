-- `walk_leaf::leaf_list`: the loop's invariant is that what is right for the boxes from here on is right for all of them, and the measure what is left of the leaf.
use Prim.Native.Nat.{◌-◌, ◌≤◌}
use lib.ListN.{length}
use Rattle.std.specs.Prelude.{Result}
use Rattle.state.specs.declared.LeafSo.{LeafSo}
use Rattle.fields.specs.declared.Halt.{Halt}
use Rattle.walk_leaf.proofs.Leaves.{LeafFrom}
use Rattle.walk_leaf.proofs.leaf_list.Given as goal

abbrev pub invariant-loop-at : goal.invariant-loop-at
invariant-loop-at l =
    (l.initial.at ≤ l.at) × (l.at ≤ l.end) × (l.at ≤ length l.bytes)
    × ((r : Result LeafSo Halt) → LeafFrom l.id l.bytes l.end l.at l.so r → LeafFrom l.id l.bytes l.end l.initial.at l.initial.so r)

abbrev pub decreases-loop-at : goal.decreases-loop-at
decreases-loop-at l = l.end - l.at
