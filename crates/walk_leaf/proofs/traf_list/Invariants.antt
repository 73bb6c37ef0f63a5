-- `walk_leaf::traf_list`: the loop's invariant is that what is right for the boxes from here on is right for all of them, and the measure what is left of the `traf`.
use Prim.Native.Nat.{◌-◌, ◌≤◌}
use lib.ListN.{length}
use Rattle.std.specs.Prelude.{Result}
use Rattle.state.specs.declared.Seen.{Seen}
use Rattle.fields.specs.declared.Halt.{Halt}
use Rattle.walk_leaf.proofs.Trafs.{TrafFrom}
use Rattle.walk_leaf.proofs.traf_list.Given as goal

abbrev pub invariant-loop-at : goal.invariant-loop-at
invariant-loop-at l =
    (l.initial.at ≤ l.at) × (l.at ≤ l.end) × (l.at ≤ length l.bytes)
    × ((r : Result Seen Halt) → TrafFrom l.id l.bytes l.pos l.end l.at l.so r → TrafFrom l.id l.bytes l.pos l.end l.initial.at l.initial.so r)

abbrev pub decreases-loop-at : goal.decreases-loop-at
decreases-loop-at l = l.end - l.at
