-- `walk_leaf::box_walk` and `walk_leaf::list_walk` call each other. The measures are twice the bytes of a box, and twice those that are left of a list, and one.
-- The loop's invariant: what is right for the boxes from here on is right for all of them.
use Prim.Native.Nat.{◌+◌, ◌-◌, ◌*◌, ◌≤◌}
use lib.ListN.{length}
use Rattle.std.specs.Prelude.{Result}
use Rattle.state.specs.declared.Seen.{Seen}
use Rattle.fields.specs.declared.Halt.{Halt}
use Rattle.walk_leaf.proofs.Moofs.{MoofFrom}
use Rattle.walk_leaf.proofs.+box_walk_list_walk.Given as goal

abbrev pub decreases-box_walk : goal.decreases-box_walk
decreases-box_walk l = 2 * l.h.size

abbrev pub decreases-list_walk : goal.decreases-list_walk
decreases-list_walk l = 2 * (l.end - l.from) + 1

abbrev pub invariant-list_walk-loop-at : goal.invariant-list_walk-loop-at
invariant-list_walk-loop-at l =
    (l.initial.at ≤ l.at) × (l.at ≤ l.end) × (l.at ≤ length l.bytes)
    × ((r : Result Seen Halt) → MoofFrom l.id l.bytes l.end l.at l.seen r → MoofFrom l.id l.bytes l.end l.initial.at l.initial.seen r)

abbrev pub decreases-list_walk-loop-at : goal.decreases-list_walk-loop-at
decreases-list_walk-loop-at l = l.end - l.at
