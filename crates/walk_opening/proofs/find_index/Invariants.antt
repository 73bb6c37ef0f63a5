-- `walk_opening::find_index` meets its contract, by those of `quick_head`, `opening_flaw` and `opening_box`, and by the laws of the boxes up to the top index. The loop's invariant: what
-- is right from the position on is right from the start on; the measure is what is left up to the limit.
use Prim.Native.Nat.{◌-◌, ◌≤◌}
use lib.ListN.{length}
use Rattle.walk_opening.specs.Steps.{Found, FoundFrom}
use Rattle.walk_opening.proofs.find_index.Given as goal

abbrev pub invariant-loop-at : goal.invariant-loop-at
invariant-loop-at l = (l.at ≤ l.end) × (l.at ≤ length l.bytes) × ((r : Found) → FoundFrom l.brand l.branded l.bytes l.at l.end r → FoundFrom l.brand l.styp l.bytes 0 l.end r)

abbrev pub decreases-loop-at : goal.decreases-loop-at
decreases-loop-at l = l.end - l.at
