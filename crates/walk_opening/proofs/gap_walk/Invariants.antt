-- `walk_opening::gap_walk` meets its contract, by those of `read_head`, `gap_kind_flaw`, `top_flaw` and `head_crossed`, and by the laws of the gap. The loop's invariant: what is right
-- from the position on is right from the start on; the measure is what is left of the gap.
use Prim.Native.Nat.{◌-◌, ◌≤◌}
use lib.ListN.{length}
use Rattle.walk_opening.specs.Views.{Crossed}
use Rattle.walk_opening.proofs.Gap.{GapFrom}
use Rattle.walk_opening.proofs.gap_walk.Given as goal

abbrev pub invariant-loop-at : goal.invariant-loop-at
invariant-loop-at l = (l.at ≤ l.end) × (l.at ≤ length l.bytes) × ((r : Crossed) → GapFrom l.bytes l.end l.at r → GapFrom l.bytes l.end l.from r)

abbrev pub decreases-loop-at : goal.decreases-loop-at
decreases-loop-at l = l.end - l.at
