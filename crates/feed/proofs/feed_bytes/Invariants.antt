-- `feed::feed_bytes` meets its contract, by that of `advance`, and by the law `fed_end`. The loop's invariant: what the rest of the piece comes
-- to from here is what the whole piece comes to from the start.
use Prim.Native.Nat.{◌-◌, ◌≤◌}
use mathlib.Core.Path.{◌≡◌}
use lib.ListN.{length, drop}
use Rattle.state.specs.Ranges.{InRange}
use Rattle.state.specs.Calls.{feed_state}
use Rattle.feed.proofs.feed_bytes.Given as goal

abbrev pub invariant-loop-i : goal.invariant-loop-i
invariant-loop-i l = (l.i ≤ length l.piece) × (length l.work ≡ length l.initial.work) × (length l.table ≡ length l.initial.table) × InRange l.r
    × (feed_state l.r (drop l.i l.piece) l.work l.table ≡ feed_state l.initial.r l.piece l.initial.work l.initial.table)

abbrev pub decreases-loop-i : goal.decreases-loop-i
decreases-loop-i l = length l.piece - l.i
