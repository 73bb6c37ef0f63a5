-- `walk_entries::under`, `entry_walk`, `inner_entry` and `inner_body`, one cycle of calls: the levels left fall. The loop's invariant is `Going`.
use Prim.Native.Nat.{◌+◌, ◌-◌, ◌*◌}
use Rattle.walk_entries.proofs.Laws.{Going}
use Rattle.walk_entries.proofs.+entry_walk_inner_body_inner_entry_under.Given as goal

abbrev pub decreases-entry_walk : goal.decreases-entry_walk
decreases-entry_walk l = 4 * l.left + 2

abbrev pub decreases-inner_body : goal.decreases-inner_body
decreases-inner_body l = 4 * l.left + 0

abbrev pub decreases-inner_entry : goal.decreases-inner_entry
decreases-inner_entry l = 4 * l.left + 1

abbrev pub decreases-under : goal.decreases-under
decreases-under l = 4 * l.left + 3

-- The entries of an index.
abbrev pub invariant-under-loop-l : goal.invariant-under-loop-l
invariant-under-loop-l l = Going l.left l.top l.base l.bytes l.initial.l l.l l.initial.so l.so l.initial.work l.initial.table l.work l.table

abbrev pub decreases-under-loop-l : goal.decreases-under-loop-l
decreases-under-loop-l l = l.l.count - l.l.next
