-- `lookup::look_beyond` meets its contract, by that of `covers_beyond`, by the laws of a place (`Turns`), and by `outside_past`: no record starts at
-- 2^64 ticks or later, since a start has 64 bits.
use Prim.Native.Nat.{◌+◌, ◌^◌, ◌*◌, ◌-◌}
use Rattle.table.specs.Table.{record_numbers}
use Rattle.moment.specs.Moments.{tick}
use Rattle.lookup.proofs.Turns.{Stands}
use Rattle.lookup.proofs.look_beyond.Given as goal

abbrev pub invariant-loop-at : goal.invariant-loop-at
invariant-loop-at l = Stands l.leaves l.table (tick (2 ^ 64 + l.t)) l.at

abbrev pub decreases-loop-at : goal.decreases-loop-at
decreases-loop-at l = record_numbers * l.leaves - l.at
