-- `lookup::look_in` meets its contract, by those of `covers_at` and `outside_list`, and by the laws of a place (`Turns`).
use Prim.Native.Nat.{◌*◌, ◌-◌}
use Rattle.table.specs.Table.{record_numbers}
use Rattle.moment.specs.Moments.{tick}
use Rattle.lookup.proofs.Turns.{Stands}
use Rattle.lookup.proofs.look_in.Given as goal

abbrev pub invariant-loop-at : goal.invariant-loop-at
invariant-loop-at l = Stands l.leaves l.table (tick l.t) l.at

abbrev pub decreases-loop-at : goal.decreases-loop-at
decreases-loop-at l = record_numbers * l.leaves - l.at
