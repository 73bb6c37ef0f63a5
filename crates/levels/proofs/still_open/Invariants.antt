-- `levels::still_open` meets its contract. The loop's invariant: what stays of the indexes that are still open is what stays of all; the measure is how
-- many are open.
use mathlib.Core.Path.{◌≡◌}
use Rattle.state.specs.Levels.{depth, still_open}
use Rattle.levels.proofs.still_open.Given as goal

abbrev pub invariant-loop-open : goal.invariant-loop-open
invariant-loop-open l = still_open l.open ≡ still_open l.fn.ls

abbrev pub decreases-loop-open : goal.decreases-loop-open
decreases-loop-open l = depth l.open
