-- `batch::changes::up_to` meets its contract. The loop's invariant: up to the place at hand all is as told.
use Prim.Native.Nat.{ℕ, ◌≤◌, ◌<◌}
use mathlib.Core.Path.{◌≡◌}
use Rattle.batch.specs.Runs.{same_at}
use Rattle.batch.proofs.changes.up_to.Given as goal

abbrev pub invariant-loop-i : goal.invariant-loop-i
invariant-loop-i g l = (d : _) (j : ℕ) → l.from ≤ j → j < l.i → same_at (g.T.PartialEq.eq) l.old l.new d j ≡ l.alike
