-- `walk_index::read_entries` meets its contract. The loop's invariant, `EntriesSo`: what is read from here is what is read from the first entry on; the measure is
-- the bytes to come.
use Prim.Native.Nat.{◌-◌}
use Rattle.walk_index.proofs.Walks.{EntriesSo}
use Rattle.walk_index.proofs.read_entries.Given as goal

abbrev pub invariant-loop-j : goal.invariant-loop-j
invariant-loop-j l = EntriesSo l.bytes l.pos l.from l.end l.part l.initial.work l.sizes l.durations l.i l.j l.work

abbrev pub decreases-loop-j : goal.decreases-loop-j
decreases-loop-j l = l.end - l.j
