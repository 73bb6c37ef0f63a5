-- `walk_index::store_rest` meets its contract. The loop's invariant, `Stores`: the bytes to come, stored too, leave what all do.
use Rattle.walk_index.proofs.Stores.{Stores}
use Rattle.walk_index.proofs.store_rest.Given as goal

abbrev pub invariant-loop-k : goal.invariant-loop-k
invariant-loop-k l = Stores l.b-items l.i l.initial.work l.work l.k
