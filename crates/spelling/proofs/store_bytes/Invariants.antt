-- `spelling::store_bytes` meets its contract. The loop's invariant, `Stores`: the bytes to come, stored too, leave what all do.
use Rattle.spelling.proofs.Loops.{Stores}
use Rattle.spelling.proofs.store_bytes.Given as goal

abbrev pub invariant-loop-k : goal.invariant-loop-k
invariant-loop-k l = Stores l.bytes l.at l.initial.work l.work l.k
