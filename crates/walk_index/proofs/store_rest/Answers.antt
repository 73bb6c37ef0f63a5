-- `walk_index::store_rest` meets its contract, by the laws `stores_next` and `stores_last`.
use Rattle.std.proofs.lemmas.List.{take_rest}
use Rattle.walk_index.proofs.Stores.{stores_next, stores_last}
use Rattle.walk_index.proofs.store_rest.Goals as goal

pub loop-k-preserved : goal.loop-k-preserved
loop-k-preserved c = stores_next _ c.args.i c.args.work.now c.loop-k.work c.loop-k.k c.loop-k-test.true c.loop-k.invariant

pub returns : goal.returns
returns c =
    let a = c.args in
    rw (take_rest a.bytes.now a.j) at (stores_last _ a.i a.work.now c.loop-k.work c.loop-k.k c.loop-k-test.false c.loop-k.invariant)
