-- `spelling::store_bytes` meets its contract, by the laws `stores_next` and `stores_last`, and by the definitions of `Room` and `stored_in`.
use native.Mathlib.Omega.{arith}
use Rattle.spelling.specs.Together.{stored_in, Room}
use Rattle.spelling.proofs.Loops.{stores_next, stores_last}
use Rattle.spelling.proofs.store_bytes.Goals as goal

pub overflow_add-work : goal.overflow_add-work
unfolding Room
overflow_add-work c = let h = rw c.in-Some.is at c.requires in omega (arith, h)

pub bounds-work-at : goal.bounds-work-at
unfolding Room
bounds-work-at c = let h = rw c.in-Some.is at c.requires in omega (arith, h)

pub loop-k-preserved : goal.loop-k-preserved
loop-k-preserved c =
    let l = c.loop-k in
    stores_next c.args.bytes.now c.in-Some.place c.args.work.now l.work l.k c.loop-k-test.true l.invariant

pub returns-in-None : goal.returns-in-None
unfolding stored_in
returns-in-None c = rw c.in-None.is

pub returns-after-loop-k : goal.returns-after-loop-k
unfolding stored_in
returns-after-loop-k c =
    let l = c.loop-k in
    rw c.in-Some.is (stores_last c.args.bytes.now c.in-Some.place c.args.work.now l.work l.k c.loop-k-test.false l.invariant)
