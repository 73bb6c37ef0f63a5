-- `walk_index::store_word` meets its contract, by the definition of `put_all`.
use Prim.Native.Nat.{suc, ◌+◌}
use mathlib.Core.Path.{◌≡◌}
use native.Mathlib.Omega.{arith}
use lib.ListN.{length-set}
use Rattle.basics.specs.Put.{put_all}
use Rattle.walk_index.proofs.store_word.Goals as goal

pub bounds-work-i-2 : goal.bounds-work-i-2
bounds-work-i-2 c = simp length-set (omega arith)

pub bounds-work-i-3 : goal.bounds-work-i-3
bounds-work-i-3 c = simp length-set (omega arith)

pub bounds-work-i-4 : goal.bounds-work-i-4
bounds-work-i-4 c = simp length-set (omega arith)

pub returns : goal.returns
unfolding put_all
returns c =
    let i = c.args.i in
    let a : i + 1 ≡ suc i = omega arith in
    let b : i + 2 ≡ suc (suc i) = omega arith in
    let d : i + 3 ≡ suc (suc (suc i)) = omega arith in
    rw (a, b, d)
