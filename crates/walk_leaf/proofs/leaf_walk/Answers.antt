-- `walk_leaf::leaf_walk` meets its contract, by those of `leaf_list` and `stop_at`, and by the laws `walked_stays`, `walked_bare` and `walked_timed`.
use native.Mathlib.Omega.{arith}
use Rattle.fields.proofs.Answers.{handed}
use Rattle.walk_leaf.proofs.Loops.{false_of, true_of}
use Rattle.walk_leaf.proofs.Leaves.{walked_stays, walked_bare, walked_timed}
use Rattle.walk_leaf.proofs.leaf_walk.Goals as goal

pub returns-in_err-so : goal.returns-in_err-so
returns-in_err-so c =
    let a = c.args in
    rw (handed c.from_residual.ensures.1) (walked_stays a.id a.bytes.now a.at a.end a.last c.leaf_list.ensures _ c.in_err-so.was)

pub returns-then-not-so : goal.returns-then-not-so
returns-then-not-so c =
    let a = c.args in
    rw c.stop_at.ensures (walked_bare a.id a.bytes.now a.at a.end a.last c.leaf_list.ensures c.in_ok-so.was (false_of c.if-not-so.true) (omega arith))

pub returns : goal.returns
returns c =
    let a = c.args in
    walked_timed a.id a.bytes.now a.at a.end a.last c.leaf_list.ensures c.in_ok-so.was (true_of c.if-not-so.false)
