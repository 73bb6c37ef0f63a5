-- `mazurlot::answers::put_leaf` meets its contract, by the definition of `put_all`; a store leaves the slot as long as it was.
use mathlib.Core.Path.{refl}
use native.Mathlib.Omega.{arith}
use lib.ListN.{length-set}
use Rattle.basics.specs.Put.{put_all}
use Rattle.mazurlot.proofs.answers.put_leaf.Goals as goal

pub bounds-answer-1 : goal.bounds-answer-1
bounds-answer-1 c = simp length-set (omega arith)

pub bounds-answer-2 : goal.bounds-answer-2
bounds-answer-2 c = simp length-set (omega arith)

pub bounds-answer-3 : goal.bounds-answer-3
bounds-answer-3 c = simp length-set (omega arith)

pub bounds-answer-4 : goal.bounds-answer-4
bounds-answer-4 c = simp length-set (omega arith)

pub bounds-answer-5 : goal.bounds-answer-5
bounds-answer-5 c = simp length-set (omega arith)

pub bounds-answer-6 : goal.bounds-answer-6
bounds-answer-6 c = simp length-set (omega arith)

pub returns : goal.returns
unfolding put_all
returns c = refl
