-- A byte in the segment: within the limit its stage's step, and past it what the limit has it give.
use native.Mathlib.Omega.{arith}
use Rattle.byte.proofs.Laws.{reading_one, reading_limit, reading_count, reading_leaves, reading_stage}
use Rattle.byte.proofs.reading_byte.Goals as goal

pub limit_byte-requires : goal.limit_byte-requires
limit_byte-requires c =
    let a = c.args in
    (c.requires.0, reading_stage a.n a.r.leaves a.r.now a.r.last a.s c.requires.1)

pub returns-then-n-eq-LIMIT : goal.returns-then-n-eq-LIMIT
returns-then-n-eq-LIMIT c =
    let a = c.args in
    let at-limit = c.if-n-eq-LIMIT.true in
    reading_limit a.n a.r.leaves a.r.now a.r.last a.b a.s a.work.now a.table.now _ at-limit (c.limit_byte.ensures a.table.now)

pub stage_byte-q-requires : goal.stage_byte-q-requires
stage_byte-q-requires c =
    let a = c.args in
    let count = reading_count a.n a.r.leaves a.r.now a.r.last a.s c.requires.1 in (
      omega (arith, c.if-n-eq-LIMIT.false, count),
      c.requires.0,
      reading_leaves a.n a.r.leaves a.r.now a.r.last a.s c.requires.1,
      reading_stage a.n a.r.leaves a.r.now a.r.last a.s c.requires.1,
    )

pub state_after-requires : goal.state_after-requires
state_after-requires c =
    let a = c.args in
    reading_count a.n a.r.leaves a.r.now a.r.last a.s c.requires.1

pub returns : goal.returns
returns c =
    let a = c.args in
    let q = c.stage_byte-q in
    let count = reading_count a.n a.r.leaves a.r.now a.r.last a.s c.requires.1 in
    reading_one a.n a.r.leaves a.r.now a.r.last a.b a.s _ _ q.result _ _ c.state_after.result
    (omega (arith, c.if-n-eq-LIMIT.false, count)) q.ensures c.state_after.ensures
