-- The byte past the limit, in the segment: its row, what is stored of it, and that it counts as read.
use Rattle.segment.specs.Constants.{limit}
use Rattle.byte.proofs.Laws.{reading_past}
use Rattle.byte.proofs.limit_byte.Goals as goal

pub returns : goal.returns
returns c =
    let a = c.args in
    let row = c.limit_row-x.ensures in
    let kept = c.store_byte.ensures in
    λ table. reading_past limit a.r.leaves a.r.now a.r.last a.b a.s a.work.now table _ _ _ (row a.r.leaves a.r.last table) kept
    c.past_limit.ensures
