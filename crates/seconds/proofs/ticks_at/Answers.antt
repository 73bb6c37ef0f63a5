-- `seconds::ticks_at` meets its contract, by the laws `ticks_at_lem`, `ticks_beyond` and `ticks_past`.
use Rattle.seconds.proofs.Laws.{ticks_at_lem, ticks_beyond, ticks_past}
use Rattle.seconds.proofs.ticks_at.Goals as goal

pub returns-then-n-lt-FULL : goal.returns-then-n-lt-FULL
returns-then-n-lt-FULL c = ticks_at_lem c.args.n c.if-n-lt-FULL.true

pub returns-then-n : goal.returns-then-n
returns-then-n c = ticks_beyond c.args.n c.if-n-lt-FULL.false c.if-n.true

pub returns-else-n : goal.returns-else-n
returns-else-n c = ticks_past c.args.n c.if-n.false
