-- `listing::table_line` meets its contract, by those of `starting` and `leaf_at`, and by the laws `after_held` and `after_none`.
use Rattle.listing.proofs.Laws.{after_held, after_none}
use Rattle.listing.proofs.table_line.Goals as goal

pub returns-then-table-i : goal.returns-then-table-i
returns-then-table-i c = rw (after_none _ _ c.if-table-i.true) c.starting.ensures

pub returns : goal.returns
returns c = rw (after_held _ _ c.if-table-i.false) c.leaf_at.ensures
