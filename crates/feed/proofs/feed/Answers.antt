-- `feed::feed` meets its contract: each way out is one of the checks of `feed_of`, by the laws of a feed; the part holds bytes by what is known
-- of a lent slice.
use mathlib.Core.Path.{sym, ◌∙◌}
use Rattle.basics.proofs.Bytes.{each_byte_all}
use Rattle.feed.proofs.Laws.{feeds_short, feeds_outside, feeds_inside}
use Rattle.state.proofs.RangeTests.{in_range_lem as within-range}
use Rattle.feed.proofs.feed.Goals as goal

-- the work area is short
pub returns-then-work-lt-WORK_BYTES : goal.returns-then-work-lt-WORK_BYTES
returns-then-work-lt-WORK_BYTES c =
    let a = c.args in
    record {
      fed = feeds_short a.s a.piece.now a.work.now a.table.now _ _ c.if-work-lt-WORK_BYTES.true c.turned_away.ensures;
      bytes = each_byte_all a.piece.now (λ i. (c.type_inv.piece i).fits);
    }

pub feed_bytes-next-requires : goal.feed_bytes-next-requires
feed_bytes-next-requires c =
    let a = c.args in
    (c.if-work-lt-WORK_BYTES.false, (within-range a.s).0 (sym c.in_range.ensures ∙ c.if-in_range.true))

-- the bytes are read
pub returns-then-in_range : goal.returns-then-in_range
returns-then-in_range c =
    let a = c.args in
    record {
      fed = feeds_inside a.s a.piece.now a.work.now a.table.now _ _ _ _ c.if-work-lt-WORK_BYTES.false (sym c.in_range.ensures ∙ c.if-in_range.true)
          c.answer_for.ensures c.feed_bytes-next.ensures;
      bytes = each_byte_all a.piece.now (λ i. (c.type_inv.piece i).fits);
    }

-- the state is out of its ranges
pub returns : goal.returns
returns c =
    let a = c.args in
    record {
      fed = feeds_outside a.s a.piece.now a.work.now a.table.now _ _ c.if-work-lt-WORK_BYTES.false (sym c.in_range.ensures ∙ c.if-in_range.false)
          c.turned_away-2.ensures;
      bytes = each_byte_all a.piece.now (λ i. (c.type_inv.piece i).fits);
    }
