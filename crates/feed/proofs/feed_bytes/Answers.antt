-- `feed::feed_bytes` meets its contract, by that of `advance`, and by the law `fed_end`. The loop's invariant: what the rest of the piece comes
-- to from here is what the whole piece comes to from the start.
use mathlib.Core.Path.{refl, sym, ◌∙◌}
use native.Mathlib.Omega.{arith}
use Rattle.feed.proofs.Laws.{fed_end}
use Rattle.feed.proofs.feed_bytes.Goals as goal

pub loop-i-init : goal.loop-i-init
loop-i-init c = (omega arith, refl, refl, c.requires.1, refl)

pub advance-state-requires : goal.advance-state-requires
advance-state-requires c =
    let asked = c.requires in
    (omega (arith, c.loop-i.invariant.1, asked.0), c.loop-i.invariant.3, c.loop-i-test.true)

pub loop-i-smaller : goal.loop-i-smaller
loop-i-smaller c = omega (arith, c.loop-i-test.true, c.advance-state.ensures.later, c.advance-state.ensures.within)

pub loop-i-preserved : goal.loop-i-preserved
loop-i-preserved c = (
  c.advance-state.ensures.within,
  c.advance-state.auto.work ∙ c.loop-i.invariant.1,
  c.advance-state.auto.table ∙ c.loop-i.invariant.2,
  c.advance-state.ensures.inside,
  c.advance-state.ensures.same ∙ c.loop-i.invariant.4,
)

pub shape_of-work : goal.shape_of-work
shape_of-work c = c.loop-i.invariant.1

pub shape_of-table : goal.shape_of-table
shape_of-table c = c.loop-i.invariant.2

pub returns : goal.returns
returns c = sym (fed_end _ _ _ _ _ c.loop-i-test.false) ∙ c.loop-i.invariant.4
