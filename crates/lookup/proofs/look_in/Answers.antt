-- `lookup::look_in` meets its contract, by those of `covers_at` and `outside_list`, and by the laws of a place (`Turns`).
use mathlib.Core.Path.{sym, ◌∙◌}
use native.Mathlib.Omega.{arith}
use Rattle.moment.specs.Moments.{tick}
use Rattle.lookup.proofs.Turns.{first_place, place_found, next_place, last_place}
use Rattle.lookup.proofs.look_in.Goals as goal

pub loop-at-init : goal.loop-at-init
loop-at-init c = let a = c.args in first_place a.leaves a.table.now (tick a.t)

pub covers_at-requires : goal.covers_at-requires
covers_at-requires c = let so = c.loop-at.invariant.starts in omega arith

pub returns-then-covers_at : goal.returns-then-covers_at
returns-then-covers_at c =
    let a = c.args in
    place_found a.leaves a.table.now (tick a.t) c.loop-at.at c.loop-at.invariant (omega arith) (omega arith) (sym c.if-covers_at.true ∙ c.covers_at.ensures)

pub overflow_add-at : goal.overflow_add-at
overflow_add-at c = let so = c.loop-at.invariant.starts in omega arith

pub loop-at-preserved : goal.loop-at-preserved
loop-at-preserved c =
    let a = c.args in
    next_place a.leaves a.table.now (tick a.t) c.loop-at.at c.loop-at.invariant (omega arith) (sym c.if-covers_at.false ∙ c.covers_at.ensures)

pub returns : goal.returns
returns c =
    let a = c.args in
    c.outside_list.ensures ∙ last_place a.leaves a.table.now (tick a.t) c.loop-at.at c.loop-at.invariant (omega arith)
