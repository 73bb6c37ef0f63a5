-- `lookup::look_beyond` meets its contract, by that of `covers_beyond`, by the laws of a place (`Turns`), and by `outside_past`: no record starts at
-- 2^64 ticks or later, since a start has 64 bits.
use Prim.Native.Nat.{◌+◌, ◌^◌}
use mathlib.Core.Path.{sym, ◌∙◌}
use native.Mathlib.Omega.{arith}
use Rattle.moment.specs.Moments.{tick}
use Rattle.lookup.proofs.Passing.{outside_past}
use Rattle.lookup.proofs.Turns.{first_place, place_found, next_place, last_place}
use Rattle.lookup.proofs.look_beyond.Goals as goal

pub loop-at-init : goal.loop-at-init
loop-at-init c = let a = c.args in first_place a.leaves a.table.now (tick (2 ^ 64 + a.t))

pub covers_beyond-requires : goal.covers_beyond-requires
covers_beyond-requires c = let so = c.loop-at.invariant.starts in omega arith

pub returns-then-covers_beyond : goal.returns-then-covers_beyond
returns-then-covers_beyond c =
    let a = c.args in
    place_found a.leaves a.table.now (tick (2 ^ 64 + a.t)) c.loop-at.at c.loop-at.invariant (omega arith) (omega arith) (sym c.if-covers_beyond.true ∙ c.covers_beyond.ensures)

pub overflow_add-at : goal.overflow_add-at
overflow_add-at c = let so = c.loop-at.invariant.starts in omega arith

pub loop-at-preserved : goal.loop-at-preserved
loop-at-preserved c =
    let a = c.args in
    next_place a.leaves a.table.now (tick (2 ^ 64 + a.t)) c.loop-at.at c.loop-at.invariant (omega arith) (sym c.if-covers_beyond.false ∙ c.covers_beyond.ensures)

pub returns : goal.returns
returns c =
    let a = c.args in
    sym (outside_past a.leaves a.table.now (2 ^ 64 + a.t) (omega (arith, (c.type_inv.table 2).fits)))
    ∙ last_place a.leaves a.table.now (tick (2 ^ 64 + a.t)) c.loop-at.at c.loop-at.invariant (omega arith)
