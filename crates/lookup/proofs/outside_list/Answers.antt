-- `lookup::outside_list` meets its contract, by the laws `outside_none`, `outside_before` and `outside_past`.
use mathlib.Core.Path.{sym}
use Rattle.moment.specs.Moments.{tick}
use Rattle.lookup.proofs.Passing.{outside_none, outside_before, outside_past}
use Rattle.lookup.proofs.outside_list.Goals as goal

pub returns-then-leaves-eq0 : goal.returns-then-leaves-eq0
returns-then-leaves-eq0 c =
    let a = c.args in
    sym (outside_none a.leaves a.table.now (tick a.t) c.if-leaves-eq0.true)

pub returns-then-t-table : goal.returns-then-t-table
returns-then-t-table c =
    let a = c.args in
    sym (outside_before a.leaves a.table.now a.t c.if-leaves-eq0.false c.if-t-table.true)

pub returns-else-t-table : goal.returns-else-t-table
returns-else-t-table c =
    let a = c.args in
    sym (outside_past a.leaves a.table.now a.t c.if-t-table.false)
