-- `lookup::covers_at` meets its contract, by the laws `before_start` and `since_start`.
use mathlib.Core.Path.{sym, ◌∙◌}
use native.Mathlib.Omega.{arith}
use borrow.Author.Tests.{lt-leb}
use Rattle.lookup.specs.Spots.{record_from}
use Rattle.lookup.proofs.Passing.{before_start, since_start}
use Rattle.lookup.proofs.covers_at.Goals as goal

pub returns-then-start-t : goal.returns-then-start-t
returns-then-start-t c =
    let a = c.args in
    sym (since_start (record_from a.table.now a.at) a.t c.if-start-t.true)

pub returns-else-start-t : goal.returns-else-start-t
returns-else-start-t c =
    let a = c.args in
    lt-leb _ _ c.if-start-t.false ∙ sym (before_start (record_from a.table.now a.at) a.t (omega arith))
