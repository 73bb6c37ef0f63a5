-- `cases_cuttings::read_in` meets its contract: what is held and answered so far, with the rest of the pieces, is that of all of them.
use Rattle.std.proofs.Common.{◌≡◌, ◌-◌, ◌≤◌, true, ◌↔◌, length}
use Rattle.state.specs.Cutting.{held}
use Rattle.cases_cuttings.specs.Readings.{fed_pieces, Answer}
use Rattle.cases_cuttings.proofs.read_in.Given as goal

abbrev pub invariant-loop : goal.invariant-loop
invariant-loop l = (length l.work ≡ length l.initial.work) × (length l.table ≡ length l.initial.table) × (l.counter ≤ l.end)
    × (fed_pieces (l.end - l.counter) l.segment l.cut.other l.from l.to (held l.s l.work l.table)
    ≡ fed_pieces l.end l.segment l.cut.other l.initial.from l.initial.to (held l.initial.s l.initial.work l.initial.table))
    × (((l.answered ≡ true) × Answer l.want (l.end - l.counter) l.segment l.cut.other l.from l.to (held l.s l.work l.table))
    ↔ Answer l.want l.end l.segment l.cut.other l.initial.from l.initial.to (held l.initial.s l.initial.work l.initial.table))

abbrev pub decreases-loop : goal.decreases-loop
decreases-loop l = l.end - l.counter
