-- `records::record_at` meets its contract, by the law `record_read`.
use Rattle.records.proofs.Laws.{record_read}
use Rattle.records.proofs.record_at.Goals as goal

pub returns : goal.returns
returns c =
    let a = c.args in
    record_read a.table.now a.i
