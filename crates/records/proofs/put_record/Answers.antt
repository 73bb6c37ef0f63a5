-- `records::put_record` meets its contract, by those of `numbers_of` and `copy_from_slice`, and by the law `record_put`.
use mathlib.Core.Path.{◌∙◌}
use Rattle.records.proofs.Laws.{record_put}
use Rattle.records.proofs.put_record.Goals as goal

pub returns : goal.returns
returns c = rw (c.copy_from_slice.ensures.after ∙ c.numbers_of.ensures) (record_put c.args.table.now _ c.args.r c.requires)
