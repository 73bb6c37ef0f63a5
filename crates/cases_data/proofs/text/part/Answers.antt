-- `cases_data::text::part` meets its contract, by that of `get`.
use Rattle.std.proofs.Common.{rules}
use Rattle.cases_data.proofs.Lists.{part_or_none}
use Rattle.cases_data.proofs.text.part.Goals as goal

pub returns : goal.returns
returns c = part_or_none _ _ _ _ _ _ (search rules) c.get.ensures.lookup c.unwrap_or.ensures
