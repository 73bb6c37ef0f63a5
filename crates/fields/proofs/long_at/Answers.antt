-- `fields::long_at` meets its contract, by that of `word_at`, and by the law `long_law`.
use Rattle.fields.proofs.Width.{long_law}
use Rattle.fields.proofs.long_at.Goals as goal

pub returns : goal.returns
returns c = long_law _ _ _ _ c.requires c.word_at-high.ensures.0 c.word_at-low.ensures.0
