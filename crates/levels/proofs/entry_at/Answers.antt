-- `levels::entry_at` meets its contract, by that of `word_at`, and by the law `entry_law`.
use Rattle.levels.proofs.Places.{entry_law}
use Rattle.levels.proofs.entry_at.Goals as goal

pub returns : goal.returns
returns c = entry_law _ _ _ _ _ c.word_at-first.ensures.0 c.word_at-duration.ensures.0 c.word_at-sap.ensures.0
