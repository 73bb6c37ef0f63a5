-- `fields::word_at` meets its contract, by that of `wide`, and by the law `word_law`.
use native.Mathlib.Omega.{arith}
use Rattle.fields.proofs.Width.{word_law}
use Rattle.fields.proofs.word_at.Goals as goal

pub returns : goal.returns
returns c =
    let asked = c.requires in
    (word_law _ _ _ _ _ _ asked c.wide-a.ensures.0 c.wide-b.ensures.0 c.wide-c.ensures.0 c.wide-d.ensures.0, omega arith)
