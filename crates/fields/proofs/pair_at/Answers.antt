-- `fields::pair_at` meets its contract, by that of `wide`, and by the law `pair_law`.
use native.Mathlib.Omega.{arith}
use Rattle.fields.proofs.Width.{pair_law}
use Rattle.fields.proofs.pair_at.Goals as goal

pub returns : goal.returns
returns c =
    let asked = c.requires in
    (pair_law _ _ _ _ asked c.wide-a.ensures.0 c.wide-b.ensures.0, omega arith)
