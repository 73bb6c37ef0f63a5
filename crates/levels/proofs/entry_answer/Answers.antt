-- `levels::entry_answer` meets its contract, by those of `altered` and `slot_of`, and by the law `unaltered`.
use mathlib.Core.Path.{sym, ◌∙◌}
use native.Mathlib.Omega.{arith}
use Rattle.levels.proofs.Sums.{unaltered}
use Rattle.levels.proofs.entry_answer.Goals as goal

pub slot_of-requires : goal.slot_of-requires
slot_of-requires c =
    let a = c.args in
    let k = unaltered a.l a.e a.at a.n (sym c.altered.ensures ∙ c.if-altered.false) in
    (omega (arith, k.0), omega (arith, k.1))
