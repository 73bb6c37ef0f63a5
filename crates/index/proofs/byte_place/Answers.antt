-- `index::byte_place` meets its contract, by those of `part_of` and `word_place`, and by the laws `word_most` and `part_most`.
use native.Mathlib.Omega.{arith}
use Rattle.state.proofs.RangeNumbers.{word_most}
use Rattle.index.proofs.Numbers.{part_most}
use Rattle.index.proofs.byte_place.Goals as goal

pub overflow_add-result : goal.overflow_add-result
overflow_add-result c = omega (arith, part_most c.args.p c.requires.0)

pub overflow_add-result-2 : goal.overflow_add-result-2
overflow_add-result-2 c =
    let a = c.args in
    omega (arith, part_most a.p c.requires.0, word_most a.part)

pub overflow_add-result-3 : goal.overflow_add-result-3
overflow_add-result-3 c =
    let a = c.args in
    omega (arith, part_most a.p c.requires.0, word_most a.part)
