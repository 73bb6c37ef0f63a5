-- `pack::pack` meets its contract, by those of `numbers_of` and `copy_from_slice`.
use mathlib.Core.Path.{◌∙◌}
use borrow.Author.Tests.{eq-eqb, ne_eqb}
use Rattle.basics.specs.Choose.{pick}
use Rattle.numbered.specs.Unpacked.{pack_of}
use Rattle.pack.specs.Pack.{pack_answer}
use Rattle.pack.proofs.pack.Goals as goal

pub returns-then-numbers-ne-STATE_NUMBERS : goal.returns-then-numbers-ne-STATE_NUMBERS
unfolding pack_answer pack_of pick
returns-then-numbers-ne-STATE_NUMBERS c = let other = ne_eqb _ _ c.if-numbers-ne-STATE_NUMBERS.true in (rw other, rw other)

pub returns : goal.returns
unfolding pack_answer pack_of pick
returns c =
    let long = eq-eqb _ _ c.if-numbers-ne-STATE_NUMBERS.false in
    (rw long, rw long (c.copy_from_slice.ensures.after ∙ c.numbers_of.ensures))
