-- `doubles::not_a_number` meets its contract, by the definitions of `div`, `neg` and `of_bits`: zero by zero is not a number, nor is its opposite.
use mathlib.Core.Path.{refl}
use lib.Ieee.{div, neg, of_bits}
use Rattle.doubles.proofs.not_a_number.Goals as goal

pub returns-then-opposite : goal.returns-then-opposite
unfolding div neg of_bits
returns-then-opposite c = refl

pub returns-else-opposite : goal.returns-else-opposite
unfolding div of_bits
returns-else-opposite c = refl
