-- `doubles::double_of` meets its contract, by that of `not_a_number`, and by the laws `above_infinity` and `up_to_infinity`.
use mathlib.Core.Path.{sym, ◌∙◌}
use Rattle.doubles.proofs.Patterns.{above_infinity, up_to_infinity}
use Rattle.doubles.proofs.double_of.Goals as goal

pub returns-then-bits-gt-INFINITE : goal.returns-then-bits-gt-INFINITE
returns-then-bits-gt-INFINITE c = c.not_a_number.ensures ∙ sym (above_infinity c.args.bits c.if-bits-gt-INFINITE.true)

pub float_from_bits-result : goal.float_from_bits-result
float_from_bits-result c = up_to_infinity c.args.bits c.if-bits-gt-INFINITE.false
