-- `listing::refused_line` meets its contract, by those of `starting` and `with_numbers`, and by the law `line_length`.
use native.Mathlib.Omega.{arith}
use Rattle.listing.specs.Text.{refused_word}
use Rattle.listing.proofs.Laws.{line_length}
use Rattle.listing.proofs.refused_line.Goals as goal

pub with_numbers-requires : goal.with_numbers-requires
with_numbers-requires c = omega (arith, line_length refused_word c.starting.ensures)

pub returns : goal.returns
returns c = c.with_numbers.ensures.holds refused_word c.starting.ensures
