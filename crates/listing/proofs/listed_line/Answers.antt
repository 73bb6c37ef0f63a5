-- `listing::listed_line` meets its contract, by those of `starting` and `with_numbers`, and by the law `line_length`.
use native.Mathlib.Omega.{arith}
use Rattle.listing.specs.Text.{ok_word}
use Rattle.listing.proofs.Laws.{line_length}
use Rattle.listing.proofs.listed_line.Goals as goal

pub with_numbers-requires : goal.with_numbers-requires
with_numbers-requires c = omega (arith, line_length ok_word c.starting.ensures)

pub returns : goal.returns
returns c = c.with_numbers.ensures.holds ok_word c.starting.ensures
