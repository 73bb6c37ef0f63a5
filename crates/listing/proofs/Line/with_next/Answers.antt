-- `listing::Line::with_next` meets its contract, by those of `with_byte` and `with_decimal`, and by the laws `adds_both`, `adds_as` and `spaced_one`.
use mathlib.Core.Path.{sym}
use Rattle.listing.proofs.Laws.{adds_both, adds_as, spaced_one}
use Rattle.listing.proofs.Line.with_next.Goals as goal

pub returns : goal.returns
returns c = adds_as (sym (spaced_one c.args.n)) (adds_both c.with_byte.ensures c.with_decimal.ensures)
