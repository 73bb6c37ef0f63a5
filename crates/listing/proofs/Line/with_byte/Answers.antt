-- `listing::Line::with_byte` meets its contract, by the law `adds_byte`.
use borrow.Author.Rules.{rules}
use Rattle.listing.proofs.Laws.{adds_byte}
use Rattle.listing.proofs.Line.with_byte.Goals as goal

pub returns : goal.returns
returns c = adds_byte _ _ (search rules)
