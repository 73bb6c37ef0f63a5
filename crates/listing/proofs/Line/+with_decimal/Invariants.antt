-- `listing::Line::with_decimal` calls itself: the measure is how many digits there may be.
use Rattle.listing.proofs.Line.+with_decimal.Given as goal

abbrev pub decreases-with_decimal : goal.decreases-with_decimal
decreases-with_decimal l = l.most
