-- `listing::Line::with_numbers` meets its contract. The loop's invariant: the numbers passed are added.
use lib.ListN.{take}
use Rattle.listing.specs.Text.{spaced, Adds}
use Rattle.listing.proofs.Line.with_numbers.Given as goal

abbrev pub invariant-loop-n : goal.invariant-loop-n
invariant-loop-n l = Adds l.initial.line (spaced (take l.n-index l.numbers)) l.line
