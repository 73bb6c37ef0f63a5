-- `listing::Line::starting` meets its contract. The loop's invariant: the line holds the bytes passed.
use mathlib.Core.Path.{◌≡◌}
use lib.ListN.{take}
use Rattle.listing.specs.Text.{line_of}
use Rattle.listing.proofs.Line.starting.Given as goal

abbrev pub invariant-loop-b : goal.invariant-loop-b
invariant-loop-b l = l.line ≡ line_of (take l.b-index l.word)
