-- `spelling::spell_bytes` meets its contract. The loop's invariant, `Spells`: with the bytes to come, those so far spell what all do.
use Rattle.spelling.proofs.Loops.{Spells}
use Rattle.spelling.proofs.spell_bytes.Given as goal

abbrev pub invariant-loop-b : goal.invariant-loop-b
invariant-loop-b l = Spells l.bytes l.acc l.b-index l.r
