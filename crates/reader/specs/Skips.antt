-- What the code answers of bytes that are not looked at.
use Rattle.std.specs.Prelude.{ℕ, List, Result, Ok, Err, ltb, length}
use Rattle.basics.specs.Choose.{pick}
use Rattle.fields.specs.declared.Halt.{Halt}
use Rattle.fields.specs.declared.Halt.TheVariants as halt

-- a skipped body, up to a position: its bytes are there, or they end before it does
unfoldable pub skip_at : List ℕ → ℕ → Result (Unit {0}) Halt
skip_at s end = pick (ltb (length s) end) (Err halt.Ended) (Ok tt)
