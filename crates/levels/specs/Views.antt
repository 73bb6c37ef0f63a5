-- What the code's answers say, in the definitions' own types.
use Rattle.std.specs.Prelude.{ℕ, Bool, Some, None}
use Rattle.std.specs.Prelude as code
use Rattle.std.proofs.Math.Option.{Option, some, none}
use Rattle.basics.specs.Choose.{pick}
use Rattle.state.specs.declared.Level.{Level}
use Rattle.state.specs.declared.Levels.{Levels}
use Rattle.state.specs.declared.Levels.TheVariants as levels
use Rattle.state.specs.declared.Slot.{Slot}
use Rattle.state.specs.declared.StoredEntry.{StoredEntry}
use Rattle.state.specs.Levels as defs

-- an entry read back at byte `n`, when the time line stands at `at`: whether it is an index entry, and where it stands; or that it was altered
abbrev pub read_of : Level → StoredEntry → ℕ → ℕ → code.Option (Bool × Slot)
read_of l e at n = pick (defs.altered l e at n) None (Some (e.inner, defs.slot_of e at n))

abbrev pub open_of : code.Option Levels → Option Levels
open_of (Some ls) = some ls
open_of None = none

-- the indexes around the innermost one
unfoldable pub around : Levels → code.Option Levels
around (levels.One a) = None
around (levels.Two a b) = Some (levels.One a)
around (levels.Three a b c) = Some (levels.Two a b)
around (levels.Four a b c d) = Some (levels.Three a b c)
