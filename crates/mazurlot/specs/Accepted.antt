-- Whether numbers are those of an accepted state, whatever its ranges say: 57 numbers, the tag, and zeros behind the seven that it uses.
use Rattle.std.specs.Prelude.{ℕ, List, Bool, ◌&&◌, eqb, length, drop, replicate, get_or}
use Rattle.std.proofs.Math.Option.{Option, some, none}
use Rattle.state.specs.declared.State.{State}
use Rattle.numbered.specs.Numbers.{state_numbers}
use Rattle.numbered.specs.Unpacked.{same_numbers}

-- how many numbers an accepted state uses
abbrev pub used : ℕ
used = 7

abbrev pub zeros_behind : List ℕ → Bool
zeros_behind ns = same_numbers (drop used (replicate state_numbers 0)) (drop used ns)

unfoldable pub accepted_numbers : List ℕ → Bool
accepted_numbers ns = eqb (length ns) state_numbers && (eqb (get_or ns 0 0) 4 && zeros_behind ns)

-- the number that refuses a lookup where no accepted state was found
unfoldable pub refused_with : Option State → ℕ
refused_with none = 2
refused_with (some s) = 22
