-- How many bytes follow a command, as docs/BATCH.md has it: none where more are asked for than there can be.
use Rattle.std.specs.Prelude.{ℕ, ◌*◌, leb, cond, Option, Some, None}
use Rattle.batch.specs.declared.input.Command.{Command}
use Rattle.batch.specs.declared.input.Command.TheVariants.{Make, LendState, LendWork, LendTable, WriteWork, WriteTable}

-- of so many numbers, eight bytes each
abbrev pub bytes_of_numbers : ℕ → ℕ → Option ℕ
bytes_of_numbers n most = cond (leb n most) (Some (8 * n)) None

abbrev pub bytes_behind : Command → Option ℕ
bytes_behind (Make call bytes) = Some bytes
bytes_behind (LendState count) = bytes_of_numbers count 64
bytes_behind (LendWork count each) = Some 0
bytes_behind (LendTable count each) = Some 0
bytes_behind (WriteWork at count) = Some count
bytes_behind (WriteTable at count) = bytes_of_numbers count 32768
