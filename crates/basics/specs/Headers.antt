-- How many bytes the header of a box has.
use Rattle.std.specs.Prelude.{ℕ}

-- a size of 32 bits and a type
abbrev pub short_header : ℕ
short_header = 8

-- the same, and a size of 64 bits
abbrev pub long_header : ℕ
long_header = 16
