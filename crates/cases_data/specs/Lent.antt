-- What every reading of a segment begins with, but for a script's: the brand wanted, and the buffers that are lent.
use Rattle.std.specs.Prelude.{ℕ, List, [], ◌∷◌, replicate}
use Rattle.basics.specs.Bytes.{number}

-- the four letters `msdh`, as a number
abbrev pub msdh : ℕ
msdh = number (109 ∷ 115 ∷ 100 ∷ 104 ∷ [])

-- the buffers before a reading: each byte is 165, and each number that of eight such bytes
abbrev pub lent_work : List ℕ
lent_work = replicate 49152 165

abbrev pub lent_table : List ℕ
lent_table = replicate 1536 11936128518282651045
