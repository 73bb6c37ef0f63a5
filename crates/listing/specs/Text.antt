-- The text of a listing, line by line, in ASCII and without the lines' ends.
use Rattle.std.specs.Prelude.{ℕ, zero, suc, ◌+◌, ◌-◌, ◌/◌, ◌%◌, ◌≡◌, List, [], ◌∷◌, ◌++◌, ltb, length, replicate, Result, Ok, Err}
use Rattle.basics.specs.Choose.{pick}
use Rattle.table.specs.Table.{record_numbers, numbers_of, record_at}
use Rattle.table.specs.declared.Record.{Record}
use Rattle.machine.specs.declared.Refusal.{Refusal}
use Rattle.listing.specs.declared.Line.{Line}

-- the character of a digit: `0` is 48
abbrev pub digit : ℕ → ℕ
digit d = 48 + d

-- a number in decimal, of at most so many digits: one below ten is its digit; any other is its tens in decimal, then its last digit
unfoldable pub decimal_in : ℕ → ℕ → List ℕ
decimal_in zero n = []
decimal_in (suc k) n = pick (ltb n 10) (digit n ∷ []) (decimal_in k (n / 10) ++ (digit (n % 10) ∷ []))

-- a number in decimal; 20 digits hold every number of 64 bits
abbrev pub decimal : ℕ → List ℕ
decimal n = decimal_in 20 n

-- numbers, each with a space before it
unfoldable pub spaced : List ℕ → List ℕ
spaced [] = []
spaced (n ∷ ns) = 32 ∷ (decimal n ++ spaced ns)

-- `ok`
abbrev pub ok_word : List ℕ
ok_word = 0x6f ∷ 0x6b ∷ []

-- `refused`
abbrev pub refused_word : List ℕ
refused_word = 0x72 ∷ 0x65 ∷ 0x66 ∷ 0x75 ∷ 0x73 ∷ 0x65 ∷ 0x64 ∷ []

-- `refused`, number, place
abbrev pub refused_text : Refusal → List ℕ
refused_text r = refused_word ++ spaced (r.number ∷ r.place ∷ [])

-- `ok` with the leaf count; or the refusal
abbrev pub heading_text : Result ℕ Refusal → List ℕ
heading_text (Ok leaves) = ok_word ++ spaced (leaves ∷ [])
heading_text (Err r) = refused_text r

-- leaf number and the six numbers
abbrev pub leaf_text : ℕ → Record → List ℕ
leaf_text leaf r = decimal leaf ++ spaced (numbers_of r)

-- the line of the leaf with so many before it, from its record in the table; nothing where the table holds no such record
unfoldable pub table_line : List ℕ → ℕ → List ℕ
table_line table i = pick (ltb i (length table / record_numbers)) (leaf_text (i + 1) (record_at table i)) []

-- the line that holds a text, with zeros after it
abbrev pub line_of : List ℕ → Line
line_of text = record { bytes = text ++ replicate (192 - length text) 0; length = length text }

-- a line made from another by adding a text at its end
pub record Adds (line : Line) (added : List ℕ) (r : Line) : Type 0 where
  pub longer : r.length ≡ line.length + length added
  pub holds : (text : List ℕ) → line ≡ line_of text → r ≡ line_of (text ++ added)
