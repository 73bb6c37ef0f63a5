-- The leaf table that is lent: how many records it takes, what a record holds, putting one and reading one back.
use Rattle.std.specs.Prelude.{ℕ, ◌+◌, ◌*◌, ◌/◌, List, [], ◌∷◌, ltb, length, get_or}
use Rattle.basics.specs.Choose.{pick}
use Rattle.basics.specs.Put.{put_all}
use Rattle.table.specs.declared.Record.{Record}

-- the most records that a table takes
abbrev pub most_records : ℕ
most_records = 4096

-- how many numbers a record has
abbrev pub record_numbers : ℕ
record_numbers = 6

-- "six a leaf: position, size, start, duration, SAP word, first decode time of the reference track"
abbrev pub numbers_of : Record → List ℕ
numbers_of r = r.position ∷ r.size ∷ r.start ∷ r.duration ∷ r.sap ∷ r.time ∷ []

-- record i, from 0, of a table
unfoldable pub record_at : List ℕ → ℕ → Record
record_at table i =
    let at : ℕ → ℕ = λ k. get_or table (record_numbers * i + k) 0 in
    record { position = at 0; size = at 1; start = at 2; duration = at 3; sap = at 4; time = at 5 }

-- a table with a record put in the place of record i
abbrev pub put_record : List ℕ → ℕ → Record → List ℕ
put_record table i r = put_all table (record_numbers * i) (numbers_of r)

-- "Room is length/6 rounded down, at most 4,096."
unfoldable pub room : List ℕ → ℕ
room table = pick (ltb most_records (length table / record_numbers)) most_records (length table / record_numbers)
