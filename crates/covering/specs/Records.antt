-- The leaves of a segment as they stand in the leaf table, whether one covers a time, and the number of a refusal where none does.
use Rattle.std.specs.Prelude.{ℕ, ◌≡◌, List, [], ◌∷◌, ◌++◌, Bool, false}
use Rattle.basics.specs.Choose.{pick}
use Rattle.segment.specs.Tree.{Leaf}
use Rattle.segment.specs.Parts.{At}
use Rattle.table.specs.declared.Record.{Record}
use Rattle.table.specs.Table.{numbers_of}
use Rattle.moment.specs.Moments.{Moment, before}
use Rattle.covering.specs.Lookup.{record_covers}

-- the record of a leaf
abbrev pub record_of : Leaf → Record
record_of l = record { position = l.position; size = l.size; start = l.start; duration = l.duration; sap = l.sap; time = l.time }

-- the numbers of the leaves' records, one record after the other
unfoldable pub records_of : List Leaf → List ℕ
records_of [] = []
records_of (l ∷ ls) = numbers_of (record_of l) ++ records_of ls

-- rule 7, of a time that need not be whole: a leaf covers what its record covers
abbrev pub leaf_covers : Moment → Leaf → Bool
leaf_covers t l = record_covers (record_of l) t

-- none of the leaves covers t
abbrev pub NoLeafCovers : List Leaf → Moment → Type 0
NoLeafCovers ls t = (i : ℕ) (l : Leaf) → At ls i l → leaf_covers t l ≡ false

-- "if none does, 23 when there is a record 1 and t is below its start, else 24"
unfoldable pub outside_number : List Leaf → Moment → ℕ
outside_number [] t = 24
outside_number (l ∷ ls) t = pick (before t l.start) 23 24
