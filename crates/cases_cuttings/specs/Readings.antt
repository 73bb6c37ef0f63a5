-- A segment read in pieces, by the definitions of start, feed and finish; and when that is alike to an end.
use Rattle.std.specs.Prelude.{◌≡◌, ℕ, zero, suc, ◌+◌, min, Bool, true, ◌↔◌, List, length}
use Rattle.state.specs.Calls.{start_of, finish_of}
use Rattle.state.specs.Cutting.{Held, held, held_after, feed_held}
use Rattle.cases_data.specs.Lent.{msdh}
use Rattle.cases_data.specs.Parts.{bytes_from, SameLevels, SameNumbers}
use Rattle.cases_trial.specs.Ends.{end_of, answer_at}
use Rattle.cases_trial.specs.declared.alike.End.{End}
use Rattle.cases_cuttings.specs.declared.Cutting.{Cutting}
use Rattle.cases_cuttings.specs.declared.Reading.{Reading}

-- so many pieces of a segment fed, the first from one place to another and each next one so long, or up to the segment's end
unfoldable pub fed_pieces : ℕ → List ℕ → ℕ → ℕ → ℕ → Held → Held
fed_pieces zero segment long from to h = h
fed_pieces (suc k) segment long from to h = fed_pieces k segment long to (min (to + long) (length segment)) (held_after (feed_held h (bytes_from segment from to)))

-- each of these feeds answers what it has to on the way to an end
unfoldable pub Answer : End → ℕ → List ℕ → ℕ → ℕ → ℕ → Held → Type 0
Answer end zero segment long from to h = Unit {0}
Answer end (suc k) segment long from to h =
    ((feed_held h (bytes_from segment from to)).answer ≡ answer_at to end)
    × Answer end k segment long to (min (to + long) (length segment)) (held_after (feed_held h (bytes_from segment from to)))

-- before the first byte, the brand `msdh` wanted
abbrev pub begun : List ℕ → List ℕ → Held
begun work table = held (start_of msdh) work table

-- a segment cut so and fed; and what finish answers and leaves then
abbrev pub cut_fed : List ℕ → Cutting → List ℕ → List ℕ → Held
cut_fed segment cut work table = fed_pieces cut.pieces segment cut.other 0 cut.first (begun work table)

abbrev pub end_in : Held → End
end_in h = end_of (finish_of h.state).answer (finish_of h.state).state

-- a reading of a segment cut so answers on the way as it has to where its end is the wanted one
abbrev pub CutAnswer : End → List ℕ → Cutting → List ℕ → List ℕ → Type 0
CutAnswer end segment cut work table = Answer end cut.pieces segment cut.other 0 cut.first (begun work table)

-- what a reading in pieces gives, and leaves in the buffers
pub record ReadIn (segment : List ℕ) (cut : Cutting) (want : End) (work table : List ℕ) (r : Reading) (work' table' : List ℕ) : Type 0 where
  pub ends : r.end ≡ end_in (cut_fed segment cut work table)
  pub answers : (r.answered ≡ true) ↔ CutAnswer want segment cut work table
  pub works : work' ≡ (cut_fed segment cut work table).work
  pub tables : table' ≡ (cut_fed segment cut work table).table

-- a segment in one piece
abbrev pub uncut : List ℕ → Cutting
uncut segment = record { pieces = 1; first = length segment; other = length segment }

-- the end of a reading of the whole, and what it leaves in the buffers
pub record ReadWhole (segment work table : List ℕ) (r : End) (work' table' : List ℕ) : Type 0 where
  pub ends : r ≡ end_in (cut_fed segment (uncut segment) work table)
  pub works : work' ≡ (cut_fed segment (uncut segment) work table).work
  pub tables : table' ≡ (cut_fed segment (uncut segment) work table).table

-- a reading in pieces answers and ends as the one whose end is given
abbrev pub Alike : End → List ℕ → Cutting → List ℕ → List ℕ → Type 0
Alike end segment cut work table = CutAnswer end segment cut work table × (end_in (cut_fed segment cut work table) ≡ end)

-- whether it does, and what it leaves in the buffers
pub record ReadsAlike (segment : List ℕ) (cut : Cutting) (end : End) (work table : List ℕ) (r : Bool) (work' table' : List ℕ) : Type 0 where
  pub alike : (r ≡ true) ↔ Alike end segment cut work table
  pub works : work' ≡ (cut_fed segment cut work table).work
  pub tables : table' ≡ (cut_fed segment cut work table).table

-- a segment cut in two at a place
abbrev pub cut_at : List ℕ → ℕ → Cutting
cut_at segment at = record { pieces = 2; first = at; other = length segment }

-- read so with buffers of its own, it is alike to a reading that ends so and leaves this work area and this table, as far as it is long
abbrev pub CutAlike : List ℕ → ℕ → End → List ℕ → List ℕ → List ℕ → List ℕ → Type 0
CutAlike segment at end work table own-work own-table =
    let r = cut_fed segment (cut_at segment at) own-work own-table in
    (Alike end segment (cut_at segment at) own-work own-table × SameLevels r.work work (length segment))
    × SameNumbers r.table table (length segment)

-- a segment cut in pieces of one length
abbrev pub in_pieces : List ℕ → ℕ → Cutting
in_pieces segment long = record { pieces = length segment; first = min long (length segment); other = long }

-- read so with buffers of its own, it is alike to a reading that ends so and leaves this work area and this table
abbrev pub PiecesAlike : List ℕ → ℕ → End → List ℕ → List ℕ → List ℕ → List ℕ → Type 0
PiecesAlike segment long end work table own-work own-table =
    let r = cut_fed segment (in_pieces segment long) own-work own-table in
    (Alike end segment (in_pieces segment long) own-work own-table × (r.work ≡ work)) × SameNumbers r.table table 1536
