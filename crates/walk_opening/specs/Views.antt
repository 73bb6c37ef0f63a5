-- What the code's answers of the boxes up to the top index, and of the gap, make of a reading by structure.
use Rattle.fields.specs.declared.Halt.{Halt}
use Rattle.std.specs.Prelude.{ℕ, suc, ◌+◌, ◌-◌, ◌≤◌, ◌≡◌, List, Bool, length, drop, Result, Ok, Err}
use Rattle.segment.specs.Constants.{most_entries}
use Rattle.machine.specs.Run.{Res, okay}
use Rattle.machine.specs.Lists.{boxes_d}
use Rattle.state.specs.declared.IndexRead.{IndexRead}
use Rattle.state.specs.Flow.{Flow, Left, left, with_work}
use Rattle.state.specs.Opening.{opening}
use Rattle.descent.specs.Opening.{opening_body_d}
use Rattle.descent.specs.Whole.{gap_d}
use Rattle.fields.specs.Onward.{from, halted}
use Rattle.index.specs.declared.Where.TheVariants as places
use Rattle.walk_index.specs.Views.{SumsFit}
use Rattle.fields.specs.declared.Halt.TheVariants as halt

-- the top index and the position where it ends, or why none was read
abbrev pub OpeningAnswer : Type 0
OpeningAnswer = Result (IndexRead × ℕ) Halt

-- the gap, a `styp` or a skipped box, come to its end, or why not
abbrev pub Crossed : Type 0
Crossed = Result (Unit {0}) Halt

-- the top index was read, and ends at a position; a refusal; or the bytes end
unfoldable pub opened_d : ℕ → List ℕ → Flow → OpeningAnswer → Res IndexRead Flow Left
opened_d base s f (Ok (x, end)) = from left base s f (okay x) end
opened_d base s f (Err x) = halted left base s f x

-- a refusal tells no leaves
abbrev pub NoLeaves : Halt → Type 0
NoLeaves (halt.Bad x) = x.leaves ≡ 0
NoLeaves halt.Ended = Unit {0}

-- What the reading says nothing of: the top index has entries, not too many, and its bytes are there.
abbrev pub OpeningFixed : List ℕ → OpeningAnswer → Type 0
OpeningFixed s (Ok (x, end)) = (1 ≤ x.count) × (x.count ≤ most_entries) × (end ≤ length s)
OpeningFixed s (Err x) = NoLeaves x

-- The boxes up to the top index, from the first byte lent on, are read as the descent reads them where the bytes stand; `branded` says
-- that the `styp` stands before them. From the segment's first byte on this is `opening_d`. Of a top index that was read row 14 is not shown.
pub record OpeningWalked (brand : ℕ) (branded : Bool) (base : ℕ) (s work work' : List ℕ) (r : OpeningAnswer) : Type 0 where
  pub right : (f : Flow) → f.now ≡ 0 → f.work ≡ work →
      opened_d base s (with_work f work') r ≡ boxes_d (opening brand) (λ b. opening_body_d brand) (suc (length s)) branded f base s
  pub long : length work' ≡ length work
  pub fixed : OpeningFixed s r
  pub sums : (x : IndexRead) (end : ℕ) → r ≡ Ok (x, end) → SumsFit places.Topmost (base + end) x

-- the gap is crossed up to its end, it is refused, or the bytes end
unfoldable pub crossed_d : ℕ → List ℕ → ℕ → Flow → Crossed → Res (Unit {0}) Flow Left
crossed_d base s end f (Ok u) = from left base s f (okay tt) end
crossed_d base s end f (Err x) = halted left base s f x

abbrev pub GapFixed : List ℕ → ℕ → Crossed → Type 0
GapFixed s end (Ok u) = end ≤ length s
GapFixed s end (Err x) = NoLeaves x

-- The gap from `at` to `end` is read as the descent reads it, wherever the bytes stand in the segment.
pub record GapWalked (s : List ℕ) (at end : ℕ) (r : Crossed) : Type 0 where
  pub right : (base : ℕ) (f : Flow) → crossed_d base s end f r ≡ gap_d (end - at) f (base + at) (drop at s)
  pub fixed : GapFixed s end r
