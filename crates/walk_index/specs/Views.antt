-- What the code's answers of an index make of a reading by structure.
use Rattle.fields.specs.declared.Halt.{Halt}
use Rattle.std.specs.Prelude.{ℕ, ◌+◌, ◌≤◌, ◌<◌, ◌≡◌, List, length, drop, Result, Ok, Err}
use Rattle.segment.specs.Constants.{limit, time_limit, most_entries}
use Rattle.machine.specs.Run.{Res, okay}
use Rattle.state.specs.declared.IndexRead.{IndexRead}
use Rattle.state.specs.Flow.{Flow, Left, left, with_work}
use Rattle.index.specs.declared.Where.{Where}
use Rattle.index.specs.declared.Where.TheVariants as places
use Rattle.index.specs.Views.{place_of}
use Rattle.descent.specs.Sidx.{sidx_d}
use Rattle.fields.specs.Onward.{from, halted}
use Rattle.walk_index.specs.Parts.{HaltIn, span_at}

-- an index that was read, or why none was
abbrev pub IndexAnswer : Type 0
IndexAnswer = Result IndexRead Halt

-- an index that ends at `end` was read, it is refused, or the bytes end
unfoldable pub index_d : ℕ → List ℕ → ℕ → Flow → IndexAnswer → Res IndexRead Flow Left
index_d base s end f (Ok x) = from left base s f (okay x) end
index_d base s end f (Err x) = halted left base s f x

-- What the reading says nothing of: an index that was read has entries, not too many, and its bytes are there; a refusal's place is that
-- of the index.
abbrev pub IndexFixed : List ℕ → ℕ → IndexAnswer → Type 0
IndexFixed s end (Ok x) = (1 ≤ x.count) × (x.count ≤ most_entries) × (end ≤ length s)
IndexFixed s end (Err x) = HaltIn end x

-- row 14 was not shown: the material of a top index that ends at the place `n` ends within the limit, and its durations before 2^64
abbrev pub SumsFit : Where → ℕ → IndexRead → Type 0
SumsFit places.Topmost n x = (n + x.offset + x.sizes ≤ limit) × (x.time + x.durations < time_limit)
SumsFit (places.Under top slot depth) n x = Unit {0}

-- The index box from `pos` to `end`, whose body starts at `at`, is read as the descent reads it where the bytes stand, and leaves the work
-- area as the descent does; the time line stands at `when`.
pub record IndexWalked (p : Where) (when base : ℕ) (s : List ℕ) (pos at end : ℕ) (work work' : List ℕ) (r : IndexAnswer) : Type 0 where
  pub right : (f : Flow) → f.now ≡ when → f.work ≡ work →
      index_d base s end (with_work f work') r ≡ sidx_d (place_of p) (span_at base pos end) f (base + at) (drop at s)
  pub long : length work' ≡ length work
  pub fixed : IndexFixed s end r
  pub sums : (x : IndexRead) → r ≡ Ok x → SumsFit p (base + end) x
