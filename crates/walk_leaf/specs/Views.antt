-- What the answers of a leaf make of a reading by structure.
use Rattle.std.specs.Prelude.{ℕ, ◌+◌, ◌≤◌, ◌≡◌, List, Bool, true, length, drop, Result, Ok, Err}
use Rattle.machine.specs.Run.{Res, okay}
use Rattle.state.specs.declared.Seen.{Seen}
use Rattle.state.specs.declared.Slot.{Slot}
use Rattle.state.specs.Flow.{Flow, Left, left}
use Rattle.state.specs.Rows.{no_room}
use Rattle.descent.specs.Leaf.{leaf_d}
use Rattle.fields.specs.declared.Halt.{Halt}
use Rattle.fields.specs.declared.Halt.TheVariants as halt
use Rattle.fields.specs.Onward.{halted, from}

-- a list or a box that ends at `end` is over, with what is then known; it is refused; or the bytes end
unfoldable pub walked_d : {R : Type 0} → ℕ → List ℕ → ℕ → Flow → Result R Halt → Res R Flow Left
walked_d base s end f (Ok k) = from left base s f (okay k) end
walked_d base s end f (Err x) = halted left base s f x

-- a refusal's place and its byte are those of a leaf up to `end`, and it tells no leaves
abbrev pub LeafHalt : ℕ → Halt → Type 0
LeafHalt end (halt.Bad x) = (x.leaves ≡ 0) × (x.place ≤ end) × (x.count ≤ end)
LeafHalt end halt.Ended = Unit {0}

-- What the reading says nothing of: of a leaf that was read, that a decode time was met, and that its bytes are there; and of a refusal.
abbrev pub LeafFixed : List ℕ → ℕ → Result Seen Halt → Type 0
LeafFixed s end (Ok seen) = (seen.any ≡ true) × (end ≤ length s)
LeafFixed s end (Err x) = LeafHalt end x

-- The leaf from `at` to `end` is read as the descent reads it, wherever the bytes stand in the segment; `full` says that the table has no
-- room for it, and `last` is the last decode time before it.
pub record LeafWalked (s : List ℕ) (full : Bool) (id at end last : ℕ) (r : Result Seen Halt) : Type 0 where
  pub right : (base : ℕ) (slot : Slot) (f : Flow) → slot.pos ≡ base + at → slot.end ≡ base + end → f.last ≡ last → no_room f.leaves f.table ≡ full →
      walked_d base s end f r ≡ leaf_d id slot f (base + at) (drop at s)
  pub fixed : LeafFixed s end r
