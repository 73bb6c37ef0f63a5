-- What a byte may change in the two buffers: the one place of the work area that it is stored at, and the records listed.
use Rattle.std.specs.Prelude.{ℕ, ◌*◌, ◌≤◌, ◌<◌, ◌≡◌, ◌≢◌, List, [], ◌∷◌, length, get_or}
use Rattle.std.proofs.Math.Option.{Option, some, none}
use Rattle.table.specs.Table.{record_numbers}
use Rattle.state.specs.declared.State.{State}
use Rattle.state.specs.declared.State.TheVariants as state
use Rattle.state.specs.Places.{stage_byte, stored_at}
use Rattle.state.specs.Step.{World, reading, ended, refused, step}
use Rattle.state.specs.Calls.{flow_of, left_of}

-- the place that the byte at hand is stored at, if it is an entry's
unfoldable pub entry_byte : World → Option ℕ
entry_byte (reading n s f) = stage_byte s
entry_byte (ended n top kept) = none
entry_byte (refused n x kept) = none

-- the work area with each of the bytes stored at its place, as a reading from this world on stores them
unfoldable pub stored_from : World → List ℕ → List ℕ → List ℕ
stored_from w [] work = work
stored_from w (b ∷ bs) work = stored_from (step w b) bs (stored_at work (entry_byte w) b)

-- none of these bytes is stored at the place `i`
abbrev pub Spared : World → List ℕ → ℕ → Type 0
Spared w [] i = Unit {0}
Spared w (b ∷ bs) i = (entry_byte w ≢ some i) × Spared (step w b) bs i

-- the reading that a state with the two buffers is; after an accepted finish there is none
unfoldable pub world_of : State → List ℕ → List ℕ → Option World
world_of (state.Reading n leaves now last s) work table = some (reading n s (flow_of leaves now last work table))
world_of (state.Ended n leaves top) work table = some (ended n top (left_of leaves work table))
world_of (state.Refused n leaves x) work table = some (refused n x (left_of leaves work table))
world_of (state.Accepted n leaves top) work table = none

-- the leaves listed
unfoldable pub leaves_of : World → ℕ
leaves_of (reading n s f) = f.leaves
leaves_of (ended n top kept) = kept.leaves
leaves_of (refused n x kept) = kept.leaves

unfoldable pub leaves_held : State → ℕ
leaves_held (state.Reading count leaves now last s) = leaves
leaves_held (state.Ended count leaves top) = leaves
leaves_held (state.Refused count leaves x) = leaves
leaves_held (state.Accepted count leaves top) = leaves

-- A leaf table before and after, with so many leaves listed before and after: it is as long, no leaf is taken off the list, and the
-- records listed before stay, and so do those past the ones listed after.
pub record Grown (leaves : ℕ) (table : List ℕ) (leaves' : ℕ) (table' : List ℕ) : Type 0 where
  pub more : leaves ≤ leaves'
  pub long : length table' ≡ length table
  pub before : (j : ℕ) → j < record_numbers * leaves → get_or table' j 0 ≡ get_or table j 0
  pub past : (j : ℕ) → record_numbers * leaves' ≤ j → get_or table' j 0 ≡ get_or table j 0
