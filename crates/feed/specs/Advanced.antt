-- What it is to have gone on in a piece.
use Rattle.std.specs.Prelude.{ℕ, ◌≤◌, ◌<◌, ◌≡◌, List, length, drop}
use Rattle.state.specs.Ranges.{InRange}
use Rattle.state.specs.Calls.{feed_state}
use Rattle.state.specs.declared.State.{State}

-- some bytes of a piece are taken: from there on the piece reads as it did
pub record Advanced (piece : List ℕ) (s : State) (i : ℕ) (work table : List ℕ) (s' : State) (i' : ℕ) (work' table' : List ℕ) : Type 0 where
  pub later : i < i'
  pub within : i' ≤ length piece
  pub inside : InRange s'
  pub same : feed_state s' (drop i' piece) work' table' ≡ feed_state s (drop i piece) work table
