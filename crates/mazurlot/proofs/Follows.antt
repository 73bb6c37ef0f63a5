-- The library's calls one after the other are the calls inside: what start, feed, finish and the whole reader leave in the state slice reads as
-- the state that the call inside leaves, and the next call goes on from it.
use Rattle.std.specs.Prelude.{ℕ, Result, Ok, Err}
use Prim.Native.Nat.{ℕ, ◌≤◌}
use mathlib.Core.Path.{◌≡◌}
use mathlib.Core.List.{List}
use mathlib.Core.Option.{some}
use lib.ListN.{length}
use borrow.Author.Tests.{le-ltb, eq-eqb}
use Rattle.basics.specs.Bytes.{AllBytes}
use Rattle.basics.specs.Choose.{pick}
use Rattle.machine.specs.declared.Refusal.{Refusal}
use Rattle.state.specs.declared.State.{State}
use Rattle.state.specs.Ranges.{InRange}
use Rattle.state.specs.Calls.{start_of, feed_of, finish_of, finish_after, whole_of}
use Rattle.state.proofs.RangeTests.{in_range_lem}
use Rattle.state.proofs.Ranges.{start_in_range, feed_in_range, finish_in_range}
use Rattle.numbered.specs.Numbers.{state_numbers, numbers_of}
use Rattle.numbered.specs.Unpacked.{unpack_of}
use Rattle.numbered.proofs.Unpacks.{unpack_packed, unpacked_is}
use Rattle.mazurlot.specs.Answers.{one_value}
use Rattle.mazurlot.specs.Calls.{start_call, fed_from, feed_call, finished_from, finish_call, whole_call}

-- a state inside the ranges is read back from its numbers
back : (s : State) → InRange s → unpack_of (numbers_of s) ≡ some s
back s inside = unpack_packed s ((in_range_lem s).1 inside)

pub start_follows : (brand : ℕ) (ns : List ℕ) → length ns ≡ state_numbers → unpack_of (start_call brand ns).state ≡ some (start_of brand)
unfolding start_call pick
start_follows brand ns long = rw (eq-eqb (length ns) state_numbers long) (back (start_of brand) (start_in_range brand))

module _ (ns slot : List ℕ) (s : State) (is : unpack_of ns ≡ some s) (room : one_value ≤ length slot) where
  inside : InRange s
  inside = (in_range_lem s).0 (unpacked_is ns s is).1

  pub feed_follows : (piece work table : List ℕ) → AllBytes piece →
      unpack_of (feed_call piece ns work table slot).state ≡ some (feed_of s piece work table).state
  unfolding feed_call fed_from pick
  feed_follows piece work table bytes =
      rw (le-ltb (length slot) one_value room, is) (back (feed_of s piece work table).state (feed_in_range s piece work table bytes inside))

  pub finish_follows : unpack_of (finish_call ns slot).state ≡ some (finish_of s).state
  unfolding finish_call finished_from pick
  finish_follows = rw (le-ltb (length slot) one_value room, is) (back (finish_of s).state (finish_in_range s inside))

-- the state after a whole reading: that of its feed, or of finish after it
whole_inside : (brand : ℕ) (segment work table : List ℕ) → AllBytes segment → (a : Result ℕ Refusal) → InRange (finish_after (feed_of (start_of brand) segment work table) a).state
unfolding finish_after
whole_inside brand segment work table bytes (Ok n) =
    finish_in_range (feed_of (start_of brand) segment work table).state (feed_in_range (start_of brand) segment work table bytes (start_in_range brand))
whole_inside brand segment work table bytes (Err x) = feed_in_range (start_of brand) segment work table bytes (start_in_range brand)

pub whole_follows : (brand : ℕ) (segment ns work table slot : List ℕ) → AllBytes segment → length ns ≡ state_numbers → one_value ≤ length slot →
    unpack_of (whole_call brand segment ns work table slot).state ≡ some (whole_of brand segment work table).state
unfolding whole_call pick
whole_follows brand segment ns work table slot bytes long room =
    rw (le-ltb (length slot) one_value room, eq-eqb (length ns) state_numbers long)
    (back (whole_of brand segment work table).state (whole_inside brand segment work table bytes (feed_of (start_of brand) segment work table).answer))
