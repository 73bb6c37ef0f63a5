-- Row 2 is "never given for a state that start, feed or finish returned, save one from outside the ranges handed back unchanged": by the
-- ranges that the three calls keep, and since 2 is given outside the ranges only.
use Rattle.std.specs.Prelude.{Err}
use Prim.Native.Nat.{ℕ, ◌≤◌, ◌<◌}
use mathlib.Core.Path.{◌≡◌, ap}
use mathlib.Core.List.{List}
use mathlib.Core.Bool.{false}
use mathlib.Core.Logic.{◌≢◌, ◌⊎◌, inl, inr, ⊎_elim}
use native.Mathlib.Omega.{arith}
use lib.ListN.{length}
use Rattle.basics.specs.Bytes.{AllBytes}
use Rattle.basics.proofs.Picks.{lt_or_ge}
use Rattle.state.specs.Flow.{work_bytes}
use Rattle.machine.specs.Faults.{refusal}
use Rattle.machine.specs.declared.Refusal.{Refusal}
use Rattle.state.specs.declared.State.{State}
use Rattle.state.specs.declared.State.TheVariants as state
use Rattle.state.specs.Ranges.{in_range, InRange}
use Rattle.state.specs.Calls.{out, start_of, feed_state, feed_of, finish_state, finish_of}
use Rattle.state.proofs.RangeTests.{in_range_lem}
use Rattle.state.proofs.Ranges.{start_in_range, feed_state_kept, feed_in_range, finish_in_range, feed_outside, finish_outside}
use Rattle.state.proofs.Cuts.{tested, feed_short, feed_inside}
use Rattle.state.proofs.Kept.{After, refused_feed, numbers, refused_number, finish_inside}

-- A state that start, feed or finish returned: of any brand, from any state, with any piece of bytes and any buffers.
pub data Returned : State → Type 0 where
  by_start : (brand : ℕ) → Returned (start_of brand)
  by_feed : (given : State) (piece work table : List ℕ) → AllBytes piece → Returned (feed_of given piece work table).state
  by_finish : (given : State) → Returned (finish_of given).state

-- "one from outside the ranges handed back unchanged"
abbrev pub HandedBack : {s : State} → Returned s → Type 0
HandedBack (by_start brand) = ⊥
HandedBack (by_feed given piece work table bytes) = (in_range given ≡ false) × ((feed_of given piece work table).state ≡ given)
HandedBack (by_finish given) = (in_range given ≡ false) × ((finish_of given).state ≡ given)

-- What start, feed or finish returned is inside the ranges, or is the state from outside them that was given.
pub returned : {s : State} (r : Returned s) → InRange s ⊎ HandedBack r
returned (by_start brand) = inl (start_in_range brand)
returned (by_feed given piece work table bytes) =
    ⊎_elim (λ inside. inl (feed_in_range given piece work table bytes ((in_range_lem given).0 inside)))
    (λ outside. inr (outside, feed_outside given piece work table outside)) (tested (in_range given))
returned (by_finish given) =
    ⊎_elim (λ inside. inl (finish_in_range given ((in_range_lem given).0 inside)))
    (λ outside. inr (outside, finish_outside given outside)) (tested (in_range given))

-- Inside the ranges neither feed nor finish gives 2.
pub feed_not_two : (s : State) (piece work table : List ℕ) (x : Refusal) → AllBytes piece → InRange s → (feed_of s piece work table).answer ≡ Err x → x.number ≢ 2
feed_not_two s piece work table x bytes inside e two = at (lt_or_ge (length work) work_bytes)
  where
    kept : InRange (feed_state s piece work table).state
    kept = feed_state_kept s piece work table bytes inside

    told : After (feed_state s piece work table).state x ⊎ ((x ≡ refusal 22 0) × (feed_state s piece work table ≡ out (Err x) s work table)) → ⊥
    told (inl a) = let n = numbers a.count a.leaves x (rw a.is at kept) in omega arith
    told (inr z) = let n : x.number ≡ 22 = ap (λ (y : Refusal). y.number) z.0 in omega arith

    at : (length work < work_bytes) ⊎ (work_bytes ≤ length work) → ⊥
    at (inl short) = let n : x.number ≡ 1 = refused_number (refusal 1 0) x (rw (feed_short s piece work table short) at e) in omega arith
    at (inr long) = told (refused_feed s piece work table x (rw (feed_inside s piece work table long ((in_range_lem s).1 inside)) at e))

-- what finish answers in each phase inside the ranges
finishing_not_two : (s : State) (x : Refusal) → InRange s → (finish_state s).answer ≡ Err x → x.number ≢ 2
unfolding finish_state
finishing_not_two (state.Reading n leaves now last s) x inside e two = let other : x.number ≡ 20 = refused_number (refusal 20 n) x e in omega arith
finishing_not_two (state.Ended n leaves top) x inside e two = let z : ◌≡◌ {A = ℕ} 0 1 = cc in omega arith
finishing_not_two (state.Refused n leaves y) x inside e two = let kept = numbers n leaves y inside in let same = refused_number y x e in omega arith
finishing_not_two (state.Accepted n leaves top) x inside e two = let other : x.number ≡ 22 = refused_number (refusal 22 0) x e in omega arith

pub finish_not_two : (s : State) (x : Refusal) → InRange s → (finish_of s).answer ≡ Err x → x.number ≢ 2
finish_not_two s x inside e = finishing_not_two s x inside (rw (finish_inside s ((in_range_lem s).1 inside)) at e)

-- A call gives 2 for a state: a feed of bytes with any buffers, or finish.
pub data GivesTwo (s : State) : Type 0 where
  a_feed : (piece work table : List ℕ) (x : Refusal) → AllBytes piece → (feed_of s piece work table).answer ≡ Err x → x.number ≡ 2 → GivesTwo s
  a_finish : (x : Refusal) → (finish_of s).answer ≡ Err x → x.number ≡ 2 → GivesTwo s

pub not_inside : {s : State} → InRange s → GivesTwo s → ⊥
not_inside {s} inside (a_feed piece work table x bytes e two) = feed_not_two s piece work table x bytes inside e two
not_inside {s} inside (a_finish x e two) = finish_not_two s x inside e two

-- A state that start, feed or finish returned and for which 2 is given is one from outside the ranges that was handed back unchanged.
pub never_given : {s : State} (r : Returned s) → GivesTwo s → HandedBack r
never_given r two = ⊎_elim (λ inside. absurd (not_inside inside two)) (λ back. back) (returned r)

-- A state that comes of a start by calls one after another. For none of them 2 is given.
pub data Chain : State → Type 0 where
  chain_started : (brand : ℕ) → Chain (start_of brand)
  chain_fed : (before : State) (piece work table : List ℕ) → AllBytes piece → Chain before → Chain (feed_of before piece work table).state
  chain_finished : (before : State) → Chain before → Chain (finish_of before).state

pub chain_in_range : {s : State} → Chain s → InRange s
chain_in_range (chain_started brand) = start_in_range brand
chain_in_range (chain_fed before piece work table bytes c) = feed_in_range before piece work table bytes (chain_in_range c)
chain_in_range (chain_finished before c) = finish_in_range before (chain_in_range c)

pub chain_never_given : {s : State} → Chain s → GivesTwo s → ⊥
chain_never_given c = not_inside (chain_in_range c)
