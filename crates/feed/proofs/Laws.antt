-- A piece fed by the bytes that pass at once, or by those of a number and one byte; and the checks before.
use Rattle.std.specs.Prelude.{ℕ, Result, Err}
use Prim.Native.Nat.{ℕ, suc, ◌+◌, ◌-◌, ◌≤◌, ◌<◌}
use mathlib.Core.Path.{◌≡◌, refl, ap, sym, subst, ◌∙◌}
use mathlib.Core.List.{List, [], ◌∷◌}
use mathlib.Core.Bool.{true, false}
use native.Mathlib.Omega.{arith}
use native.Mathlib.Numerals.{add-one}
use lib.ListN.{length, get_or, drop, drop_of_length-le}
use lib.Seq.{drop-cons}
use Rattle.state.specs.Flow.{work_bytes}
use Rattle.machine.specs.declared.Refusal.{Refusal}
use Rattle.machine.specs.Faults.{refusal}
use Rattle.state.specs.declared.State.{State}
use Rattle.state.specs.declared.State.TheVariants as state
use Rattle.state.specs.Step.{step_all}
use Rattle.state.specs.Calls.{Out, out, flow_of, state_of, work_of, table_of, answer_of, fed, feed_state, feed_of}
use Rattle.state.specs.Ranges.{bounds, in_range, InRange}
use Rattle.state.proofs.Jump.{passing_there, passing_limit, steps_passing}
use Rattle.state.proofs.Cuts.{state_next, state_join, feed_short, feed_outside, feed_inside}
use Rattle.byte.specs.Answers.{answered}
use Rattle.byte.proofs.Laws.{left_with}
use Rattle.spelling.specs.Together.{Taken, taken, spelled_on}
use Rattle.spelling.proofs.Laws.{spelled_later, spelled_fed}
use Rattle.jump.specs.Passes.{passes, passed_on, Fitting}
use Rattle.feed.specs.Advanced.{Advanced}

-- one byte of a piece is taken
one_taken : (piece : List ℕ) (s : State) (i : ℕ) (work table : List ℕ) (s' : State) (work' table' : List ℕ) → i < length piece → InRange s' →
    left_with s' work' table' ≡ feed_state s (get_or piece i 0 ∷ []) work table → Advanced piece s i work table s' (i + 1) work' table'
one_taken piece s i work table s' work' table' h r e =
    record {
      later = omega arith;
      within = omega arith;
      inside = r;
      same =
          rw (add-one i, drop-cons piece i 0 h) (ap (λ (o : Out (Result ℕ Refusal)). state_next o (drop (suc i) piece)) e ∙ sym (state_join s (get_or piece i 0 ∷ []) (drop (suc i) piece) work table));
    }

-- The bytes of a number that are taken together, which leave `on` at the place `at` of the piece.
module _ (piece : List ℕ) (s : State) (i : ℕ) (work : List ℕ) (on : State) (at : ℕ) (work₁ : List ℕ) (h : i < length piece) (e : taken on at work₁ ≡ spelled_on s piece i work) where
  pub spelled_there : (i ≤ at) × (at < length piece)
  spelled_there = subst (λ (t : Taken). (i ≤ t.at) × (t.at < length piece)) (sym e) (spelled_later s piece i work h)

  -- and one byte
  pub number_and_byte : (table : List ℕ) (s' : State) (work' table' : List ℕ) → InRange s → InRange s' →
      left_with s' work' table' ≡ feed_state on (get_or piece at 0 ∷ []) work₁ table → Advanced piece s i work table s' (at + 1) work' table'
  number_and_byte table s' work' table' r r' e' =
      let o : Advanced piece on at work₁ table s' (at + 1) work' table' = one_taken piece on at work₁ table s' work' table' spelled_there.1 r' e' in
      record {
        later = omega (arith, spelled_there.0);
        within = o.within;
        inside = r';
        same =
            o.same
            ∙ subst (λ (t : Taken). feed_state t.state (drop t.at piece) t.work table ≡ feed_state s (drop i piece) work table) (sym e) (spelled_fed s piece i work table r h);
      }

-- the bytes that pass at once are there; the count stays in its range; the piece reads on as it did
passes_there : (s : State) (rest : ℕ) → passes s rest ≤ rest
unfolding passes
passes_there (state.Reading n leaves now last s) rest = passing_there s n rest
passes_there (state.Ended n leaves top) rest = omega arith
passes_there (state.Refused n leaves x) rest = omega arith
passes_there (state.Accepted n leaves top) rest = omega arith

passes_fit : (s : State) (rest : ℕ) → InRange s → Fitting s (passes s rest)
unfolding passes Fitting bounds
passes_fit (state.Reading n leaves now last s) rest r = passing_limit s n rest r.0
passes_fit (state.Ended n leaves top) rest r = tt
passes_fit (state.Refused n leaves x) rest r = tt
passes_fit (state.Accepted n leaves top) rest r = tt

passes_inside : (s : State) (k : ℕ) → InRange s → Fitting s k → InRange (passed_on s k)
unfolding passed_on Fitting bounds
passes_inside (state.Reading n leaves now last s) k r h = (h, r.1)
passes_inside (state.Ended n leaves top) k r h = r
passes_inside (state.Refused n leaves x) k r h = r
passes_inside (state.Accepted n leaves top) k r h = r

passes_fed : (piece : List ℕ) (s : State) (i : ℕ) (work table : List ℕ) → InRange s → i ≤ length piece →
    feed_state (passed_on s (passes s (length piece - i))) (drop (i + passes s (length piece - i)) piece) work table ≡ feed_state s (drop i piece) work table
unfolding passes passed_on feed_state bounds
passes_fed piece (state.Reading n leaves now last s) i work table r h =
    ap fed (sym (steps_passing piece i n s (flow_of leaves now last work table) r.0 h))
passes_fed piece (state.Ended n leaves top) i work table r h = let e : i + 0 ≡ i = omega arith in rw e refl
passes_fed piece (state.Refused n leaves x) i work table r h = refl
passes_fed piece (state.Accepted n leaves top) i work table r h = refl

-- they are taken at once
pub passed_fits : (piece : List ℕ) (s : State) (i k : ℕ) → InRange s → k ≡ passes s (length piece - i) → Fitting s k
passed_fits piece s i k r e = rw e (passes_fit s (length piece - i) r)

pub passed_taken : (piece : List ℕ) (s : State) (i : ℕ) (work table : List ℕ) (k : ℕ) (s' : State) → i < length piece → InRange s → 0 < k →
    k ≡ passes s (length piece - i) → s' ≡ passed_on s k → Advanced piece s i work table s' (i + k) work table
passed_taken piece s i work table k s' h r some e same =
    record {
      later = omega (arith, some);
      within = omega (arith, h, e, passes_there s (length piece - i));
      inside = rw same (passes_inside s k r (passed_fits piece s i k r e));
      same = rw (same, e) (passes_fed piece s i work table r (omega arith));
    }

-- no bytes leave the state
fed_none : (s : State) (work table : List ℕ) → feed_state s [] work table ≡ left_with s work table
unfolding feed_state step_all answered state_of work_of table_of answer_of
fed_none (state.Reading n leaves now last s) work table = refl
fed_none (state.Ended n leaves top) work table = refl
fed_none (state.Refused n leaves x) work table = refl
fed_none (state.Accepted n leaves top) work table = refl

-- at the end of the piece the state is left
pub fed_end : (piece : List ℕ) (s : State) (i : ℕ) (work table : List ℕ) → length piece ≤ i → feed_state s (drop i piece) work table ≡ left_with s work table
fed_end piece s i work table h = ap (λ (xs : List ℕ). feed_state s xs work table) (drop_of_length-le piece {i = i} h) ∙ fed_none s work table

pub passed_most : (piece : List ℕ) (s : State) (i k : ℕ) → k ≡ passes s (length piece - i) → k ≤ length piece - i
passed_most piece s i k e = rw e (passes_there s (length piece - i))

-- "Feed checks 1, 2": what it gives in each case
module _ (s : State) (piece work table : List ℕ) where
  pub feeds_short : (a : Result ℕ Refusal) (s' : State) → length work < work_bytes → (a ≡ Err (refusal 1 0)) × (s' ≡ s) → out a s' work table ≡ feed_of s piece work table
  feeds_short a s' h e = rw (e.0, e.1) (sym (feed_short s piece work table h))

  pub feeds_outside : (a : Result ℕ Refusal) (s' : State) → work_bytes ≤ length work → in_range s ≡ false → (a ≡ Err (refusal 2 0)) × (s' ≡ s) → out a s' work table ≡ feed_of s piece work table
  feeds_outside a s' h o e = rw (e.0, e.1) (sym (feed_outside s piece work table h o))

  pub feeds_inside : (a : Result ℕ Refusal) (next : State) (work' table' : List ℕ) → work_bytes ≤ length work → in_range s ≡ true → a ≡ answered next →
      left_with next work' table' ≡ feed_state s piece work table → out a next work' table' ≡ feed_of s piece work table
  feeds_inside a next work' table' h o e same = rw e same ∙ sym (feed_inside s piece work table h o)
