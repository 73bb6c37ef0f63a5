-- Refusals that are kept, and calls that change nothing.
use Rattle.std.specs.Prelude.{ℕ, Result, Ok, Err}
use Prim.Native.Nat.{ℕ, ◌≤◌, ◌<◌}
use mathlib.Core.Path.{◌≡◌, refl, ap, sym}
use mathlib.Core.List.{List, [], ◌∷◌}
use mathlib.Core.Bool.{true, false}
use mathlib.Core.Logic.{◌⊎◌, inl, inr}
use native.Mathlib.Omega.{arith}
use lib.ListN.{length}
use Rattle.basics.specs.Bytes.{AllBytes}
use Rattle.basics.proofs.Picks.{lt_or_ge, pick_yes, pick_no}
use Rattle.segment.specs.Constants.{limit}
use Rattle.state.specs.Flow.{work_bytes}
use Rattle.machine.specs.Faults.{refusal}
use Rattle.machine.specs.declared.Refusal.{Refusal}
use Rattle.state.specs.declared.Stage.{Stage}
use Rattle.state.specs.declared.Top.{Top}
use Rattle.state.specs.declared.State.{State}
use Rattle.state.specs.declared.State.TheVariants as state
use Rattle.state.specs.Step.{World, reading, ended, refused, step_all}
use Rattle.state.specs.Ranges.{in_range, InRange, bounds}
use Rattle.state.specs.Calls.{Out, out, flow_of, left_of, state_of, answer_of, feed_state, feed_of, Finished, finished, finish_state, finish_of}
use Rattle.state.specs.Cutting.{held, feed_held, feed_all}
use Rattle.state.proofs.Cuts.{tested, feed_short, feed_outside, feed_inside}
use Rattle.state.proofs.RangeTests.{in_range_lem}
use Rattle.state.proofs.Ranges.{feed_in_range}

-- A state that keeps a refusal: every feed with a work area that is long enough, and every finish, gives it and changes nothing.
pub record Keeps (s : State) (x : Refusal) : Type 0 where
  pub feeding : (piece work table : List ℕ) → work_bytes ≤ length work → feed_of s piece work table ≡ out (Err x) s work table
  pub finishing : finish_of s ≡ finished (Err x) s

-- "Finish checks 2": what it gives in each case.
pub finish_outside : (s : State) → in_range s ≡ false → finish_of s ≡ finished (Err (refusal 2 0)) s
unfolding finish_of
finish_outside s e = pick_no (in_range s) _ _ e

pub finish_inside : (s : State) → in_range s ≡ true → finish_of s ≡ finish_state s
unfolding finish_of
finish_inside s e = pick_yes (in_range s) _ _ e

-- any number of feeds later it is as it was, so that the next feed and the next finish give the refusal
pub keeps_all : (parts : List (List ℕ)) (s : State) (x : Refusal) → Keeps s x → (work table : List ℕ) → work_bytes ≤ length work → feed_all (held s work table) parts ≡ held s work table
unfolding feed_all
keeps_all [] s x k work table h = refl
keeps_all (part ∷ parts) s x k work table h = rw (k.feeding part work table h) (keeps_all parts s x k work table h)

pub keeps_on : (parts : List (List ℕ)) (part : List ℕ) (s : State) (x : Refusal) → Keeps s x → (work table : List ℕ) → work_bytes ≤ length work →
    feed_held (feed_all (held s work table) parts) part ≡ out (Err x) s work table
keeps_on parts part s x k work table h = rw (keeps_all parts s x k work table h) (k.feeding part work table h)

-- a state of a kept refusal, inside its ranges, keeps that refusal
pub refused_keeps : (n leaves : ℕ) (x : Refusal) → in_range (state.Refused n leaves x) ≡ true → Keeps (state.Refused n leaves x) x
unfolding feed_state finish_state
refused_keeps n leaves x e =
    record { feeding = λ piece work table h. feed_inside (state.Refused n leaves x) piece work table h e; finishing = finish_inside (state.Refused n leaves x) e }

-- a state after an accepted finish, inside its ranges, keeps 22
pub accepted_keeps : (n leaves : ℕ) (top : Top) → in_range (state.Accepted n leaves top) ≡ true → Keeps (state.Accepted n leaves top) (refusal 22 0)
unfolding feed_state finish_state
accepted_keeps n leaves top e =
    record { feeding = λ piece work table h. feed_inside (state.Accepted n leaves top) piece work table h e; finishing = finish_inside (state.Accepted n leaves top) e }

-- a state after this refusal
pub record After (s : State) (x : Refusal) : Type 0 where
  pub count : ℕ
  pub leaves : ℕ
  pub is : s ≡ state.Refused count leaves x

-- a reading that answers a refusal has its state
refused_world : (w : World) (x : Refusal) → answer_of w ≡ Err x → After (state_of w) x
unfolding answer_of state_of
refused_world (reading n s f) x e = let z : ◌≡◌ {A = ℕ} 0 1 = cc in absurd (omega arith)
refused_world (ended n top kept) x e = let z : ◌≡◌ {A = ℕ} 0 1 = cc in absurd (omega arith)
refused_world (refused n y kept) x e = let same : y ≡ x = cc in record { count = n; leaves = kept.leaves; is = ap (state.Refused n kept.leaves) same }

-- what a refusal of a feed that looked at the state's phase leaves: the state after it, or it is 22 and nothing changed
pub refused_feed : (s : State) (piece work table : List ℕ) (x : Refusal) → (feed_state s piece work table).answer ≡ Err x →
    After (feed_state s piece work table).state x ⊎ ((x ≡ refusal 22 0) × (feed_state s piece work table ≡ out (Err x) s work table))
unfolding feed_state
refused_feed (state.Reading n leaves now last s) piece work table x e = inl (refused_world (step_all (reading n s (flow_of leaves now last work table)) piece) x e)
refused_feed (state.Ended n leaves top) piece work table x e = inl (refused_world (step_all (ended n top (left_of leaves work table)) piece) x e)
refused_feed (state.Refused n leaves y) piece work table x e = let same : y ≡ x = cc in inl (record { count = n; leaves = leaves; is = ap (state.Refused n leaves) same })
refused_feed (state.Accepted n leaves top) piece work table x e = let same : refusal 22 0 ≡ x = cc in inr (sym same, rw (← same))

-- what holds of a feed in every case: 1 and 2, which change nothing, and else what the state's phase gives
pub feed_cases : (s : State) (piece work table : List ℕ) (P : Out (Result ℕ Refusal) → Type 0) → P (out (Err (refusal 1 0)) s work table) →
    P (out (Err (refusal 2 0)) s work table) → (work_bytes ≤ length work → in_range s ≡ true → P (feed_state s piece work table)) → P (feed_of s piece work table)
feed_cases s piece work table P one two else = at (lt_or_ge (length work) work_bytes) (tested (in_range s))
  where
    at : (length work < work_bytes) ⊎ (work_bytes ≤ length work) → (in_range s ≡ true) ⊎ (in_range s ≡ false) → P (feed_of s piece work table)
    at (inl lt) t = rw (feed_short s piece work table lt) one
    at (inr ge) (inl e) = rw (feed_inside s piece work table ge e) (else ge e)
    at (inr ge) (inr e) = rw (feed_outside s piece work table ge e) two

-- the same of finish
pub finish_cases : (s : State) (P : Finished → Type 0) → P (finished (Err (refusal 2 0)) s) → (in_range s ≡ true → P (finish_state s)) → P (finish_of s)
finish_cases s P two else = at (tested (in_range s))
  where
    at : (in_range s ≡ true) ⊎ (in_range s ≡ false) → P (finish_of s)
    at (inl e) = rw (finish_inside s e) (else e)
    at (inr e) = rw (finish_outside s e) two

-- the ranges of a kept refusal's number
pub numbers : (n leaves : ℕ) (x : Refusal) → InRange (state.Refused n leaves x) → (3 ≤ x.number) × (x.number ≤ 21)
unfolding bounds
numbers n leaves x h = (h.1.1.0, h.1.1.1.0)

-- finish before the end of the material is refused with 20, at the count of bytes read; the state after it is inside its ranges
cut_in_range : (n leaves now last : ℕ) (s : Stage) → InRange (state.Reading n leaves now last s) → InRange (state.Refused n leaves (refusal 20 n))
unfolding bounds
cut_in_range n leaves now last s h = let fits : n ≤ limit = h.0 in (omega arith, (h.1.0, (omega arith, (omega arith, tt))))

-- after an accepted finish the numbers are those before it
listed_in_range : (n leaves : ℕ) (top : Top) → InRange (state.Ended n leaves top) → InRange (state.Accepted n leaves top)
unfolding bounds
listed_in_range n leaves top h = h

-- a refused answer tells the number
pub refused_number : (x y : Refusal) → ◌≡◌ {A = Result ℕ Refusal} (Err x) (Err y) → y.number ≡ x.number
refused_number x y e = let same : x ≡ y = cc in ap (λ (z : Refusal). z.number) (sym same)

-- a feed that gives one of 3 to 21 worked on a state inside its ranges, and leaves the state after that refusal
pub feed_after : (s : State) (piece work table : List ℕ) (x : Refusal) → (feed_of s piece work table).answer ≡ Err x → 3 ≤ x.number → x.number ≤ 21 →
    (in_range s ≡ true) × After (feed_of s piece work table).state x
feed_after s piece work table x e low high =
    feed_cases s piece work table (λ o. o.answer ≡ Err x → (in_range s ≡ true) × After o.state x)
    (λ p. let wrong : x.number ≡ 1 = refused_number (refusal 1 0) x p in absurd (omega arith))
    (λ p. let wrong : x.number ≡ 2 = refused_number (refusal 2 0) x p in absurd (omega arith))
    (λ ge t p. (t, at (refused_feed s piece work table x p)))
    e
  where
    at : After (feed_state s piece work table).state x ⊎ ((x ≡ refusal 22 0) × (feed_state s piece work table ≡ out (Err x) s work table)) → After (feed_state s piece work table).state x
    at (inl a) = a
    at (inr z) = let wrong : x.number ≡ 22 = ap (λ (y : Refusal). y.number) z.0 in absurd (omega arith)

-- a number of a finish that is not kept, 2 and 22, changes nothing
unchanged_inside : (s : State) (x : Refusal) → (finish_state s).answer ≡ Err x → (x.number < 3) ⊎ (21 < x.number) → finish_state s ≡ finished (Err x) s
unfolding finish_state
unchanged_inside (state.Reading n leaves now last s) x e (inl lt) = let wrong : x.number ≡ 20 = refused_number (refusal 20 n) x e in absurd (omega arith)
unchanged_inside (state.Reading n leaves now last s) x e (inr gt) = let wrong : x.number ≡ 20 = refused_number (refusal 20 n) x e in absurd (omega arith)
unchanged_inside (state.Ended n leaves top) x e other = let z : ◌≡◌ {A = ℕ} 0 1 = cc in absurd (omega arith)
unchanged_inside (state.Refused n leaves y) x e other = ap (λ a. finished a (state.Refused n leaves y)) e
unchanged_inside (state.Accepted n leaves top) x e other = ap (λ a. finished a (state.Accepted n leaves top)) e

pub finish_unchanged : (s : State) (x : Refusal) → (finish_of s).answer ≡ Err x → (x.number < 3) ⊎ (21 < x.number) → finish_of s ≡ finished (Err x) s
finish_unchanged s x e other =
    finish_cases s (λ o. o.answer ≡ Err x → o ≡ finished (Err x) s) (λ p. ap (λ a. finished a s) p) (λ t p. unchanged_inside s x p other) e

after_keeps : (s : State) (x : Refusal) → InRange s → After s x → Keeps s x
after_keeps s x h a = rw a.is (refused_keeps a.count a.leaves x ((in_range_lem (state.Refused a.count a.leaves x)).1 (rw a.is at h)))

-- "Numbers 3 to 21 are kept": a feed that gives one leaves a state that keeps it
pub feed_kept : (s : State) (piece work table : List ℕ) (x : Refusal) → AllBytes piece → (feed_of s piece work table).answer ≡ Err x →
    3 ≤ x.number → x.number ≤ 21 → Keeps (feed_of s piece work table).state x
feed_kept s piece work table x bytes e low high =
    let a : (in_range s ≡ true) × After (feed_of s piece work table).state x = feed_after s piece work table x e low high in
    after_keeps (feed_of s piece work table).state x (feed_in_range s piece work table bytes ((in_range_lem s).0 a.0)) a.1

-- a finish that gives one leaves a state that keeps it too
finish_kept_inside : (s : State) (x : Refusal) → in_range s ≡ true → (finish_state s).answer ≡ Err x → x.number ≤ 21 → Keeps (finish_state s).state x
unfolding finish_state
finish_kept_inside (state.Reading n leaves now last s) x t e high =
    let same : refusal 20 n ≡ x = cc in
    rw (← same) (refused_keeps n leaves (refusal 20 n) ((in_range_lem (state.Refused n leaves (refusal 20 n))).1
    (cut_in_range n leaves now last s ((in_range_lem (state.Reading n leaves now last s)).0 t))))
finish_kept_inside (state.Ended n leaves top) x t e high = let z : ◌≡◌ {A = ℕ} 0 1 = cc in absurd (omega arith)
finish_kept_inside (state.Refused n leaves y) x t e high = let same : y ≡ x = cc in rw (← same) (refused_keeps n leaves y t)
finish_kept_inside (state.Accepted n leaves top) x t e high = let wrong : x.number ≡ 22 = refused_number (refusal 22 0) x e in absurd (omega arith)

pub finish_kept : (s : State) (x : Refusal) → (finish_of s).answer ≡ Err x → 3 ≤ x.number → x.number ≤ 21 → Keeps (finish_of s).state x
finish_kept s x e low high =
    finish_cases s (λ o. o.answer ≡ Err x → Keeps o.state x)
    (λ p. let wrong : x.number ≡ 2 = refused_number (refusal 2 0) x p in absurd (omega arith))
    (λ t p. finish_kept_inside s x t p high)
    e

-- after an accepted finish every feed and every finish gives 22 with place 0
accepted_inside : (s : State) (k : ℕ) → in_range s ≡ true → (finish_state s).answer ≡ Ok k → Keeps (finish_state s).state (refusal 22 0)
unfolding finish_state
accepted_inside (state.Reading n leaves now last s) k t e = let z : ◌≡◌ {A = ℕ} 0 1 = cc in absurd (omega arith)
accepted_inside (state.Ended n leaves top) k t e =
    accepted_keeps n leaves top ((in_range_lem (state.Accepted n leaves top)).1 (listed_in_range n leaves top ((in_range_lem (state.Ended n leaves top)).0 t)))
accepted_inside (state.Refused n leaves y) k t e = let z : ◌≡◌ {A = ℕ} 0 1 = cc in absurd (omega arith)
accepted_inside (state.Accepted n leaves top) k t e = let z : ◌≡◌ {A = ℕ} 0 1 = cc in absurd (omega arith)

pub finish_accepted : (s : State) (k : ℕ) → (finish_of s).answer ≡ Ok k → Keeps (finish_of s).state (refusal 22 0)
finish_accepted s k e =
    finish_cases s (λ o. o.answer ≡ Ok k → Keeps o.state (refusal 22 0)) (λ p. let z : ◌≡◌ {A = ℕ} 0 1 = cc in absurd (omega arith)) (λ t p. accepted_inside s k t p) e

-- a number of a feed that is not kept, 1, 2 and 22, changes nothing
pub feed_unchanged : (s : State) (piece work table : List ℕ) (x : Refusal) → AllBytes piece → (feed_of s piece work table).answer ≡ Err x →
    (x.number < 3) ⊎ (21 < x.number) → feed_of s piece work table ≡ out (Err x) s work table
feed_unchanged s piece work table x bytes e other =
    feed_cases s piece work table (λ o. o.answer ≡ Err x → o ≡ out (Err x) s work table)
    (λ p. ap (λ a. out a s work table) p)
    (λ p. ap (λ a. out a s work table) p)
    (λ ge t p. at t (rw (feed_inside s piece work table ge t) at (feed_in_range s piece work table bytes ((in_range_lem s).0 t))) (refused_feed s piece work table x p))
    e
  where
    wrong : (3 ≤ x.number) × (x.number ≤ 21) → (x.number < 3) ⊎ (21 < x.number) → ⊥
    wrong h (inl lt) = omega arith
    wrong h (inr gt) = omega arith

    at : in_range s ≡ true → InRange (feed_state s piece work table).state →
        After (feed_state s piece work table).state x ⊎ ((x ≡ refusal 22 0) × (feed_state s piece work table ≡ out (Err x) s work table)) →
        feed_state s piece work table ≡ out (Err x) s work table
    at t h (inl a) = absurd (wrong (numbers a.count a.leaves x (rw a.is at h)) other)
    at t h (inr z) = z.1
