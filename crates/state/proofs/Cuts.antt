-- Cutting changes nothing: bytes fed in parts, with the buffers handed back, leave what the same bytes leave in one part.
use Rattle.std.specs.Prelude.{ℕ, Result, Err}
use Prim.Native.Nat.{ℕ, ◌≤◌, ◌<◌}
use mathlib.Core.Path.{◌≡◌, refl, ap, sym, ◌∙◌}
use mathlib.Core.List.{List, [], ◌∷◌, ◌++◌}
use mathlib.Core.Option.{some}
use mathlib.Core.Bool.{Bool, true, false}
use mathlib.Core.Logic.{◌⊎◌, inl, inr}
use native.Mathlib.Omega.{arith}
use lib.Dec.{ltb}
use lib.ListN.{length}
use borrow.Author.Tests.{lt-ltb, le-ltb}
use Rattle.basics.specs.Bytes.{AllBytes}
use Rattle.basics.proofs.Picks.{lt_or_ge, pick_yes, pick_no}
use Rattle.basics.proofs.Bytes.{bytes_first, bytes_second}
use Rattle.machine.specs.Faults.{refusal}
use Rattle.machine.specs.declared.Refusal.{Refusal}
use Rattle.state.specs.declared.State.{State}
use Rattle.state.specs.declared.State.TheVariants as state
use Rattle.state.specs.Flow.{Left, work_bytes}
use Rattle.state.specs.Step.{World, reading, ended, refused, step, step_all}
use Rattle.state.specs.Ranges.{in_range}
use Rattle.state.specs.Calls.{Out, out, flow_of, left_of, fed, state_of, work_of, table_of, answer_of, feed_state, feed_of}
use Rattle.state.specs.Named.{world_of}
use Rattle.state.specs.Cutting.{Held, held_after, feed_held, feed_all, joined}
use Rattle.state.proofs.Frames.{feed_work_length}
use Rattle.state.proofs.RangeTests.{in_range_lem}
use Rattle.state.proofs.Ranges.{feed_in_range}

-- Run.

-- bytes after bytes
pub steps_join : (w : World) (xs ys : List ℕ) → step_all w (xs ++ ys) ≡ step_all (step_all w xs) ys
unfolding step_all
steps_join w [] ys = refl
steps_join w (x ∷ xs) ys = steps_join (step w x) xs ys

-- a refusal stays
pub run_refused : (bs : List ℕ) (n : ℕ) (x : Refusal) (kept : Left) → step_all (refused n x kept) bs ≡ refused n x kept
unfolding step_all step
run_refused [] n x kept = refl
run_refused (b ∷ bs) n x kept = run_refused bs n x kept

-- A reading, and its state with its buffers.

-- a reading is what its state with its buffers reads as
pub back_world : (w : World) → world_of (state_of w) (work_of w) (table_of w) ≡ some w
unfolding world_of state_of work_of table_of
back_world (reading n s f) = refl
back_world (ended n top kept) = refl
back_world (refused n x kept) = refl

-- what a state with buffers reads as has that state and those buffers
pub back_state : (s : State) (work table : List ℕ) (w : World) → world_of s work table ≡ some w → (state_of w ≡ s) × (work_of w ≡ work) × (table_of w ≡ table)
unfolding world_of state_of work_of table_of
back_state (state.Reading n leaves now last s) work table w e =
    let same : reading n s (flow_of leaves now last work table) ≡ w = cc in rw (← same) (refl, refl, refl)
back_state (state.Ended n leaves top) work table w e =
    let same : ended n top (left_of leaves work table) ≡ w = cc in rw (← same) (refl, refl, refl)
back_state (state.Refused n leaves x) work table w e =
    let same : refused n x (left_of leaves work table) ≡ w = cc in rw (← same) (refl, refl, refl)
back_state (state.Accepted n leaves top) work table w e = let z : ◌≡◌ {A = ℕ} 0 1 = cc in absurd (omega arith)

-- feeding a reading's state, with its buffers, reads on
pub fed_again : (w : World) (piece : List ℕ) → feed_state (state_of w) piece (work_of w) (table_of w) ≡ fed (step_all w piece)
unfolding feed_state state_of work_of table_of answer_of
fed_again (reading n s f) piece = refl
fed_again (ended n top kept) piece = refl
fed_again (refused n x kept) piece = rw (run_refused piece n x kept)

-- Feed.

-- the same where 1 and 2 are not looked at
abbrev pub state_next : Out (Result ℕ Refusal) → List ℕ → Out (Result ℕ Refusal)
state_next o piece = feed_state o.state piece o.work o.table

-- the bytes of a feed, one part after the other
pub state_join : (s : State) (xs ys work table : List ℕ) → feed_state s (xs ++ ys) work table ≡ state_next (feed_state s xs work table) ys
unfolding feed_state
state_join (state.Reading n leaves now last s) xs ys work table =
    let w : World = reading n s (flow_of leaves now last work table) in ap fed (steps_join w xs ys) ∙ sym (fed_again (step_all w xs) ys)
state_join (state.Ended n leaves top) xs ys work table =
    let w : World = ended n top (left_of leaves work table) in ap fed (steps_join w xs ys) ∙ sym (fed_again (step_all w xs) ys)
state_join (state.Refused n leaves x) xs ys work table = refl
state_join (state.Accepted n leaves top) xs ys work table = refl

-- no bytes
pub state_none : (s : State) (work table : List ℕ) → ((feed_state s [] work table).state ≡ s) × ((feed_state s [] work table).work ≡ work) × ((feed_state s [] work table).table ≡ table)
unfolding feed_state step_all state_of work_of table_of
state_none (state.Reading n leaves now last s) work table = (refl, refl, refl)
state_none (state.Ended n leaves top) work table = (refl, refl, refl)
state_none (state.Refused n leaves x) work table = (refl, refl, refl)
state_none (state.Accepted n leaves top) work table = (refl, refl, refl)

-- "Feed checks 1, 2": what it gives in each case.
pub feed_short : (s : State) (piece work table : List ℕ) → length work < work_bytes → feed_of s piece work table ≡ out (Err (refusal 1 0)) s work table
unfolding feed_of
feed_short s piece work table h = pick_yes (ltb (length work) work_bytes) _ _ (lt-ltb (length work) work_bytes h)

pub feed_outside : (s : State) (piece work table : List ℕ) → work_bytes ≤ length work → in_range s ≡ false → feed_of s piece work table ≡ out (Err (refusal 2 0)) s work table
unfolding feed_of
feed_outside s piece work table h e = pick_no (ltb (length work) work_bytes) _ _ (le-ltb (length work) work_bytes h) ∙ pick_no (in_range s) _ _ e

pub feed_inside : (s : State) (piece work table : List ℕ) → work_bytes ≤ length work → in_range s ≡ true → feed_of s piece work table ≡ feed_state s piece work table
unfolding feed_of
feed_inside s piece work table h e = pick_no (ltb (length work) work_bytes) _ _ (le-ltb (length work) work_bytes h) ∙ pick_yes (in_range s) _ _ e

-- a test holds or fails
pub tested : (t : Bool) → (t ≡ true) ⊎ (t ≡ false)
tested true = inl refl
tested false = inr refl

-- "An empty part changes nothing."
pub feed_none : (s : State) (work table : List ℕ) → ((feed_of s [] work table).state ≡ s) × ((feed_of s [] work table).work ≡ work) × ((feed_of s [] work table).table ≡ table)
feed_none s work table = at (lt_or_ge (length work) work_bytes) (tested (in_range s))
  where
    at : (length work < work_bytes) ⊎ (work_bytes ≤ length work) → (in_range s ≡ true) ⊎ (in_range s ≡ false) →
        ((feed_of s [] work table).state ≡ s) × ((feed_of s [] work table).work ≡ work) × ((feed_of s [] work table).table ≡ table)
    at (inl lt) t = rw (feed_short s [] work table lt) (refl, refl, refl)
    at (inr ge) (inl e) = rw (feed_inside s [] work table ge e) (state_none s work table)
    at (inr ge) (inr e) = rw (feed_outside s [] work table ge e) (refl, refl, refl)

-- bytes fed in two parts leave what they leave in one
pub feed_join : (s : State) (xs ys work table : List ℕ) → AllBytes xs → feed_of s (xs ++ ys) work table ≡ feed_held (held_after (feed_of s xs work table)) ys
feed_join s xs ys work table bytes = at (lt_or_ge (length work) work_bytes) (tested (in_range s))
  where
    at : (length work < work_bytes) ⊎ (work_bytes ≤ length work) → (in_range s ≡ true) ⊎ (in_range s ≡ false) → feed_of s (xs ++ ys) work table ≡ feed_held (held_after (feed_of s xs work table)) ys
    at (inl lt) t = feed_short s (xs ++ ys) work table lt ∙ rw (feed_short s xs work table lt) (sym (feed_short s ys work table lt))
    at (inr ge) (inr e) = feed_outside s (xs ++ ys) work table ge e ∙ rw (feed_outside s xs work table ge e) (sym (feed_outside s ys work table ge e))
    at (inr ge) (inl e) =
        let o : Out (Result ℕ Refusal) = feed_of s xs work table in
        let long : length o.work ≡ length work = feed_work_length s xs work table in
        let kept : in_range o.state ≡ true = (in_range_lem o.state).1 (feed_in_range s xs work table bytes ((in_range_lem s).0 e)) in
        feed_inside s (xs ++ ys) work table ge e
        ∙ state_join s xs ys work table
        ∙ ap (λ p. state_next p ys) (sym (feed_inside s xs work table ge e))
        ∙ sym (feed_inside o.state ys o.work o.table (omega arith) kept)

-- However the bytes are cut, what is held after them is the same; and so is all that a feed after them gives.
pub cutting : (parts : List (List ℕ)) (h : Held) → AllBytes (joined parts) → feed_all h parts ≡ held_after (feed_held h (joined parts))
unfolding feed_all joined
cutting [] h bytes = let (s, w, t) = feed_none h.state h.work h.table in rw (s, w, t)
cutting (part ∷ parts) h bytes =
    cutting parts (held_after (feed_held h part)) (bytes_second part (joined parts) bytes)
    ∙ ap held_after (sym (feed_join h.state part (joined parts) h.work h.table (bytes_first part (joined parts) bytes)))

pub cutting_then : (parts : List (List ℕ)) (part : List ℕ) (h : Held) → AllBytes (joined parts) → feed_held (feed_all h parts) part ≡ feed_held h (joined parts ++ part)
cutting_then parts part h bytes =
    ap (λ (g : Held). feed_held g part) (cutting parts h bytes)
    ∙ sym (feed_join h.state (joined parts) part h.work h.table bytes)
