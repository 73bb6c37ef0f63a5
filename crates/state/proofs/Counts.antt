-- "An unrefused feed answers the count of all bytes read": the count before it and the length of the piece, by a count that each byte
-- raises by one; and so, from a fresh start, the length of all that was fed.
use Rattle.std.specs.Prelude.{ℕ, Result, Ok}
use Prim.Native.Nat.{ℕ, suc, ◌+◌}
use mathlib.Core.Path.{◌≡◌, refl, ap, sym, ◌∙◌}
use mathlib.Core.List.{List, [], ◌∷◌, ◌++◌}
use native.Mathlib.Omega.{arith}
use lib.ListN.{length, length-append}
use Rattle.basics.specs.Bytes.{AllBytes}
use Rattle.machine.specs.Faults.{lowest, unless}
use Rattle.machine.specs.Run.{Sub, go, done, bad}
use Rattle.machine.specs.declared.Refusal.{Refusal}
use Rattle.state.specs.declared.Stage.{Stage}
use Rattle.state.specs.declared.Top.{Top}
use Rattle.state.specs.declared.State.{State}
use Rattle.state.specs.declared.State.TheVariants as state
use Rattle.state.specs.Flow.{Flow, Left}
use Rattle.state.specs.Stages.{step_stage}
use Rattle.state.specs.Step.{World, reading, ended, refused, settle, past_limit, step, step_all}
use Rattle.state.specs.Calls.{Out, flow_of, left_of, state_of, answer_of, count_of, start_of, feed_state, feed_of}
use Rattle.state.specs.Cutting.{held, feed_held, feed_all, joined}
use Rattle.state.proofs.Cuts.{run_refused, cutting_then}
use Rattle.state.proofs.Kept.{feed_cases}

-- how many bytes a reading has read
abbrev count : World → ℕ
count w = count_of (state_of w)

settle_count : (n : ℕ) (r : Sub Stage Top Flow Left) → count (settle n r) ≡ n
unfolding settle count_of state_of
settle_count n (go s f) = refl
settle_count n (done top f) = refl
settle_count n (bad x kept) = refl

unless_count : (xs : List Refusal) (worse : Refusal → World) (w : World) (n : ℕ) → ((x : Refusal) → count (worse x) ≡ n) → count w ≡ n → count (unless xs worse w) ≡ n
unfolding unless
unless_count [] worse w n a b = b
unless_count (y ∷ ys) worse w n a b = a (lowest y ys)

-- the count of an answer that is no refusal
answer_count : (w : World) (n : ℕ) → answer_of w ≡ Ok n → count w ≡ n
unfolding answer_of count_of state_of
answer_count (reading m s f) n e = cc
answer_count (ended m top kept) n e = cc
answer_count (refused m x kept) n e = let z : ◌≡◌ {A = ℕ} 0 1 = cc in absurd (omega arith)

-- bytes that are read raise the count, each by one
read_count : (w : World) (bs : List ℕ) (n : ℕ) → answer_of (step_all w bs) ≡ Ok n → n ≡ count w + length bs
unfolding step_all step count_of state_of answer_of
read_count w [] n e = let c : count w ≡ n = answer_count w n e in omega arith
read_count (reading m s f) (b ∷ bs) n e =
    let c : count (step (reading m s f) b) ≡ suc m = unless_count (past_limit m) _ _ (suc m) (λ x. refl) (settle_count (suc m) (step_stage s f m b)) in
    let r : n ≡ count (step (reading m s f) b) + length bs = read_count (step (reading m s f) b) bs n e in
    omega arith
read_count (ended m top kept) (b ∷ bs) n e = let r = read_count (step (ended m top kept) b) bs n e in omega arith
read_count (refused m x kept) (b ∷ bs) n e = let z : ◌≡◌ {A = ℕ} 0 1 = cc (run_refused bs m x kept) in absurd (omega arith)

-- what an unrefused feed answers, and the count that it leaves
pub record Counted (s : State) (piece : List ℕ) (after : State) (n : ℕ) : Type 0 where
  pub answers : n ≡ count_of s + length piece
  pub counts : count_of after ≡ n

state_counts : (s : State) (piece work table : List ℕ) (n : ℕ) → (feed_state s piece work table).answer ≡ Ok n → Counted s piece (feed_state s piece work table).state n
unfolding feed_state count_of state_of
state_counts (state.Reading m leaves now last s) piece work table n e =
    let w : World = reading m s (flow_of leaves now last work table) in
    record { answers = read_count w piece n e; counts = answer_count (step_all w piece) n e }
state_counts (state.Ended m leaves top) piece work table n e =
    let w : World = ended m top (left_of leaves work table) in
    record { answers = read_count w piece n e; counts = answer_count (step_all w piece) n e }
state_counts (state.Refused m leaves x) piece work table n e = let z : ◌≡◌ {A = ℕ} 0 1 = cc in absurd (omega arith)
state_counts (state.Accepted m leaves top) piece work table n e = let z : ◌≡◌ {A = ℕ} 0 1 = cc in absurd (omega arith)

-- Of any feed.
pub feed_counts : (s : State) (piece work table : List ℕ) (n : ℕ) → (feed_of s piece work table).answer ≡ Ok n → Counted s piece (feed_of s piece work table).state n
feed_counts s piece work table n e =
    feed_cases s piece work table (λ o. o.answer ≡ Ok n → Counted s piece o.state n)
    (λ p. let z : ◌≡◌ {A = ℕ} 0 1 = cc in absurd (omega arith))
    (λ p. let z : ◌≡◌ {A = ℕ} 0 1 = cc in absurd (omega arith))
    (λ ge t p. state_counts s piece work table n p)
    e

-- From a fresh start: the length of all that was fed, the last part with those before it.
pub parts_count : (brand : ℕ) (parts : List (List ℕ)) (part work table : List ℕ) (n : ℕ) → AllBytes (joined parts) →
    (feed_held (feed_all (held (start_of brand) work table) parts) part).answer ≡ Ok n → n ≡ length (joined parts) + length part
unfolding count_of
parts_count brand parts part work table n bytes e =
    let same = cutting_then parts part (held (start_of brand) work table) bytes in
    let c = feed_counts (start_of brand) (joined parts ++ part) work table n (sym (ap (λ (o : Out (Result ℕ Refusal)). o.answer) same) ∙ e) in
    omega (arith, c.answers, length-append (joined parts) part)
