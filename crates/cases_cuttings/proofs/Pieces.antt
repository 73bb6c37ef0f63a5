-- One piece more of a reading in pieces: what is held, and what was answered, so far and in the rest.
use Rattle.std.specs.Prelude.{ℕ, Result}
use Rattle.std.proofs.Common.{◌≡◌, ℕ, suc, ◌+◌, ◌-◌, ◌<◌, min, Bool, true, ◌&&◌, ◌↔◌, List, length, sym, refl, ap, ◌∙◌, subst, arith}
use native.Mathlib.Nat.{sub-zero}
use Rattle.basics.proofs.Tests.{and_both}
use Rattle.machine.specs.declared.Refusal.{Refusal}
use Rattle.state.specs.Calls.{Out}
use Rattle.cases_data.specs.Parts.{bytes_from}
use Rattle.cases_trial.specs.Ends.{answer_at}
use Rattle.cases_trial.specs.declared.alike.End.{End}
use Rattle.state.specs.Cutting.{Held, held_after, feed_held}
use Rattle.cases_cuttings.specs.Readings.{fed_pieces, Answer, ReadsAlike}

-- both of two tests
both_and : (a b : Bool) → a ≡ true → b ≡ true → a && b ≡ true
both_and a b e k = rw (e, k)

module _ (segment : List ℕ) (long from to next : ℕ) (h : Held) (o : Out (Result ℕ Refusal)) (fed : o ≡ feed_held h (bytes_from segment from to)) (on : next ≡ min (to + long) (length segment)) where
  -- what is held after the rest of the pieces
  step_held : (k : ℕ) → fed_pieces k segment long to next (held_after o) ≡ fed_pieces (suc k) segment long from to h
  unfolding fed_pieces
  step_held k = rw (fed, on)

  pub rest_held : (e i : ℕ) → i < e → fed_pieces (e - (i + 1)) segment long to next (held_after o) ≡ fed_pieces (e - i) segment long from to h
  rest_held e i lt =
      let n : e - i ≡ suc (e - (i + 1)) = omega arith in
      step_held (e - (i + 1)) ∙ sym (ap (λ (k : ℕ). fed_pieces k segment long from to h) n)

  -- what is answered in the rest, with all that was answered so far
  module _ (end : End) (so now told : Bool) (tells : (told ≡ true) ↔ (o.answer ≡ answer_at to end)) (joins : now ≡ (so && told)) where
    step_answered : (k : ℕ) → ((now ≡ true) × Answer end k segment long to next (held_after o)) ↔ ((so ≡ true) × Answer end (suc k) segment long from to h)
    unfolding Answer
    step_answered k = rw (sym fed, sym on) (
      λ w. let both = and_both so told (sym joins ∙ w.0) in (both.0, (tells.0 both.1, w.1)),
      λ w. (joins ∙ both_and so told w.0 (tells.1 w.1.0), w.1.1),
    )

    pub rest_answered : (e i : ℕ) → i < e → ((now ≡ true) × Answer end (e - (i + 1)) segment long to next (held_after o)) ↔ ((so ≡ true) × Answer end (e - i) segment long from to h)
    rest_answered e i lt =
        let n : suc (e - (i + 1)) ≡ e - i = omega arith in
        subst (λ (k : ℕ). ((now ≡ true) × Answer end (e - (i + 1)) segment long to next (held_after o)) ↔ ((so ≡ true) × Answer end k segment long from to h)) n (step_answered (e - (i + 1)))

-- a test that is joined of two decides what both decide
pub joined : {P Q : Type 0} (a b r : Bool) → r ≡ (a && b) → ((a ≡ true) ↔ P) → ((b ≡ true) ↔ Q) → (r ≡ true) ↔ (P × Q)
joined a b r e p q = (
  λ t. let both = and_both a b (sym e ∙ t) in (p.0 both.0, q.0 both.1),
  λ w. e ∙ both_and a b (p.1 w.0) (q.1 w.1),
)

-- with no piece fed yet
pub first_held : (e : ℕ) (segment : List ℕ) (long from to : ℕ) (h : Held) → fed_pieces (e - 0) segment long from to h ≡ fed_pieces e segment long from to h
first_held e segment long from to h = rw sub-zero

pub first_answered :
    (end : End) (e : ℕ) (segment : List ℕ) (long from to : ℕ) (h : Held)
    → ((true ≡ true) × Answer end (e - 0) segment long from to h) ↔ Answer end e segment long from to h
first_answered end e segment long from to h = rw sub-zero (λ w. w.1, λ a. (refl, a))

-- with no piece left, what is held and what was answered
pub none_held : (k : ℕ) (segment : List ℕ) (long from to : ℕ) (h : Held) → k ≡ 0 → fed_pieces k segment long from to h ≡ h
unfolding fed_pieces
none_held k segment long from to h e = rw e

pub none_answered : (end : End) (k : ℕ) (segment : List ℕ) (long from to : ℕ) (h : Held) → k ≡ 0 → Answer end k segment long from to h
unfolding Answer
none_answered end k segment long from to h e = rw e tt

-- a reading whose first piece ends at the same place, by another name
pub same_cut :
    (segment : List ℕ) (pieces f g other : ℕ) (end : End) (work table : List ℕ) (r : Bool) (work' table' : List ℕ)
    → f ≡ g
    → ReadsAlike segment (record { pieces = pieces; first = f; other = other }) end work table r work' table'
    → ReadsAlike segment (record { pieces = pieces; first = g; other = other }) end work table r work' table'
same_cut segment pieces f g other end work table r work' table' e read =
    subst (λ (k : ℕ). ReadsAlike segment (record { pieces = pieces; first = k; other = other }) end work table r work' table') e read
