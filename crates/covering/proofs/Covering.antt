-- Over any table at all: the record found is the lowest-numbered one that covers the time, and none is found only where none does.
use Prim.Native.Nat.{ℕ, zero, suc, ◌+◌, ◌≤◌, ◌<◌}
use mathlib.Core.Path.{◌≡◌, refl, sym, ap, ◌∙◌, subst}
use mathlib.Core.List.{List}
use mathlib.Core.Logic.{◌↔◌, ◌⊎◌, inl, inr}
use mathlib.Core.Option.{Option, some, none, some-injective, none-ne-some}
use mathlib.Core.Bool.{Bool, true, false}
use native.Mathlib.Omega.{arith}
use Rattle.basics.specs.Choose.{pick}
use Rattle.basics.proofs.Picks.{lt_or_ge, pick_yes, pick_no}
use Rattle.moment.specs.Moments.{Moment}
use Rattle.covering.specs.Lookup.{record_covers, covering_from}
use Rattle.table.specs.Table.{record_at}

-- record j of k records from the i-th on covers t, and no lower one of them does
pub record Lowest (k i : ℕ) (table : List ℕ) (t : Moment) (j : ℕ) : Type 0 where
  pub from : i ≤ j
  pub below : j < i + k
  pub covering : record_covers (record_at table j) t ≡ true
  pub lower : (m : ℕ) → i ≤ m → m < j → record_covers (record_at table m) t ≡ false

-- none of k records from the i-th on covers t
abbrev pub NoneCovers : ℕ → ℕ → List ℕ → Moment → Type 0
NoneCovers k i table t = (m : ℕ) → i ≤ m → m < i + k → record_covers (record_at table m) t ≡ false

-- of a number that is at least another, it is that one or it is beyond it
here_or_on : (i m : ℕ) → i ≤ m → (i ≡ m) ⊎ (suc i ≤ m)
here_or_on i m h = at (lt_or_ge i m)
  where
    at : (i < m) ⊎ (m ≤ i) → (i ≡ m) ⊎ (suc i ≤ m)
    at (inl on) = inr on
    at (inr same) = inl (omega arith)

-- what holds of the i-th and of all beyond it
from_here : (K : ℕ → Type 0) (i m : ℕ) → i ≤ m → K i → (suc i ≤ m → K m) → K m
from_here K i m h here on = at (here_or_on i m h)
  where
    at : (i ≡ m) ⊎ (suc i ≤ m) → K m
    at (inl same) = subst K same here
    at (inr beyond) = on beyond

-- The number found is that of the lowest-numbered record that covers the time.
pub covering_lowest : (k i : ℕ) (table : List ℕ) (t : Moment) (j : ℕ) → covering_from k i table t ≡ some j → Lowest k i table t j
unfolding covering_from pick
covering_lowest zero i table t j e = absurd (none-ne-some j e)
covering_lowest (suc k) i table t j e = at (record_covers (record_at table i) t) refl e (covering_lowest k (suc i) table t j)
  where
    at : (c : Bool) → record_covers (record_at table i) t ≡ c → pick c (some i) (covering_from k (suc i) table t) ≡ some j →
        (covering_from k (suc i) table t ≡ some j → Lowest k (suc i) table t j) → Lowest (suc k) i table t j
    at true here h later =
        subst (λ (n : ℕ). Lowest (suc k) i table t n) (some-injective _ _ h)
        (record { from = omega arith; below = omega arith; covering = here; lower = λ m low high. absurd (omega arith) })
    at false here h later =
        let rest = later h in
        let low = rest.from in
        let high = rest.below in
        record {
          from = omega arith;
          below = omega arith;
          covering = rest.covering;
          lower = λ m from to. from_here (λ n. record_covers (record_at table n) t ≡ false) i m from here (λ on. rest.lower m on to);
        }

-- The lowest-numbered record that covers the time is found.
pub lowest_covering : (k i : ℕ) (table : List ℕ) (t : Moment) (j : ℕ) → Lowest k i table t j → covering_from k i table t ≡ some j
unfolding covering_from pick
lowest_covering zero i table t j l = let low = l.from in let high = l.below in absurd (omega arith)
lowest_covering (suc k) i table t j l = at (here_or_on i j l.from) (lowest_covering k (suc i) table t j)
  where
    at : (i ≡ j) ⊎ (suc i ≤ j) → (Lowest k (suc i) table t j → covering_from k (suc i) table t ≡ some j) →
        pick (record_covers (record_at table i) t) (some i) (covering_from k (suc i) table t) ≡ some j
    at (inl same) later = pick_yes (record_covers (record_at table i) t) _ _ (subst (λ (n : ℕ). record_covers (record_at table n) t ≡ true) (sym same) l.covering) ∙ ap {B = Option ℕ} some same
    at (inr on) later =
        let high = l.below in
        pick_no (record_covers (record_at table i) t) _ _ (l.lower i (omega arith) on)
        ∙ later (record { from = on; below = omega arith; covering = l.covering; lower = λ m from to. l.lower m (omega arith) to })

-- Where none is found, none covers the time.
pub none_covers : (k i : ℕ) (table : List ℕ) (t : Moment) → covering_from k i table t ≡ none → NoneCovers k i table t
unfolding covering_from pick
none_covers zero i table t e m from to = absurd (omega arith)
none_covers (suc k) i table t e m from to = at (record_covers (record_at table i) t) refl e (λ h. none_covers k (suc i) table t h m)
  where
    at : (c : Bool) → record_covers (record_at table i) t ≡ c → pick c (some i) (covering_from k (suc i) table t) ≡ none →
        (covering_from k (suc i) table t ≡ none → suc i ≤ m → m < suc i + k → record_covers (record_at table m) t ≡ false) → record_covers (record_at table m) t ≡ false
    at true here h later = absurd (none-ne-some i (sym h))
    at false here h later = from_here (λ n. record_covers (record_at table n) t ≡ false) i m from here (λ on. later h on (omega arith))

-- Where none covers the time, none is found.
pub covers_none : (k i : ℕ) (table : List ℕ) (t : Moment) → NoneCovers k i table t → covering_from k i table t ≡ none
unfolding covering_from
covers_none zero i table t h = refl
covers_none (suc k) i table t h =
    pick_no (record_covers (record_at table i) t) _ _ (h i (omega arith) (omega arith)) ∙ covers_none k (suc i) table t (λ m from to. h m (omega arith) (omega arith))

-- Both together: a number is found exactly where it is the lowest that covers, and none exactly where none covers.
pub covering_exact : (k i : ℕ) (table : List ℕ) (t : Moment) → ((j : ℕ) → covering_from k i table t ≡ some j ↔ Lowest k i table t j) × (covering_from k i table t ≡ none ↔ NoneCovers k i table t)
covering_exact k i table t = (λ j. (covering_lowest k i table t j, lowest_covering k i table t j), (none_covers k i table t, covers_none k i table t))

-- Two lowest-numbered records that cover are the same.
pub lowest_same : (k i : ℕ) (table : List ℕ) (t : Moment) (j j' : ℕ) → Lowest k i table t j → Lowest k i table t j' → j ≡ j'
lowest_same k i table t j j' l l' = some-injective _ _ (sym (lowest_covering k i table t j l) ∙ lowest_covering k i table t j' l')
