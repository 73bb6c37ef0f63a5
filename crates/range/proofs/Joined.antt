-- Laws of the tests that ranges are made of: one range, two lists of them, and the numbers that a range is computed from.
use Prim.Native.Nat.{ℕ, suc, ◌≤◌, ◌<◌}
use mathlib.Core.Path.{◌≡◌, refl, sym, ap, ◌∙◌}
use mathlib.Core.List.{List, [], ◌∷◌, ◌++◌}
use mathlib.Core.Bool.{Bool, true, false, ◌&&◌}
use native.Mathlib.Omega.{arith}
use lib.Dec.{leb, ltb}
use borrow.Author.Tests.{le-leb, lt-leb}
use mathlib.Core.Logic.{◌⊎◌, inl, inr}
use Rattle.basics.proofs.Picks.{lt_or_ge}
use Rattle.state.specs.Ranges.{Bound, at_most, below, within, traf_most, index_most, sizes_read, durations_read}
use Rattle.state.specs.Sidx.{wide_more}
use Rattle.state.specs.declared.TrafPart.{TrafPart}
use Rattle.state.specs.declared.TrafPart.TheVariants as trafPart
use Rattle.state.specs.declared.IndexPart.{IndexPart}
use Rattle.state.specs.declared.IndexPart.TheVariants as part
use Rattle.state.specs.declared.EntryPart.{EntryPart}
use Rattle.state.specs.declared.EntryPart.TheVariants as entry

-- nothing to hold
pub all_of_none : true ≡ within []
unfolding within
all_of_none = refl

-- one test, of a range, and of one whose lower end is left out
pub one : (a b : ℕ) → leb a b ≡ within (at_most a b ∷ [])
unfolding within
one a b = at (leb a b)
  where
    at : (t : Bool) → t ≡ (t && true)
    at true = refl
    at false = refl

pub one_below : (a b : ℕ) → ltb a b ≡ within (below a b ∷ [])
one_below a b = one (suc a) b

-- a test of a range in other numbers
pub other_test : (a b c d : ℕ) → (a ≤ b → c ≤ d) → (b < a → d < c) → leb a b ≡ leb c d
other_test a b c d over under = at (lt_or_ge b a)
  where
    at : (b < a) ⊎ (a ≤ b) → leb a b ≡ leb c d
    at (inl h) = lt-leb a b h ∙ sym (lt-leb c d (under h))
    at (inr h) = le-leb a b h ∙ sym (le-leb c d (over h))

-- a first range that holds, and one that does not
pub first_holds : (a b : ℕ) (bs : List Bound) → a ≤ b → within bs ≡ within (at_most a b ∷ bs)
unfolding within
first_holds a b bs h = sym (ap (λ (t : Bool). t && within bs) (le-leb a b h))

pub first_fails : (a b : ℕ) (bs : List Bound) → b < a → false ≡ within (at_most a b ∷ bs)
unfolding within
first_fails a b bs h = sym (ap (λ (t : Bool). t && within bs) (lt-leb a b h))

within_both : (xs ys : List Bound) → within (xs ++ ys) ≡ (within xs && within ys)
unfolding within
within_both [] ys = refl
within_both (x ∷ xs) ys = at (leb x.low x.high) (within_both xs ys)
  where
    at : (t : Bool) → within (xs ++ ys) ≡ (within xs && within ys) → (t && within (xs ++ ys)) ≡ ((t && within xs) && within ys)
    at true e = e
    at false e = refl

-- the tests of two lists of ranges, and of three, are joined to the test of all
pub joined : (xs ys : List Bound) {a b : Bool} → a ≡ within xs → b ≡ within ys → (a && b) ≡ within (xs ++ ys)
joined xs ys {a} {b} p q = ap (λ (t : Bool). t && b) p ∙ ap (λ (t : Bool). within xs && t) q ∙ sym (within_both xs ys)

pub three : (xs ys zs : List Bound) {a b c : Bool} → a ≡ within xs → b ≡ within ys → c ≡ within zs → ((a && b) && c) ≡ within (xs ++ (ys ++ zs))
three xs ys zs {a} {b} {c} p q r = at a ∙ joined _ _ p (joined _ _ q r)
  where
    at : (t : Bool) → ((t && b) && c) ≡ (t && (b && c))
    at true = refl
    at false = refl

-- no number has more than 8 bytes
wide_low : (w : Bool) → wide_more w < 8
unfolding wide_more
wide_low true = omega arith
wide_low false = omega arith

pub traf_low : (p : TrafPart) → traf_most p < 8
unfolding traf_most
traf_low (trafPart.HeadFlags end) = omega arith
traf_low (trafPart.TrackId end) = omega arith
traf_low (trafPart.Version pos end) = omega arith
traf_low (trafPart.TimeFlags pos wide) = omega arith
traf_low (trafPart.Time pos) = omega arith

pub index_low : (i : IndexPart) (w : Bool) → index_most i w < 8
unfolding index_most
index_low part.Version w = omega arith
index_low part.Flags w = omega arith
index_low part.Id w = omega arith
index_low part.Scale w = omega arith
index_low part.Time w = wide_low w
index_low part.Offset w = wide_low w
index_low part.Reserved w = omega arith
index_low part.Count w = omega arith

-- no more entries are in a sum than were begun
pub sizes_read_low : (e : EntryPart) (n : ℕ) → sizes_read e n ≤ suc n
unfolding sizes_read
sizes_read_low entry.Size n = omega arith
sizes_read_low entry.Duration n = omega arith
sizes_read_low entry.Sap n = omega arith

pub durations_read_low : (e : EntryPart) (n : ℕ) → durations_read e n ≤ suc n
unfolding durations_read
durations_read_low entry.Size n = omega arith
durations_read_low entry.Duration n = omega arith
durations_read_low entry.Sap n = omega arith

-- a number below 8 that is none of 0 to 6
above_three : (k : ℕ) → (k ≡ 0 → ⊥) → (k ≡ 1 → ⊥) → (k ≡ 2 → ⊥) → (k ≡ 3 → ⊥) → 3 < k
above_three k a b c d = omega arith

last_of_four : (k : ℕ) → 3 < k → k < 8 → (k ≡ 4 → ⊥) → (k ≡ 5 → ⊥) → (k ≡ 6 → ⊥) → k ≡ 7
last_of_four k high low e f g = omega arith

pub seven : (k : ℕ) → k < 8 → (k ≡ 0 → ⊥) → (k ≡ 1 → ⊥) → (k ≡ 2 → ⊥) → (k ≡ 3 → ⊥) → (k ≡ 4 → ⊥) → (k ≡ 5 → ⊥) → (k ≡ 6 → ⊥) → k ≡ 7
seven k low a b c d e f g = last_of_four k (above_three k a b c d) low e f g
