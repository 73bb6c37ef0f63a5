-- A number of 64 bits in decimal spells the number, by the fewest digits.
use Prim.Native.Nat.{ℕ, zero, suc, ◌+◌, ◌*◌, ◌-◌, ◌/◌, ◌%◌, ◌^◌, ◌≤◌, ◌<◌}
use mathlib.Core.Path.{◌≡◌, refl, sym, ap, subst, ◌∙◌}
use mathlib.Core.List.{List, [], ◌∷◌, ◌++◌}
use mathlib.Core.Logic.{◌⊎◌, inl, inr}
use native.Mathlib.Omega.{arith}
use native.Mathlib.Numerals.{unary_clauses}
use lib.ListN.{get_or}
use Rattle.basics.proofs.Picks.{lt_or_ge}
use Rattle.segment.specs.Constants.{time_limit}
use Rattle.listing.specs.Text.{digit, decimal_in, decimal}
use Rattle.listing.specs.Spelling.{spelled_from, Digits, Spells}
use Rattle.listing.proofs.Laws.{decimal_none, decimal_one, decimal_more}

spelled_last : (n c : ℕ) (cs : List ℕ) → spelled_from n (cs ++ (c ∷ [])) ≡ spelled_from n cs * 10 + (c - 48)
unfolding spelled_from
spelled_last n c [] = refl
spelled_last n c (d ∷ cs) = spelled_last (n * 10 + (d - 48)) c cs

spelled_digit : (n : ℕ) → spelled_from 0 (digit n ∷ []) ≡ n
unfolding spelled_from
spelled_digit n = omega arith

spelled_none : spelled_from 0 [] ≡ 0
unfolding spelled_from
spelled_none = refl

-- a number of more than one digit: its tens in decimal, then its last digit
last_apart : (k n : ℕ) → 10 ≤ n → decimal_in (suc k) n ≡ decimal_in k (n / 10) ++ (digit (n % 10) ∷ [])
last_apart k n h =
    let e : suc k - 1 ≡ k = omega arith in
    decimal_more (suc k) n (omega arith) h ∙ ap (λ (j : ℕ). decimal_in j (n / 10) ++ (digit (n % 10) ∷ [])) e

tens_below : (k n : ℕ) → n < 10 ^ suc k → n / 10 < 10 ^ k
tens_below k n h = let q : n < 10 ^ k * 10 = simp unary_clauses at h in omega arith

read_next : (k n : ℕ) → ((m : ℕ) → m < 10 ^ k → spelled_from 0 (decimal_in k m) ≡ m) → n < 10 ^ suc k → (n < 10) ⊎ (10 ≤ n) → spelled_from 0 (decimal_in (suc k) n) ≡ n
read_next k n tens h (inl l) = ap (λ (t : List ℕ). spelled_from 0 t) (decimal_one (suc k) n (omega arith) l) ∙ spelled_digit n
read_next k n tens h (inr m) =
    let t : spelled_from 0 (decimal_in k (n / 10)) ≡ n / 10 = tens (n / 10) (tens_below k n h) in
    let s : spelled_from 0 (decimal_in k (n / 10)) * 10 + (digit (n % 10) - 48) ≡ n = omega arith in
    ap (λ (l : List ℕ). spelled_from 0 l) (last_apart k n m) ∙ spelled_last 0 (digit (n % 10)) (decimal_in k (n / 10)) ∙ s

-- the digits read back give the number
reads_back : (k n : ℕ) → n < 10 ^ k → spelled_from 0 (decimal_in k n) ≡ n
reads_back zero n h = let z : 0 ≡ n = omega arith in ap (λ (t : List ℕ). spelled_from 0 t) (decimal_none 0 n refl) ∙ spelled_none ∙ z
reads_back (suc k) n h = read_next k n (reads_back k) h (lt_or_ge n 10)

-- each character of the text is a digit
digits_last : (cs : List ℕ) (c : ℕ) → Digits cs → 48 ≤ c → c ≤ 57 → Digits (cs ++ (c ∷ []))
digits_last [] c p l h = (l, h, tt)
digits_last (d ∷ cs) c p l h = (p.0, p.1, digits_last cs c p.2 l h)

digits_next : (k n : ℕ) → ((m : ℕ) → Digits (decimal_in k m)) → (n < 10) ⊎ (10 ≤ n) → Digits (decimal_in (suc k) n)
digits_next k n tens (inl l) = subst Digits (sym (decimal_one (suc k) n (omega arith) l)) (omega arith, omega arith, tt)
digits_next k n tens (inr m) = subst Digits (sym (last_apart k n m)) (digits_last (decimal_in k (n / 10)) (digit (n % 10)) (tens (n / 10)) (omega arith) (omega arith))

all_digits : (k n : ℕ) → Digits (decimal_in k n)
all_digits zero n = subst Digits (sym (decimal_none 0 n refl)) tt
all_digits (suc k) n = digits_next k n (all_digits k) (lt_or_ge n 10)

-- what stands first in a text stands first in a longer one
first_kept : (cs ds : List ℕ) → 48 < get_or cs 0 0 → 48 < get_or (cs ++ ds) 0 0
first_kept [] ds h = absurd (omega arith)
first_kept (c ∷ cs) ds h = h

first_next : (k n : ℕ) → ((m : ℕ) → 0 < m → m < 10 ^ k → 48 < get_or (decimal_in k m) 0 0) → 0 < n → n < 10 ^ suc k → (n < 10) ⊎ (10 ≤ n) → 48 < get_or (decimal_in (suc k) n) 0 0
first_next k n tens p h (inl l) = subst (λ (t : List ℕ). 48 < get_or t 0 0) (sym (decimal_one (suc k) n (omega arith) l)) (omega arith)
first_next k n tens p h (inr m) =
    subst (λ (t : List ℕ). 48 < get_or t 0 0) (sym (last_apart k n m))
    (first_kept (decimal_in k (n / 10)) (digit (n % 10) ∷ []) (tens (n / 10) (omega arith) (tens_below k n h)))

-- the first digit of a number above 0 is not 0
first_digit : (k n : ℕ) → 0 < n → n < 10 ^ k → 48 < get_or (decimal_in k n) 0 0
first_digit zero n p h = absurd (omega arith)
first_digit (suc k) n p h = first_next k n (first_digit k) p h (lt_or_ge n 10)

pub decimal_spells : (n : ℕ) → n < time_limit → Spells n (decimal n)
decimal_spells n h =
    let b : n < 10 ^ 20 = omega arith in
    record {
      digits = all_digits 20 n;
      same = reads_back 20 n b;
      fewest = λ p. first_digit 20 n p b;
      nought = λ e. ap decimal e ∙ decimal_one 20 0 (omega arith) (omega arith);
    }
