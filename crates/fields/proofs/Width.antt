-- One law over the width: a number of so many bytes and more is the one, moved up, and the other. The fields of 16, 32 and 64 bits cite it.
use Prim.Native.Nat.{ℕ, suc, ◌+◌, ◌*◌, ◌^◌, ◌≤◌, ◌<◌}
use mathlib.Core.Path.{◌≡◌, refl, ap, sym, ◌∙◌}
use mathlib.Core.List.{List, [], ◌∷◌, ◌++◌}
use mathlib.Core.Bool.{Bool, true, false}
use native.Mathlib.Omega.{arith}
use native.Mathlib.Nat.{add-mul, mul_assoc, add_assoc, pow-suc}
use lib.Dec.{eqb}
use lib.ListN.{length, take, drop, get_or, length-drop}
use lib.Seq.{take-add, drop-drop, drop-cons, length-take-le}
use borrow.Author.Tests.{ne_eqb, eqb-true}
use Rattle.basics.specs.Bytes.{number_from, number}
use Rattle.fields.specs.Answers.{number_at, some_width}

-- what bytes spell after others
spelled_after : (n : ℕ) (xs ys : List ℕ) → number_from n (xs ++ ys) ≡ number_from (number_from n xs) ys
unfolding number_from
spelled_after n [] ys = refl
spelled_after n (x ∷ xs) ys = spelled_after (n * 256 + x) xs ys

moved_up : (n : ℕ) (ys : List ℕ) → number_from n ys ≡ n * 256 ^ length ys + number ys
unfolding number_from
moved_up n [] = omega arith
moved_up n (y ∷ ys) =
    let p : number_from (n * 256 + y) ys ≡ (n * 256 + y) * 256 ^ length ys + number ys = moved_up (n * 256 + y) ys in
    let q : number_from (0 * 256 + y) ys ≡ (0 * 256 + y) * 256 ^ length ys + number ys = moved_up (0 * 256 + y) ys in
    let r : (0 * 256 + y) ≡ y = omega arith in
    p
    ∙ ap (λ (k : ℕ). k + number ys) (add-mul (n * 256) y (256 ^ length ys) ∙ ap (λ (k : ℕ). k + y * 256 ^ length ys) (mul_assoc n 256 (256 ^ length ys)))
    ∙ add_assoc (n * (256 * 256 ^ length ys)) (y * 256 ^ length ys) (number ys)
    ∙ ap (λ (k : ℕ). n * k + (y * 256 ^ length ys + number ys)) (omega (arith, pow-suc 256 (length ys)))
    ∙ ap (λ (k : ℕ). n * 256 ^ suc (length ys) + k) (sym (q ∙ ap (λ (k : ℕ). k * 256 ^ length ys + number ys) r))

-- The law.
pub width_join : (m n : ℕ) (s : List ℕ) (at : ℕ) → at + (m + n) ≤ length s → number_at (m + n) s at ≡ number_at m s at * 256 ^ n + number_at n s (at + m)
width_join m n s at h =
    let long : length (take n (drop (at + m) s)) ≡ n = length-take-le n (drop (at + m) s) (rw (length-drop (at + m) s) (omega arith)) in
    ap number (take-add m n (drop at s))
    ∙ spelled_after 0 (take m (drop at s)) (take n (drop m (drop at s)))
    ∙ ap (λ (l : List ℕ). number_from (number_at m s at) (take n l)) (drop-drop m at s)
    ∙ moved_up (number_at m s at) (take n (drop (at + m) s))
    ∙ ap (λ (k : ℕ). number_at m s at * 256 ^ k + number_at n s (at + m)) long

-- one byte
pub width_one : (s : List ℕ) (at : ℕ) → at < length s → number_at 1 s at ≡ get_or s at 0
unfolding number_from
width_one s at h = rw (drop-cons s at 0 h) (omega arith)

module _ (s : List ℕ) (i : ℕ) where
  -- two bytes, and four
  pub pair_law : (a b : ℕ) → i + 2 ≤ length s → a ≡ get_or s i 0 → b ≡ get_or s (i + 1) 0 → a * 256 + b ≡ number_at 2 s i
  pair_law a b h ea eb = rw (ea, eb) (sym (width_join 1 1 s i h ∙ rw (width_one s i (omega arith), width_one s (i + 1) (omega arith)) refl))

  pub word_law : (a b c d : ℕ) → i + 4 ≤ length s → a ≡ get_or s i 0 → b ≡ get_or s (i + 1) 0 → c ≡ get_or s (i + 2) 0 → d ≡ get_or s (i + 3) 0 →
      ((a * 256 + b) * 256 + c) * 256 + d ≡ number_at 4 s i
  word_law a b c d h ea eb ec ed =
      let high = pair_law a b (omega arith) ea eb in
      let q : i + 3 ≡ i + 2 + 1 = omega arith in
      let third = width_one s (i + 2) (omega arith) in
      let fourth = width_one s (i + 2 + 1) (omega arith) in
      let low : number_at 2 s (i + 2) ≡ c * 256 + d = width_join 1 1 s (i + 2) (omega arith) ∙ rw (third, fourth, ec, ed, q) refl in
      let all : number_at 4 s i ≡ number_at 2 s i * 65536 + number_at 2 s (i + 2) = width_join 2 2 s i h in
      omega arith

  -- eight bytes
  pub long_law : (a b : ℕ) → i + 8 ≤ length s → a ≡ number_at 4 s i → b ≡ number_at 4 s (i + 4) → a * 4294967296 + b ≡ number_at 8 s i
  long_law a b h ea eb = rw (ea, eb) (sym (width_join 4 4 s i h))

-- a width that is none of the shorter ones is the longest
pub last_width : (w : ℕ) → some_width w ≡ true → (w ≡ 1 → ⊥) → (w ≡ 2 → ⊥) → (w ≡ 4 → ⊥) → w ≡ 8
last_width w e a b c = eqb-true w 8 (simp (ne_eqb w 1 a, ne_eqb w 2 b, ne_eqb w 4 c) at e)

-- the widths are few
pub widths_few : (w : ℕ) → some_width w ≡ true → w ≤ 8
widths_few w e = at (eqb w 1) (eqb w 2) (eqb w 4) (eqb w 8) refl refl refl refl
  where
    at : (a b c d : Bool) → eqb w 1 ≡ a → eqb w 2 ≡ b → eqb w 4 ≡ c → eqb w 8 ≡ d → w ≤ 8
    at true b c d p q r t = omega (arith, eqb-true w 1 p)
    at false true c d p q r t = omega (arith, eqb-true w 2 q)
    at false false true d p q r t = omega (arith, eqb-true w 4 r)
    at false false false true p q r t = omega (arith, eqb-true w 8 t)
    at false false false false p q r t = let z : false ≡ true = simp (p, q, r, t) at e in let n : ◌≡◌ {A = ℕ} 0 1 = cc in absurd (omega arith)
