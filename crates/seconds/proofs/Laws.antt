-- Laws of the whole ticks of seconds: by a double's parts, and as a lookup tells them apart.
use Rattle.std.specs.Prelude.{Some, None}
use Prim.Native.Nat.{ℕ, ◌+◌, ◌-◌, ◌*◌, ◌/◌, ◌%◌, ◌^◌, ◌≤◌, ◌<◌}
use mathlib.Core.Path.{◌≡◌, refl, sym, ap, ◌∙◌, subst}
use mathlib.Core.Bool.{Bool, true, false, not}
use mathlib.Core.Option.{none}
use native.Mathlib.Omega.{arith}
use native.Mathlib.Nat.{mul_right_comm, mul_assoc, mul-le-mul, mul-le-mul_right, le-div_iff_mul-le, le_of_mul-le-mul_right, eq_of_mul-eq-mul_right, sub-add_cancel}
use lib.Dec.{T, ltb}
use lib.Pow.{pow_pos, pow-add, pow_mono}
use lib.Ieee.{Float, nan, inf, fin, binary64, of_bits, to_bits, fits, is_nan, ne, eq}
use lib.Ieee.Bits.{of_bits-to_bits, to_bits-lt}
use lib.Ieee.Compare.{differs_from_itself}
use lib.Ieee.Nearest.{div_same}
use borrow.Author.Tests.{ltb-false, lt-ltb, le-ltb}
use Rattle.basics.proofs.Picks.{pick_yes, pick_no, pick_holds}
use Rattle.moment.specs.declared.Request.TheVariants as request
use Rattle.moment.specs.Moments.{seconds_at, moment_of}
use Rattle.moment.specs.Worth.{Worth, whole}
use Rattle.moment.proofs.Whole.{seconds_under}
use Rattle.moment.proofs.Bits.{hidden, infinite, negative, subnormal_worth, normal_worth, zero_worth, no_time}
use Rattle.seconds.specs.declared.Parts.{Parts}
use Rattle.seconds.specs.declared.Ticks.{Ticks}
use Rattle.seconds.specs.declared.Ticks.TheVariants as ticks
use Rattle.seconds.specs.Ticks.{Exact, Splits, ticks_at, ticks_of}

holds : (b : Bool) → b ≡ true → T b
holds true e = tt
holds false e = let z : ◌≡◌ {A = ℕ} 0 1 = cc in absurd (omega arith)

-- what differs from itself is not a number, and nothing else does
pub a_number : (x : Float) → ne x x ≡ false → T (not (is_nan x))
unfolding ne eq is_nan
a_number nan e = let z : ◌≡◌ {A = ℕ} 0 1 = cc in absurd (omega arith)
a_number (inf s) e = tt
a_number (fin s m e') e = tt

pub no_number : (x : Float) → ne x x ≡ true → Splits x None
unfolding Splits seconds_at
no_number x e scale = ap (λ (y : Float). seconds_at y scale) (differs_from_itself x (holds (ne x x) e))

-- a double by its bits
module _ (x : Float) (held : fits binary64 x ≡ true) where
  abbrev bits : ℕ
  bits = to_bits binary64 x

  same : of_bits binary64 bits ≡ x
  same = of_bits-to_bits binary64 x (holds (fits binary64 x) held)

  worth_same : (d p scale : ℕ) → Worth (of_bits binary64 bits) d p scale → Worth x d p scale
  worth_same d p scale w = subst (λ (y : Float). Worth y d p scale) same w

  pub split_zero : bits ≡ negative → Splits x (Some (record { digits = 0; power = 0 }))
  unfolding Splits
  split_zero e = record { worth = λ scale. worth_same 0 0 scale (zero_worth bits scale e); small = omega arith; leading = λ p. absurd (omega arith) }

  pub split_none : (bits ≡ negative → ⊥) → infinite ≤ bits → Splits x None
  unfolding Splits
  split_none other h scale =
      subst (λ (y : Float). seconds_at y scale ≡ none) same (no_time bits scale h other (to_bits-lt binary64 x (holds (fits binary64 x) held)))

  pub split_subnormal : bits < infinite → bits / hidden ≡ 0 → Splits x (Some (record { digits = bits % hidden; power = 0 }))
  unfolding Splits
  split_subnormal h e =
      record { worth = λ scale. worth_same (bits % hidden) 0 scale (subnormal_worth bits scale (omega arith)); small = omega arith; leading = λ p. absurd (omega arith) }

  pub split_normal : bits < infinite → (bits / hidden ≡ 0 → ⊥) → Splits x (Some (record { digits = hidden + bits % hidden; power = bits / hidden - 1 }))
  unfolding Splits
  split_normal h some' =
      record {
        worth = λ scale. worth_same (hidden + bits % hidden) (bits / hidden - 1) scale (normal_worth bits scale (omega arith) h);
        small = omega arith;
        leading = λ p. omega arith;
      }

-- a number as ticks
module _ (n : ℕ) where
  pub ticks_at_lem : n < 2 ^ 64 → ticks.At n ≡ ticks_at n
  unfolding ticks_at
  ticks_at_lem h = sym (pick_yes _ _ _ (lt-ltb n (2 ^ 64) h))

  pub ticks_beyond : 2 ^ 64 ≤ n → n < 2 ^ 65 → ticks.Beyond (n - 2 ^ 64) ≡ ticks_at n
  unfolding ticks_at
  ticks_beyond h k = sym (pick_no _ _ _ (le-ltb n (2 ^ 64) h) ∙ pick_yes _ _ _ (lt-ltb n (2 ^ 65) k))

  pub ticks_past : 2 ^ 65 ≤ n → ticks.Past ≡ ticks_at n
  unfolding ticks_at
  ticks_past h = sym (pick_no _ _ _ (le-ltb n (2 ^ 64) (omega arith)) ∙ pick_no _ _ _ (le-ltb n (2 ^ 65) h))

-- what an answer tells of the ticks
abbrev pub Told : ℕ → Ticks → Type 0
Told n (ticks.At t) = n ≡ t
Told n (ticks.Beyond t) = n ≡ 2 ^ 64 + t
Told n ticks.Past = 2 ^ 65 ≤ n

pub ticks_told : (n : ℕ) → Told n (ticks_at n)
unfolding ticks_at
ticks_told n =
    pick_holds (Told n) (ltb n (2 ^ 64)) (ticks.At n) _ (λ low. refl)
    (λ high.
    let from : 2 ^ 64 ≤ n = ltb-false n (2 ^ 64) high in
    pick_holds (Told n) (ltb n (2 ^ 65)) (ticks.Beyond (n - 2 ^ 64)) ticks.Past (λ h. omega arith) (λ h. ltb-false n (2 ^ 65) h))

-- two powers that make a third
power_split : (i k : ℕ) → i ≤ k → 2 ^ k ≡ 2 ^ (k - i) * 2 ^ i
power_split i k h = ap (λ (j : ℕ). 2 ^ j) (sym (sub-add_cancel h)) ∙ pow-add 2 (k - i) i

-- a fraction n / m that is d · 2^p · s / c, where 2^l is c · k: without the power, over what of 2^l is left
lower_fraction : (n m d s p l c k : ℕ) → 0 < m → p ≤ l → c * k ≡ 2 ^ l → n * c ≡ d * 2 ^ p * s * m → n / m ≡ d * s * k / 2 ^ (l - p)
lower_fraction n m d s p l c k pos below power e =
    let key : n * 2 ^ (l - p) ≡ d * s * k * m =
    eq_of_mul-eq-mul_right (2 ^ p) (pow_pos p) (n * 2 ^ (l - p)) (d * s * k * m)
    (mul_assoc n (2 ^ (l - p)) (2 ^ p)
    ∙ ap (λ (y : ℕ). n * y) (sym (power_split p l below) ∙ sym power)
    ∙ sym (mul_assoc n c k)
    ∙ ap (λ (y : ℕ). y * k) e
    ∙ turned d (2 ^ p) s m k) in
    div_same n m (d * s * k) (2 ^ (l - p)) pos (pow_pos (l - p)) key
  where
    turned : (d y s m k : ℕ) → d * y * s * m * k ≡ d * s * k * m * y
    turned d y s m k =
        ap (λ (z : ℕ). z * m * k) (mul_right_comm d y s)
        ∙ ap (λ (z : ℕ). z * k) (mul_right_comm (d * s) y m)
        ∙ mul_right_comm (d * s * m) y k
        ∙ ap (λ (z : ℕ). z * y) (mul_right_comm (d * s) m k)

-- the same, where the power alone is past 2^65
past_fraction : (n m d s p c : ℕ) → 0 < m → 0 < c → 0 < s → 2 ^ 52 ≤ d → c * 2 ^ 13 ≤ 2 ^ p → n * c ≡ d * 2 ^ p * s * m → 2 ^ 65 ≤ n / m
past_fraction n m d s p c pos some' scaled leading far e =
    let least : 2 ^ 52 * (c * 2 ^ 13) * 1 * m ≤ d * 2 ^ p * s * m = mul-le-mul_right m (mul-le-mul (mul-le-mul leading far) scaled) in
    let all : 2 ^ 65 * m * c ≤ n * c = rw e (subst (λ (y : ℕ). y ≤ d * 2 ^ p * s * m) (turned c m) least) in
    (le-div_iff_mul-le pos).1 (le_of_mul-le-mul_right {m = 2 ^ 65 * m} {n = n} {k = c} all some')
  where
    turned : (c m : ℕ) → 2 ^ 52 * (c * 2 ^ 13) * 1 * m ≡ 2 ^ 65 * m * c
    turned c m =
        let e' : 2 ^ 52 * (c * 2 ^ 13) * 1 ≡ 2 ^ 65 * c = omega arith in
        ap (λ (y : ℕ). y * m) e' ∙ mul_right_comm (2 ^ 65) c m

-- the whole ticks of a double's parts
module _ (x : Float) (scale : ℕ) where
  pub no_ticks : seconds_at x scale ≡ none → None ≡ ticks_of (seconds_at x scale)
  unfolding ticks_of
  no_ticks e = rw e

  module _ (p : Parts) (exact : Exact x p) where
    parts_under : 0 < (exact.worth scale).time.under
    parts_under = seconds_under x scale (exact.worth scale).time (exact.worth scale).taken

    taken : ticks_of (seconds_at x scale) ≡ Some (ticks_at (whole (exact.worth scale).time))
    unfolding ticks_of
    taken = ap ticks_of (exact.worth scale).taken

    pub ticks_lowered : p.power ≤ 1086 → Some (ticks_at (p.digits * scale * 4096 / 2 ^ (1086 - p.power))) ≡ ticks_of (seconds_at x scale)
    ticks_lowered near =
        let w = exact.worth scale in
        sym (taken ∙ ap (λ (n : ℕ). Some (ticks_at n)) (lower_fraction w.time.over w.time.under p.digits scale p.power 1086 (2 ^ 1074) 4096 parts_under near (sym (pow-add 2 1074 12)) w.value))

    pub ticks_far : 1086 < p.power → 0 < scale → Some ticks.Past ≡ ticks_of (seconds_at x scale)
    ticks_far far scaled =
        let w = exact.worth scale in
        let power : 2 ^ 1074 * 2 ^ 13 ≤ 2 ^ p.power = rw (← pow-add 2 1074 13) (pow_mono {i = 1087} {j = p.power} far) in
        ap (λ (t : Ticks). Some t) (ticks_past (whole w.time)
        (past_fraction w.time.over w.time.under p.digits scale p.power (2 ^ 1074) parts_under (pow_pos 1074) scaled (exact.leading (omega arith)) power w.value))
        ∙ sym taken

-- the whole ticks of a request
pub request_ticks : (t scale : ℕ) → t < 2 ^ 64 → Some (ticks.At t) ≡ ticks_of (moment_of (request.Ticks t) scale)
unfolding moment_of ticks_of ticks_at
request_ticks t scale h =
    let e : t / 1 ≡ t = omega arith in
    sym (ap (λ (n : ℕ). Some (ticks_at n)) e ∙ ap (λ (q : Ticks). Some q) (pick_yes (ltb t (2 ^ 64)) _ _ (lt-ltb t (2 ^ 64) h)))
