-- Each of the 2^64 bit patterns of a double, as seconds: which are no time (row 26), and what the others are worth, by exponent and fraction.
use Prim.Native.Nat.{ℕ, zero, suc, ◌+◌, ◌-◌, ◌*◌, ◌/◌, ◌%◌, ◌^◌, ◌≤◌, ◌<◌}
use mathlib.Core.Path.{◌≡◌, refl, sym, ap, ◌∙◌, subst}
use mathlib.Core.Logic.{◌↔◌, ◌≢◌, ◌⊎◌, inl, inr}
use mathlib.Core.Option.{none, none-ne-some}
use mathlib.Core.Bool.{Bool, true, false, cond}
use native.Mathlib.Omega.{arith}
use native.Mathlib.Nat.{mul_right_comm, zero-mul, mul-pos}
use lib.Dec.{eqb}
use lib.Pow.{pow_pos}
use lib.Ieee.{Float, nan, inf, fin, binary64, up, down, of_fields, of_bits}
use lib.Ieee.Fits.{down_pos}
use lib.Ieee.Exact.{HasValue, odd_sign}
use borrow.Author.Tests.{le-leb, lt-leb, ne_eqb, eqb-true, eqb-false}
use Rattle.basics.proofs.Picks.{lt_or_ge}
use Rattle.moment.specs.Moments.{product, seconds_at}
use Rattle.moment.specs.Worth.{Worth}

-- what one more in the exponent adds to the bits, which is also the leading digit that they leave out; the pattern of infinity; that of negative
-- zero
abbrev pub hidden : ℕ
hidden = 4503599627370496

abbrev pub infinite : ℕ
infinite = 9218868437227405312

abbrev pub negative : ℕ
negative = 9223372036854775808

-- a value times the timescale, over any denominator
scaled : (n c a l scale : ℕ) → n * c ≡ a * l → n * scale * c ≡ a * scale * l
scaled n c a l scale e = mul_right_comm n scale c ∙ ap (λ (y : ℕ). y * scale) e ∙ mul_right_comm a l scale

worth : (x : Float) (d p scale : ℕ) → HasValue x false (d * 2 ^ p) (2 ^ 1074) → Worth x d p scale
unfolding seconds_at
worth nan d p scale v = absurd v
worth (inf s) d p scale v = absurd v
worth (fin true m e) d p scale v = let z : ◌≡◌ {A = ℕ} 0 1 = cc v.0 in absurd (omega arith)
worth (fin false m e) d p scale v = record { time = product m e scale; taken = refl; value = scaled (m * up e) (2 ^ 1074) (d * 2 ^ p) (down e) scale v.1 }

-- a value below zero is no time
below : (x : Float) (a c scale : ℕ) → 0 < a → HasValue x true a c → seconds_at x scale ≡ none
unfolding seconds_at
below nan a c scale h v = absurd v
below (inf s) a c scale h v = absurd v
below (fin false m e) a c scale h v = let z : ◌≡◌ {A = ℕ} 0 1 = cc v.0 in absurd (omega arith)
below (fin true zero e) a c scale h v =
    let p : 0 < a * down e = mul-pos h (down_pos e) in
    let q : 0 * up e * c ≡ 0 = rw (zero-mul (up e), zero-mul c) in
    absurd (omega (arith, v.1, q))
below (fin true (suc m) e) a c scale h v = refl

-- the values of the fields: no leading digit, a leading digit, all ones
subnormal : (s : Bool) (f : ℕ) → HasValue (of_fields binary64 s 0 f) s (f * 2 ^ 0) (2 ^ 1074)
unfolding of_fields
subnormal s f = odd_sign 53 s f 0 1074

normal : (s : Bool) (e f : ℕ) → suc e ≢ 2047 → HasValue (of_fields binary64 s (suc e) f) s ((hidden + f) * 2 ^ e) (2 ^ 1074)
unfolding of_fields
normal s e f other = rw (ne_eqb (suc e) 2047 other) (odd_sign 53 s (hidden + f) e 1074)

ones : (s : Bool) (e f scale : ℕ) → e ≡ 2047 → seconds_at (of_fields binary64 s e f) scale ≡ none
unfolding of_fields seconds_at
ones s e f scale i = rw i (last (eqb f 0))
  where
    last : (b : Bool) → seconds_at (cond b (inf s) nan) scale ≡ none
    last true = refl
    last false = refl

-- with the sign set, all but zero is below zero, or no number
signed : (e f scale : ℕ) → 0 < e + f → seconds_at (of_fields binary64 true e f) scale ≡ none
signed zero f scale h = below (of_fields binary64 true 0 f) (f * 2 ^ 0) (2 ^ 1074) scale (omega arith) (subnormal true f)
signed (suc e) f scale h = at (eqb (suc e) 2047) refl
  where
    at : (b : Bool) → eqb (suc e) 2047 ≡ b → seconds_at (of_fields binary64 true (suc e) f) scale ≡ none
    at true i = ones true (suc e) f scale (eqb-true (suc e) 2047 i)
    at false i = below (of_fields binary64 true (suc e) f) ((hidden + f) * 2 ^ e) (2 ^ 1074) scale (mul-pos (omega arith) (pow_pos e)) (normal true e f (eqb-false (suc e) 2047 i))

module _ (b scale : ℕ) where
  -- the fields of a pattern without the sign, and with it
  plain_fields : b < negative → of_bits binary64 b ≡ of_fields binary64 false (b / hidden) (b % hidden)
  unfolding of_bits
  plain_fields h =
      let q : b % negative ≡ b = omega arith in
      ap (λ (s : Bool). of_fields binary64 s (b % negative / hidden) (b % hidden)) (lt-leb negative b h)
      ∙ ap (λ (n : ℕ). of_fields binary64 false (n / hidden) (b % hidden)) q

  signed_fields : negative ≤ b → of_bits binary64 b ≡ of_fields binary64 true (b % negative / hidden) (b % hidden)
  unfolding of_bits
  signed_fields h = ap (λ (s : Bool). of_fields binary64 s (b % negative / hidden) (b % hidden)) (le-leb negative b h)

  -- the fields, where the exponent is known
  fields_at : (e : ℕ) → b < negative → b / hidden ≡ e → of_fields binary64 false e (b % hidden) ≡ of_bits binary64 b
  fields_at e h q = sym (plain_fields h ∙ ap (λ (n : ℕ). of_fields binary64 false n (b % hidden)) q)

  -- an exponent of 0: the fraction alone
  pub subnormal_worth : b < hidden → Worth (of_bits binary64 b) (b % hidden) 0 scale
  subnormal_worth h =
      let e : b / hidden ≡ 0 = omega arith in
      worth (of_bits binary64 b) (b % hidden) 0 scale
      (subst (λ (y : Float). HasValue y false (b % hidden * 2 ^ 0) (2 ^ 1074)) (fields_at 0 (omega arith) e) (subnormal false (b % hidden)))

  -- any other: a leading digit before the fraction
  pub normal_worth : hidden ≤ b → b < infinite → Worth (of_bits binary64 b) (hidden + b % hidden) (b / hidden - 1) scale
  normal_worth h k =
      let e : b / hidden ≡ suc (b / hidden - 1) = omega arith in
      worth (of_bits binary64 b) (hidden + b % hidden) (b / hidden - 1) scale
      (subst (λ (y : Float). HasValue y false ((hidden + b % hidden) * 2 ^ (b / hidden - 1)) (2 ^ 1074)) (fields_at (suc (b / hidden - 1)) (omega arith) e)
      (normal false (b / hidden - 1) (b % hidden) (λ q. omega arith)))

  -- negative zero
  pub zero_worth : b ≡ negative → Worth (of_bits binary64 b) 0 0 scale
  unfolding seconds_at of_bits
  zero_worth e =
      rw e (record { time = product 0 (lib.IntN.pos 0) scale; taken = refl; value = scaled 0 (2 ^ 1074) 0 1 scale (zero-mul (2 ^ 1074)) })

  -- an exponent of all ones, or a sign before anything but zero
  pub no_time : infinite ≤ b → b ≢ negative → b < 2 ^ 64 → seconds_at (of_bits binary64 b) scale ≡ none
  no_time h other small = at (lt_or_ge b negative)
    where
      at : (b < negative) ⊎ (negative ≤ b) → seconds_at (of_bits binary64 b) scale ≡ none
      at (inl plain) =
          let e : b / hidden ≡ 2047 = omega arith in
          ap (λ (y : Float). seconds_at y scale) (plain_fields plain) ∙ ones false (b / hidden) (b % hidden) scale e
      at (inr sign) =
          let past : negative < b = beyond other sign in
          ap (λ (y : Float). seconds_at y scale) (signed_fields sign) ∙ signed (b % negative / hidden) (b % hidden) scale (omega arith)
        where
          beyond : b ≢ negative → negative ≤ b → negative < b
          beyond o n = omega arith

-- Of the 2^64 bit patterns these are no time: those from infinity's on, but for negative zero.
pub no_time_exactly : (b scale : ℕ) → b < 2 ^ 64 → (seconds_at (of_bits binary64 b) scale ≡ none) ↔ ((infinite ≤ b) × (b ≢ negative))
no_time_exactly b scale small = (λ e. (from e (lt_or_ge b infinite), λ q. timed (zero_worth b scale q) e), λ h. no_time b scale h.0 h.1 small)
  where
    timed : {d p : ℕ} → Worth (of_bits binary64 b) d p scale → seconds_at (of_bits binary64 b) scale ≡ none → ⊥
    timed w e = none-ne-some w.time (sym e ∙ w.taken)

    from : seconds_at (of_bits binary64 b) scale ≡ none → (b < infinite) ⊎ (infinite ≤ b) → infinite ≤ b
    from e (inr h) = h
    from e (inl h) = low e h (lt_or_ge b hidden)
      where
        low : seconds_at (of_bits binary64 b) scale ≡ none → b < infinite → (b < hidden) ⊎ (hidden ≤ b) → infinite ≤ b
        low e h (inl l) = absurd (timed (subnormal_worth b scale l) e)
        low e h (inr l) = absurd (timed (normal_worth b scale l h) e)
