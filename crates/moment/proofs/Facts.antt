-- What the definition of a time says, double by double: which are no time, and what the others come to.
use Prim.Native.Nat.{ℕ, suc, ◌*◌, ◌^◌}
use mathlib.Core.Path.{◌≡◌, refl, ap}
use mathlib.Core.Option.{some, none}
use mathlib.Core.Bool.{Bool, true, false}
use native.Mathlib.Omega.{arith}
use lib.IntN.{ℤ, pos, negsuc}
use lib.Ieee.{nan, inf, fin}
use Rattle.moment.specs.declared.Request.TheVariants as request
use Rattle.moment.specs.Moments.{tick, seconds_at, moment_of}

-- "26 for not a number, either infinity, or a value below zero"
pub not_a_number : (scale : ℕ) → seconds_at nan scale ≡ none
unfolding seconds_at
not_a_number scale = refl

pub infinite : (s : Bool) (scale : ℕ) → seconds_at (inf s) scale ≡ none
unfolding seconds_at
infinite s scale = refl

pub below_zero : (m : ℕ) (e : ℤ) (scale : ℕ) → seconds_at (fin true (suc m) e) scale ≡ none
unfolding seconds_at
below_zero m e scale = refl

-- "Negative zero is zero."
pub negative_zero : (scale : ℕ) → seconds_at (fin true 0 (pos 0)) scale ≡ seconds_at (fin false 0 (pos 0)) scale
unfolding seconds_at
negative_zero scale = refl

-- m seconds are m · timescale ticks; m · 2^k seconds are m · 2^k · timescale
pub whole_seconds : (m k scale : ℕ) → seconds_at (fin false m (pos k)) scale ≡ some (tick (m * 2 ^ k * scale))
unfolding seconds_at
whole_seconds m k scale = refl

-- m / 2^k seconds are m · timescale / 2^k ticks, for a k above 0
pub parts_of_seconds : (m k scale : ℕ) → seconds_at (fin false m (negsuc k)) scale ≡ some (record { over = m * scale; under = 2 ^ suc k })
unfolding seconds_at
parts_of_seconds m k scale = let e : m * 1 ≡ m = omega arith in ap (λ (n : ℕ). some (record { over = n * scale; under = 2 ^ suc k })) e

-- a request in ticks is always a time, whatever the timescale
pub ticks_are_a_time : (t scale : ℕ) → moment_of (request.Ticks t) scale ≡ some (tick t)
unfolding moment_of
ticks_are_a_time t scale = refl
