-- The time that is asked for, in ticks or in seconds, as an exact fraction of ticks. A double is a value of the toolchain's account of IEEE 754.
use Rattle.std.specs.Prelude.{ℕ, zero, suc, ◌*◌, Bool, true, false, leb, ltb, ℤ, Float}
use Rattle.std.proofs.Math.Option.{Option, some, none}
use Rattle.std.specs.Float.{nan, inf, fin}
use Rattle.std.specs.Float.Ieee.{up, down}
use Rattle.moment.specs.declared.Request.{Request}
use Rattle.moment.specs.declared.Request.TheVariants as request

-- a time in ticks, over / under, which need not be whole
pub record Moment : Type 0 where
  pub over : ℕ
  pub under : ℕ

-- a whole number of ticks
abbrev pub tick : ℕ → Moment
tick t = record { over = t; under = 1 }

-- "the double's exact value times the timescale": a value m · 2^e is m · up e / down e, which is m / 2^k for e = −k
abbrev pub product : ℕ → ℤ → ℕ → Moment
product m e scale = record { over = m * up e * scale; under = down e }

-- row 26, request A1: "26 for not a number, either infinity, or a value below zero". "Negative zero is zero."
unfoldable pub seconds_at : Float → ℕ → Option Moment
seconds_at nan scale = none
seconds_at (inf s) scale = none
seconds_at (fin false m e) scale = some (product m e scale)
seconds_at (fin true zero e) scale = some (product zero e scale)
seconds_at (fin true (suc m) e) scale = none

-- "a request is either a tick count or a number of seconds held as a double"
unfoldable pub moment_of : Request → ℕ → Option Moment
moment_of (request.Ticks t) scale = some (tick t)
moment_of (request.Seconds x) scale = seconds_at x scale

-- a ≤ t, and t < a
abbrev pub reaches : Moment → ℕ → Bool
reaches t a = leb (a * t.under) t.over

abbrev pub before : Moment → ℕ → Bool
before t a = ltb t.over (a * t.under)
