-- Words for what is proved of a time: its whole part, and what a double is worth.
use Rattle.std.specs.Prelude.{ℕ, ◌*◌, ◌/◌, ◌^◌, ◌≡◌, Float}
use Rattle.std.proofs.Math.Option.{some}
use Rattle.moment.specs.Moments.{Moment, seconds_at}

-- the whole part of a time
abbrev pub whole : Moment → ℕ
whole t = t.over / t.under

-- x is worth d · 2^p / 2^1074 seconds: so many ticks of a timescale
pub record Worth (x : Float) (d p scale : ℕ) : Type 0 where
  pub time : Moment
  pub taken : seconds_at x scale ≡ some time
  pub value : time.over * 2 ^ 1074 ≡ d * 2 ^ p * scale * time.under
