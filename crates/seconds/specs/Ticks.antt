-- What the code makes of seconds: a double's parts, and the whole part of a time, as far as a lookup tells it apart.
use Rattle.std.specs.Prelude.{ℕ, ◌-◌, ◌^◌, ◌≤◌, ◌<◌, ◌≡◌, ltb, Float, Option as Given, Some, None}
use Rattle.std.proofs.Math.Option.{Option, some, none}
use Rattle.basics.specs.Choose.{pick}
use Rattle.moment.specs.Moments.{Moment, seconds_at}
use Rattle.moment.specs.Worth.{Worth, whole}
use Rattle.seconds.specs.declared.Parts.{Parts}
use Rattle.seconds.specs.declared.Ticks.{Ticks}
use Rattle.seconds.specs.declared.Ticks.TheVariants as ticks

-- the parts are x's exact value; with a power, the leading digit is there
pub record Exact (x : Float) (p : Parts) : Type 0 where
  pub worth : (scale : ℕ) → Worth x p.digits p.power scale
  pub small : p.digits < 2 ^ 53
  pub leading : 0 < p.power → 2 ^ 52 ≤ p.digits

-- what an answer says of x: its parts, or that it is no time, whatever the timescale
unfoldable pub Splits : Float → Given Parts → Type 0
Splits x (Some p) = Exact x p
Splits x None = (scale : ℕ) → seconds_at x scale ≡ none

-- so many whole ticks
unfoldable pub ticks_at : ℕ → Ticks
ticks_at n = pick (ltb n (2 ^ 64)) (ticks.At n) (pick (ltb n (2 ^ 65)) (ticks.Beyond (n - 2 ^ 64)) ticks.Past)

-- the whole ticks of a time, if there is one
unfoldable pub ticks_of : Option Moment → Given Ticks
ticks_of none = None
ticks_of (some t) = Some (ticks_at (whole t))
