-- Only the whole part of a time matters: it reaches a tick, and is before one, exactly as its whole part does and is.
use Prim.Native.Nat.{ℕ, zero, suc, ◌*◌, ◌<◌}
use mathlib.Core.Path.{◌≡◌, refl, ap}
use mathlib.Core.Option.{some, some-injective, none-ne-some}
use mathlib.Core.Bool.{Bool, true, false}
use native.Mathlib.Omega.{arith}
use native.Mathlib.Nat.{le-div_iff_mul-le, div-lt_iff_lt-mul}
use lib.Dec.{leb, ltb}
use lib.Ieee.{Float, nan, inf, fin}
use lib.Ieee.Fits.{down_pos}
use borrow.Author.Tests.{leb-true, leb-false, ltb-true, ltb-false, le-leb, lt-leb, lt-ltb, le-ltb}
use Rattle.moment.specs.declared.Request.{Request}
use Rattle.moment.specs.declared.Request.TheVariants as request
use Rattle.moment.specs.Moments.{Moment, tick, seconds_at, moment_of, reaches, before}
use Rattle.moment.specs.Worth.{whole}

module _ (t : Moment) (some' : 0 < t.under) (a : ℕ) where
  pub reaches_whole : reaches t a ≡ leb a (whole t)
  reaches_whole = at (leb a (whole t)) refl
    where
      at : (c : Bool) → leb a (whole t) ≡ c → reaches t a ≡ c
      at true e = le-leb (a * t.under) t.over ((le-div_iff_mul-le some').0 (leb-true a (whole t) e))
      at false e = lt-leb (a * t.under) t.over ((div-lt_iff_lt-mul some').0 (leb-false a (whole t) e))

  pub before_whole : before t a ≡ ltb (whole t) a
  before_whole = at (ltb (whole t) a) refl
    where
      at : (c : Bool) → ltb (whole t) a ≡ c → before t a ≡ c
      at true e = lt-ltb t.over (a * t.under) ((div-lt_iff_lt-mul some').0 (ltb-true (whole t) a e))
      at false e = le-ltb t.over (a * t.under) ((le-div_iff_mul-le some').0 (ltb-false (whole t) a e))

-- A whole number of ticks is compared as it stands.
pub reaches_tick : (t a : ℕ) → reaches (tick t) a ≡ leb a t
reaches_tick t a = let e : a * 1 ≡ a = omega arith in ap (λ (n : ℕ). leb n t) e

pub before_tick : (t a : ℕ) → before (tick t) a ≡ ltb t a
before_tick t a = let e : a * 1 ≡ a = omega arith in ap (λ (n : ℕ). ltb t n) e

-- Nothing is divided by zero: the fraction of a request has something below.
pub seconds_under : (x : Float) (scale : ℕ) (t : Moment) → seconds_at x scale ≡ some t → 0 < t.under
unfolding seconds_at
seconds_under nan scale t e = absurd (none-ne-some t e)
seconds_under (inf s) scale t e = absurd (none-ne-some t e)
seconds_under (fin false m e) scale t h = rw (← some-injective _ _ h) (down_pos e)
seconds_under (fin true zero e) scale t h = rw (← some-injective _ _ h) (down_pos e)
seconds_under (fin true (suc m) e) scale t h = absurd (none-ne-some t h)

pub moment_under : (r : Request) (scale : ℕ) (t : Moment) → moment_of r scale ≡ some t → 0 < t.under
unfolding moment_of
moment_under (request.Ticks n) scale t e = rw (← some-injective _ _ e) (omega arith)
moment_under (request.Seconds x) scale t e = seconds_under x scale t e
