-- `seconds::whole_ticks` meets its contract, by those of the four functions that it calls, by the laws `no_ticks`, `ticks_far` and `ticks_lowered` of a
-- double's parts, and by the definition of `Splits`.
use Rattle.std.specs.Prelude.{Some}
use Prim.Native.Nat.{ℕ, ◌-◌, ◌/◌, ◌^◌}
use mathlib.Core.Path.{ap, ◌∙◌}
use native.Mathlib.Omega.{arith}
use Rattle.seconds.specs.declared.Ticks.{Ticks}
use Rattle.seconds.specs.Ticks.{Splits, ticks_at}
use Rattle.seconds.proofs.Laws.{no_ticks, ticks_far, ticks_lowered}
use Rattle.seconds.proofs.whole_ticks.Goals as goal

pub returns-in_err-digits : goal.returns-in_err-digits
unfolding Splits
returns-in_err-digits c =
    let a = c.args in
    c.from_residual.ensures ∙ no_ticks a.x a.scale (c.in_err-digits.ensures a.scale)

pub returns-then-power-gt-MOST_POWER : goal.returns-then-power-gt-MOST_POWER
unfolding Splits
returns-then-power-gt-MOST_POWER c =
    let a = c.args in
    ticks_far a.x a.scale c.in_ok-digits.field-0 c.in_ok-digits.ensures c.if-power-gt-MOST_POWER.true (omega arith)

pub product-requires : goal.product-requires
unfolding Splits
product-requires c = record { digits_fit = c.in_ok-digits.ensures.small; scale_fits = omega arith }

pub returns : goal.returns
unfolding Splits
returns c =
    let a = c.args in
    let p = c.in_ok-digits.field-0 in
    ap (λ (t : Ticks). Some t) c.ticks_at.ensures
    ∙ ap (λ (n : ℕ). Some (ticks_at n)) (c.lowered.ensures ∙ ap (λ (n : ℕ). n / 2 ^ (1086 - p.power)) c.product.ensures)
    ∙ ticks_lowered a.x a.scale p c.in_ok-digits.ensures c.if-power-gt-MOST_POWER.false
