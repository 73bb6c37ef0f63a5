-- `whole::outcome` meets its contract, by those of `too_long` and `refused`, and by the laws of what a reading comes to.
use Prim.Native.Nat.{ℕ, ◌≤◌, ◌<◌}
use mathlib.Core.Path.{◌≡◌, sym, subst, ap, ◌∙◌}
use native.Mathlib.Omega.{arith}
use lib.ListN.{length, take}
use Rattle.std.specs.Prelude.{Err}
use Rattle.segment.specs.Constants.{limit}
use Rattle.walk_entries.specs.declared.Broken.{Broken}
use Rattle.whole.specs.Views.{SegmentRead, WithinBytes, WithinLimit, too_long, ending_out}
use Rattle.whole.proofs.Laws.{comes_accepted, comes_longer, comes_refused, comes_short, comes_past, least_less, Comes}
use Rattle.whole.proofs.outcome.Goals as goal

broken_off : {r : SegmentRead} {x y : Broken} → r ≡ Err x → x ≡ y → r ≡ Err y
broken_off e is = e ∙ ap (λ (z : Broken). Err z) is

pub too_long-requires : goal.too_long-requires
too_long-requires c = subst WithinLimit c.in-Ok.is c.requires.1

pub returns-then-reached-len : goal.returns-then-reached-len
returns-then-reached-len c brand bytes work table all most within =
    let is = c.in-Ok.is in
    c.too_long.ensures brand work table
    ∙ comes_longer bytes work table _ _ (subst (WithinBytes (take limit bytes)) is within) (omega (arith, c.if-reached-len.true, all))
    ∙ ap (Comes bytes work table) (sym is)

pub returns-then-most-len : goal.returns-then-most-len
returns-then-most-len c brand bytes work table all most within =
    let is = broken_off c.in-Err-Ended.is (rw c.in-Err-Ended.is at c.in-Err-Ended.field-0-is) in
    let more : c.args.most < length bytes = omega (arith, c.if-most-len.true, all) in
    let past = least_less limit (length bytes) _ most more in
    c.too_long-then-most-len.ensures brand work table
    ∙ ap (λ (n : ℕ). too_long n c.in-Err-Ended.leaves work table) past.0
    ∙ comes_past bytes work table _ past.1
    ∙ ap (Comes bytes work table) (sym is)

pub returns-else-reached-len : goal.returns-else-reached-len
unfolding ending_out
returns-else-reached-len c brand bytes work table all most within =
    let is = c.in-Ok.is in
    comes_accepted bytes work table _ _ (subst (WithinBytes (take limit bytes)) is within) (omega (arith, c.if-reached-len.false, all)) ∙ ap (Comes bytes work table) (sym is)

pub returns-in-Err-Bad : goal.returns-in-Err-Bad
unfolding ending_out
returns-in-Err-Bad c brand bytes work table all most within =
    let is = broken_off c.in-Err-Bad.is (rw c.in-Err-Bad.is at c.in-Err-Bad.field-0-is) in
    ap (ending_out brand work table) c.refused.ensures ∙ comes_refused bytes work table _ ∙ ap (Comes bytes work table) (sym is)

pub returns-else-most-len : goal.returns-else-most-len
unfolding ending_out
returns-else-most-len c brand bytes work table all most within =
    let is = broken_off c.in-Err-Ended.is (rw c.in-Err-Ended.is at c.in-Err-Ended.field-0-is) in
    let few : length bytes ≤ limit = omega (arith, c.if-most-len.false, all, c.requires.0) in
    ap (ending_out brand work table) c.refused-in-Err-Ended.ensures ∙ rw (← all) (comes_short bytes work table _ few ∙ ap (Comes bytes work table) (sym is))
