-- `mazurlot::states::put_ended` meets its contract, by the law `both_halves`.
use native.Mathlib.Omega.{arith}
use mathlib.Core.Path.{ap, ◌∙◌}
use mathlib.Core.List.{List, ◌++◌}
use Prim.Native.Nat.{ℕ, ◌-◌}
use lib.ListN.{length, drop, replicate}
use borrow.Rule.Slice.PartMut.{mid_of, put_mid}
use Rattle.mazurlot.proofs.Cleared.{both_halves}
use Rattle.mazurlot.proofs.states.put_ended.Goals as goal

pub returns : goal.returns
returns c =
    let a = c.args in
    let put = c.copy_from_slice.ensures.after in
    let half : List ℕ = put_mid 32 (length a.numbers.now - 32) a.numbers.now c.fill.new.self in
    ap (λ (l : List ℕ). put_mid 7 25 (l ++ drop 7 half) c.fill-2.new.self) put
    ∙ both_halves a.numbers.now a.used c.fill.new.self c.requires (omega arith) (c.fill.ensures.after (λ y e. e)) c.fill-2.new.self
    (c.fill-2.ensures.after (λ y e. e) ∙ ap (λ (l : List ℕ). replicate (length (mid_of 7 25 (l ++ drop 7 half))) 0) put)
