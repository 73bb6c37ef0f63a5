-- `mazurlot::mazurlot_whole` meets its contract, by those of `brand_bytes`, `whole_ending` and `say_ending`.
use Rattle.std.specs.Prelude.{ℕ, Result}
use Prim.Native.Nat.{ℕ}
use mathlib.Core.Path.{sym, ap, ◌∙◌}
use borrow.Author.Tests.{lt-ltb, le-ltb, eq-eqb, ne_eqb}
use Rattle.basics.specs.Choose.{pick}
use Rattle.machine.specs.declared.Refusal.{Refusal}
use Rattle.state.specs.Calls.{Out, whole_of}
use Rattle.whole.specs.Views.{ending_out}
use Rattle.mazurlot.specs.Calls.{read, whole_call}
use Rattle.mazurlot.proofs.mazurlot_whole.Goals as goal

pub returns-then-answer-lt-ONE_VALUE : goal.returns-then-answer-lt-ONE_VALUE
unfolding whole_call pick
returns-then-answer-lt-ONE_VALUE c = rw (lt-ltb _ _ c.if-answer-lt-ONE_VALUE.true)

pub returns-then-state-ne-STATE_NUMBERS : goal.returns-then-state-ne-STATE_NUMBERS
unfolding whole_call pick
returns-then-state-ne-STATE_NUMBERS c = rw (le-ltb _ _ c.if-answer-lt-ONE_VALUE.false, ne_eqb _ _ c.if-state-ne-STATE_NUMBERS.true)

pub returns : goal.returns
unfolding whole_call pick
returns c =
    let args = c.args in
    let named = c.brand_bytes.ensures in
    rw (le-ltb _ _ c.if-answer-lt-ONE_VALUE.false, eq-eqb _ _ c.if-state-ne-STATE_NUMBERS.false)
    (c.say_ending.ensures c.whole_ending-ending.new.work c.whole_ending-ending.new.table
    ∙ ap (λ (o : Out (Result ℕ Refusal)). read o args.answer.now)
    (ap (λ (b : ℕ). ending_out b c.whole_ending-ending.new.work c.whole_ending-ending.new.table c.whole_ending-ending.result) (sym named)
    ∙ c.whole_ending-ending.ensures
    ∙ ap (λ (b : ℕ). whole_of b args.segment.now args.work.now args.table.now) named))
