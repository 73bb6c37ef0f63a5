-- `fields::head_at` meets its contract, by those of `stop_at`, `word_at`, `large_head` and `checked`, and by the definition of `head_at`.
use mathlib.Core.Path.{◌≡◌, sym, ◌∙◌}
use borrow.Author.Tests.{le-leb, lt-leb, lt-ltb, le-ltb, eq-eqb, ne_eqb}
use Rattle.basics.specs.Choose.{pick}
use Rattle.fields.specs.Answers.{number_at, head_at}
use Rattle.fields.proofs.head_at.Goals as goal

pub returns-then-bytes-at : goal.returns-then-bytes-at
unfolding head_at pick
returns-then-bytes-at c = rw (le-leb _ _ c.if-bytes-at.true)

pub returns-then-end-at : goal.returns-then-end-at
unfolding head_at pick
returns-then-end-at c = rw (c.stop_at.ensures, lt-leb _ _ c.if-bytes-at.false, lt-ltb _ _ c.if-end-at.true)

pub returns-then-bytes-at-2 : goal.returns-then-bytes-at-2
unfolding head_at pick
returns-then-bytes-at-2 c = rw (lt-leb _ _ c.if-bytes-at.false, le-ltb _ _ c.if-end-at.false, lt-ltb _ _ c.if-bytes-at-2.true)

pub returns-then-size-eq1 : goal.returns-then-size-eq1
unfolding head_at pick
returns-then-size-eq1 c =
    let a = c.args in
    let is : number_at 4 a.bytes.now a.at ≡ 1 = sym c.word_at-size.ensures.0 ∙ c.if-size-eq1.true in
    rw (lt-leb _ _ c.if-bytes-at.false, le-ltb _ _ c.if-end-at.false, le-ltb _ _ c.if-bytes-at-2.false, eq-eqb _ _ is, ← c.word_at-kind.ensures.0) c.large_head.ensures

pub returns : goal.returns
unfolding head_at pick
returns c = rw (
  lt-leb _ _ c.if-bytes-at.false,
  le-ltb _ _ c.if-end-at.false,
  le-ltb _ _ c.if-bytes-at-2.false,
  ← c.word_at-size.ensures.0,
  ne_eqb _ _ c.if-size-eq1.false,
  ← c.word_at-kind.ensures.0,
) c.checked.ensures
