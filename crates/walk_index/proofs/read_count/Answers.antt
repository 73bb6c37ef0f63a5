-- `walk_index::read_count` meets its contract, by those of `read_field`, `no_count` and `stop_at`, and by the laws of a count.
use mathlib.Core.Path.{refl, sym, ◌∙◌}
use native.Mathlib.Omega.{arith}
use Rattle.fields.proofs.Answers.{field_in, field_small, handed, needed, wanting}
use Rattle.fields.specs.Onward.{halted}
use Rattle.walk_index.specs.Parts.{fields_d}
use Rattle.walk_index.proofs.Numbers.{no_count_there, past_count, count_long, count_wrong, count_read, right_count}
use Rattle.walk_index.proofs.read_count.Goals as goal

-- the bytes end
pub returns-in_err-count : goal.returns-in_err-count
unfolding fields_d halted
returns-in_err-count c =
    rw (handed c.from_residual.ensures.1, (wanting c.ok_or.ensures.value c.in_err-count.was).1)
    (λ p wide base f a there here. sym (no_count_there _ _ _ _ _ _ _ _ (wanting c.ok_or.ensures.value c.in_err-count.was).0 here c.read_field.ensures.0 there), tt)

pub overflow_mul-count : goal.overflow_mul-count
overflow_mul-count c = omega (arith, field_small 2 (needed c.ok_or.ensures.value c.in_ok-count.was) c.read_field.ensures.1)

pub overflow_add-next : goal.overflow_add-next
overflow_add-next c =
    let a = c.args in
    let whole = field_in a.bytes.now a.at 2 _ _ (sym c.read_field.ensures.0 ∙ (needed c.ok_or.ensures.value c.in_ok-count.was)) in
    omega (arith, field_small 2 (needed c.ok_or.ensures.value c.in_ok-count.was) c.read_field.ensures.1)

-- the entries do not end the box
pub returns-then-end-next : goal.returns-then-end-next
unfolding fields_d halted
returns-then-end-next c =
    let a = c.args in
    let whole = field_in a.bytes.now a.at 2 _ _ (sym c.read_field.ensures.0 ∙ (needed c.ok_or.ensures.value c.in_ok-count.was)) in
    rw c.stop_at.ensures (
      λ p wide base f i there here.
          sym (past_count p base _ _ _ f _ _ _ _ i (needed c.ok_or.ensures.value c.in_ok-count.was) here c.read_field.ensures.0 there ∙ count_long p base _ _ _ f _ _ _ c.if-end-next.true),
      (refl, omega arith, omega arith),
    )

-- none, or too many
pub returns-then-no_count : goal.returns-then-no_count
unfolding fields_d halted
returns-then-no_count c =
    let a = c.args in
    let whole = field_in a.bytes.now a.at 2 _ _ (sym c.read_field.ensures.0 ∙ (needed c.ok_or.ensures.value c.in_ok-count.was)) in
    rw c.stop_at-then-no_count.ensures (
      λ p wide base f i there here.
          sym (past_count p base _ _ _ f _ _ _ _ i (needed c.ok_or.ensures.value c.in_ok-count.was) here c.read_field.ensures.0 there
          ∙ count_wrong p base _ _ _ f _ _ _ c.if-end-next.false (sym c.no_count.ensures ∙ c.if-no_count.true)),
      (refl, omega arith, omega arith),
    )

pub returns : goal.returns
unfolding fields_d halted
returns c =
    let a = c.args in
    let some = sym c.no_count.ensures ∙ c.if-no_count.false in
    let whole = field_in a.bytes.now a.at 2 _ _ (sym c.read_field.ensures.0 ∙ (needed c.ok_or.ensures.value c.in_ok-count.was)) in (
      λ p wide base f i there here.
          sym (past_count p base _ _ _ f _ _ _ _ i (needed c.ok_or.ensures.value c.in_ok-count.was) here c.read_field.ensures.0 there ∙ count_read p base _ _ _ f _ _ _ c.if-end-next.false some),
      ((right_count _ some).0, (right_count _ some).1, whole.inside, c.if-end-next.false),
    )
