-- `walk_index::read_fields` meets its contract, by those of `read_field`, `too_short`, `stop_at` and `read_ids`, and by the laws of a version.
use mathlib.Core.Path.{refl, sym, ◌∙◌}
use native.Mathlib.Omega.{arith}
use borrow.Author.Tests.{lt-ltb, le-ltb}
use Rattle.descent.specs.Sidx.{sidx_d}
use Rattle.fields.proofs.Answers.{field_in, handed, needed, wanting}
use Rattle.fields.specs.Onward.{halted}
use Rattle.walk_index.specs.Parts.{fields_d}
use Rattle.walk_index.proofs.Numbers.{read_in, read_out, version_short, version_other, version_read}
use Rattle.walk_index.proofs.read_fields.Goals as goal

-- the bytes end
pub returns-in_err-version : goal.returns-in_err-version
unfolding fields_d sidx_d halted
returns-in_err-version c =
    rw (handed c.from_residual.ensures.1, (wanting c.ok_or.ensures.value c.in_err-version.was).1)
    (λ p base f hp hn. sym (read_out base _ f _ _ _ c.read_field.ensures.0 c.requires.3 (wanting c.ok_or.ensures.value c.in_err-version.was).0), tt)

pub too_short-requires : goal.too_short-requires
too_short-requires c =
    let a = c.args in
    let whole = field_in a.bytes.now a.at 1 _ _ (sym c.read_field.ensures.0 ∙ (needed c.ok_or.ensures.value c.in_ok-version.was)) in
    omega arith

-- too short for 64-bit numbers
pub returns-then-too_short : goal.returns-then-too_short
unfolding fields_d sidx_d halted
returns-then-too_short c =
    let a = c.args in
    let whole = field_in a.bytes.now a.at 1 _ _ (sym c.read_field.ensures.0 ∙ (needed c.ok_or.ensures.value c.in_ok-version.was)) in
    rw c.stop_at.ensures (
      λ p base f hp hn.
          sym (read_in base _ f _ _ _ c.read_field.ensures.0 c.requires.3 (needed c.ok_or.ensures.value c.in_ok-version.was)
          ∙ version_short p base _ _ _ f _ _ (sym c.too_short.ensures ∙ c.if-too_short.true)),
      (refl, omega arith, omega arith),
    )

-- a version above 1
pub returns-then-version-gt1 : goal.returns-then-version-gt1
unfolding fields_d sidx_d halted
returns-then-version-gt1 c =
    let a = c.args in
    let whole = field_in a.bytes.now a.at 1 _ _ (sym c.read_field.ensures.0 ∙ (needed c.ok_or.ensures.value c.in_ok-version.was)) in
    rw c.stop_at-then-version-gt1.ensures (
      λ p base f hp hn.
          sym (read_in base _ f _ _ _ c.read_field.ensures.0 c.requires.3 (needed c.ok_or.ensures.value c.in_ok-version.was)
          ∙ version_other p base _ _ _ f _ _ (sym c.too_short.ensures ∙ c.if-too_short.false) (lt-ltb _ _ c.if-version-gt1.true)),
      (refl, omega arith, omega arith),
    )

pub overflow_add-next : goal.overflow_add-next
overflow_add-next c =
    let a = c.args in
    let whole = field_in a.bytes.now a.at 1 _ _ (sym c.read_field.ensures.0 ∙ (needed c.ok_or.ensures.value c.in_ok-version.was)) in
    omega arith

pub read_ids-requires : goal.read_ids-requires
read_ids-requires c =
    let a = c.args in
    let whole = field_in a.bytes.now a.at 1 _ _ (sym c.read_field.ensures.0 ∙ (needed c.ok_or.ensures.value c.in_ok-version.was)) in
    (omega arith, c.requires.2, omega arith)

pub returns : goal.returns
unfolding sidx_d
returns c =
    let a = c.args in
    let whole = field_in a.bytes.now a.at 1 _ _ (sym c.read_field.ensures.0 ∙ (needed c.ok_or.ensures.value c.in_ok-version.was)) in (
      λ p base f hp hn.
          rw (← whole.value) (c.read_ids.ensures.0 p base f _ hp hn refl whole.inside
          ∙ sym (read_in base _ f _ _ _ c.read_field.ensures.0 c.requires.3 (needed c.ok_or.ensures.value c.in_ok-version.was)
          ∙ version_read p base _ _ _ f _ _ (sym c.too_short.ensures ∙ c.if-too_short.false) (le-ltb _ _ c.if-version-gt1.false))),
      c.read_ids.ensures.1,
    )
