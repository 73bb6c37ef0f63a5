-- `walk_index::read_ids` meets its contract, by those of `read_field`, `differs`, `stop_at` and `read_times`, and by the laws of a reference ID and a timescale.
use mathlib.Core.Path.{refl, ap, sym, ◌∙◌}
use native.Mathlib.Omega.{arith}
use borrow.Author.Tests.{eq-eqb, ne_eqb}
use Rattle.fields.proofs.Answers.{field_in, handed, needed, wanting}
use Rattle.fields.specs.Onward.{halted}
use Rattle.walk_index.specs.Parts.{fields_d}
use Rattle.walk_index.specs.declared.Wanted.{Wanted}
use Rattle.walk_index.proofs.Numbers.{no_id_there, past_id, read_in, read_out, id_other, id_read, scale_none, scale_other, scale_read}
use Rattle.walk_index.proofs.read_ids.Goals as goal

-- the bytes end
pub returns-in_err-id : goal.returns-in_err-id
unfolding fields_d halted
returns-in_err-id c =
    rw (handed c.from_residual.ensures.1, (wanting c.ok_or.ensures.value c.in_err-id.was).1)
    (λ p base f i hp hn there here. sym (no_id_there _ _ _ _ _ _ _ _ (wanting c.ok_or.ensures.value c.in_err-id.was).0 here c.read_field.ensures.0 there), tt)

-- another reference ID
pub returns-then-differs : goal.returns-then-differs
unfolding fields_d halted
returns-then-differs c =
    let a = c.args in
    let whole = field_in a.bytes.now a.at 4 _ _ (sym c.read_field.ensures.0 ∙ (needed c.ok_or.ensures.value c.in_ok-id.was)) in
    rw c.stop_at.ensures (
      λ p base f i hp hn there here.
          sym (past_id p base _ _ _ f _ _ _ _ i (needed c.ok_or.ensures.value c.in_ok-id.was) here c.read_field.ensures.0 there
          ∙ id_other p base _ _ _ f _ _ _ (rw hp (sym c.differs.ensures ∙ c.if-differs.true))),
      (refl, omega arith, omega arith),
    )

pub read_field-requires-2 : goal.read_field-requires-2
read_field-requires-2 c =
    let a = c.args in
    let whole = field_in a.bytes.now a.at 4 _ _ (sym c.read_field.ensures.0 ∙ (needed c.ok_or.ensures.value c.in_ok-id.was)) in
    (refl, omega arith)

-- the bytes end before the timescale
pub returns-in_err-scale : goal.returns-in_err-scale
unfolding fields_d halted
returns-in_err-scale c =
    let a = c.args in
    let whole = field_in a.bytes.now a.at 4 _ _ (sym c.read_field.ensures.0 ∙ (needed c.ok_or.ensures.value c.in_ok-id.was)) in
    rw (handed c.from_residual-in_err-scale.ensures.1, (wanting c.ok_or-2.ensures.value c.in_err-scale.was).1) (
      λ p base f i hp hn there here.
          sym (past_id p base _ _ _ f _ _ _ _ i (needed c.ok_or.ensures.value c.in_ok-id.was) here c.read_field.ensures.0 there
          ∙ id_read p base _ _ _ f _ _ _ (rw hp (sym c.differs.ensures ∙ c.if-differs.false))
          ∙ read_out base _ f _ _ _ c.read_field-2.ensures.0 whole.inside (wanting c.ok_or-2.ensures.value c.in_err-scale.was).0),
      tt,
    )

-- timescale 0
pub returns-then-scale-eq0 : goal.returns-then-scale-eq0
unfolding fields_d halted
returns-then-scale-eq0 c =
    let a = c.args in
    let whole = field_in a.bytes.now a.at 4 _ _ (sym c.read_field.ensures.0 ∙ (needed c.ok_or.ensures.value c.in_ok-id.was)) in
    let whole2 = field_in a.bytes.now _ 4 _ _ (sym c.read_field-2.ensures.0 ∙ (needed c.ok_or-2.ensures.value c.in_ok-scale.was)) in
    rw c.stop_at-then-scale-eq0.ensures (
      λ p base f i hp hn there here.
          sym (past_id p base _ _ _ f _ _ _ _ i (needed c.ok_or.ensures.value c.in_ok-id.was) here c.read_field.ensures.0 there
          ∙ id_read p base _ _ _ f _ _ _ (rw hp (sym c.differs.ensures ∙ c.if-differs.false))
          ∙ read_in base _ f _ _ _ c.read_field-2.ensures.0 whole.inside (needed c.ok_or-2.ensures.value c.in_ok-scale.was)
          ∙ scale_none p base _ _ _ f _ _ _ (eq-eqb _ _ c.if-scale-eq0.true)),
      (refl, omega arith, omega arith),
    )

-- another timescale
pub returns-then-differs-2 : goal.returns-then-differs-2
unfolding fields_d halted
returns-then-differs-2 c =
    let a = c.args in
    let whole = field_in a.bytes.now a.at 4 _ _ (sym c.read_field.ensures.0 ∙ (needed c.ok_or.ensures.value c.in_ok-id.was)) in
    let whole2 = field_in a.bytes.now _ 4 _ _ (sym c.read_field-2.ensures.0 ∙ (needed c.ok_or-2.ensures.value c.in_ok-scale.was)) in
    rw c.stop_at-then-differs-2.ensures (
      λ p base f i hp hn there here.
          sym (past_id p base _ _ _ f _ _ _ _ i (needed c.ok_or.ensures.value c.in_ok-id.was) here c.read_field.ensures.0 there
          ∙ id_read p base _ _ _ f _ _ _ (rw hp (sym c.differs.ensures ∙ c.if-differs.false))
          ∙ read_in base _ f _ _ _ c.read_field-2.ensures.0 whole.inside (needed c.ok_or-2.ensures.value c.in_ok-scale.was)
          ∙ scale_other p base _ _ _ f _ _ _ (ne_eqb _ _ c.if-scale-eq0.false) (rw hp (sym c.differs-2.ensures ∙ c.if-differs-2.true))),
      (refl, omega arith, omega arith),
    )

pub read_times-requires : goal.read_times-requires
read_times-requires c =
    let a = c.args in
    let whole = field_in a.bytes.now a.at 4 _ _ (sym c.read_field.ensures.0 ∙ (needed c.ok_or.ensures.value c.in_ok-id.was)) in
    let whole2 = field_in a.bytes.now _ 4 _ _ (sym c.read_field-2.ensures.0 ∙ (needed c.ok_or-2.ensures.value c.in_ok-scale.was)) in
    (omega arith, c.requires.1, c.requires.2, whole2.inside)

pub returns : goal.returns
unfolding fields_d halted
returns c =
    let a = c.args in
    let whole = field_in a.bytes.now a.at 4 _ _ (sym c.read_field.ensures.0 ∙ (needed c.ok_or.ensures.value c.in_ok-id.was)) in (
      λ p base f i hp hn there here.
          c.read_times.ensures.0 p base f (ap (λ (w : Wanted). w.inner) hp) hn
          ∙ sym (past_id p base _ _ _ f _ _ _ _ i (needed c.ok_or.ensures.value c.in_ok-id.was) here c.read_field.ensures.0 there
          ∙ id_read p base _ _ _ f _ _ _ (rw hp (sym c.differs.ensures ∙ c.if-differs.false))
          ∙ read_in base _ f _ _ _ c.read_field-2.ensures.0 whole.inside (needed c.ok_or-2.ensures.value c.in_ok-scale.was)
          ∙ scale_read p base _ _ _ f _ _ _ (ne_eqb _ _ c.if-scale-eq0.false) (rw hp (sym c.differs-2.ensures ∙ c.if-differs-2.false))),
      c.read_times.ensures.1,
    )
