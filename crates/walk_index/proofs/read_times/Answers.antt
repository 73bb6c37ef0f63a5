-- `walk_index::read_times` meets its contract, by those of `read_sized`, `differs`, `stop_at` and `read_count`, and by the laws of a start time and a first offset.
use Prim.Native.Nat.{suc}
use mathlib.Core.Path.{refl, sym, ◌∙◌}
use native.Mathlib.Omega.{arith}
use Rattle.state.specs.Sidx.{wide_more}
use Rattle.fields.proofs.Answers.{field_in, handed, needed, wanting}
use Rattle.fields.specs.Onward.{halted}
use Rattle.walk_index.specs.Parts.{fields_d}
use Rattle.walk_index.proofs.Numbers.{read_in, read_out, time_other, time_read, offset_other, offset_read, sized_in, wide_most}
use Rattle.walk_index.proofs.read_times.Goals as goal

-- the bytes end
pub returns-in_err-time : goal.returns-in_err-time
unfolding fields_d halted
returns-in_err-time c =
    rw (handed c.from_residual.ensures.1, (wanting c.ok_or.ensures.value c.in_err-time.was).1)
    (λ p base f hp hn. sym (read_out base _ f _ _ _ (sized_in _ _ c.args.big c.read_sized.ensures) c.requires.3 (wanting c.ok_or.ensures.value c.in_err-time.was).0), tt)

-- another start time
pub returns-then-differs : goal.returns-then-differs
unfolding fields_d halted
returns-then-differs c =
    let a = c.args in
    let whole = field_in a.bytes.now a.at (suc (wide_more a.big)) _ _ (sym (sized_in _ _ c.args.big c.read_sized.ensures) ∙ (needed c.ok_or.ensures.value c.in_ok-time.was)) in
    let few = wide_most a.big in
    rw c.stop_at.ensures (
      λ p base f hp hn.
          sym (read_in base _ f _ _ _ (sized_in _ _ c.args.big c.read_sized.ensures) c.requires.3 (needed c.ok_or.ensures.value c.in_ok-time.was)
          ∙ time_other p base _ _ _ f _ _ _ (rw (hp, hn) (sym c.differs.ensures ∙ c.if-differs.true))),
      (refl, omega arith, omega arith),
    )

pub read_sized-requires-2 : goal.read_sized-requires-2
read_sized-requires-2 c =
    let a = c.args in
    let whole = field_in a.bytes.now a.at (suc (wide_more a.big)) _ _ (sym (sized_in _ _ c.args.big c.read_sized.ensures) ∙ (needed c.ok_or.ensures.value c.in_ok-time.was)) in
    let few = wide_most a.big in
    omega arith

-- the bytes end before the first offset
pub returns-in_err-offset : goal.returns-in_err-offset
unfolding fields_d halted
returns-in_err-offset c =
    let a = c.args in
    let whole = field_in a.bytes.now a.at (suc (wide_more a.big)) _ _ (sym (sized_in _ _ c.args.big c.read_sized.ensures) ∙ (needed c.ok_or.ensures.value c.in_ok-time.was)) in
    rw (handed c.from_residual-in_err-offset.ensures.1, (wanting c.ok_or-2.ensures.value c.in_err-offset.was).1) (
      λ p base f hp hn.
          sym (read_in base _ f _ _ _ (sized_in _ _ c.args.big c.read_sized.ensures) c.requires.3 (needed c.ok_or.ensures.value c.in_ok-time.was)
          ∙ time_read p base _ _ _ f _ _ _ (rw (hp, hn) (sym c.differs.ensures ∙ c.if-differs.false))
          ∙ read_out base _ f _ _ _ (sized_in _ _ c.args.big c.read_sized-2.ensures) whole.inside (wanting c.ok_or-2.ensures.value c.in_err-offset.was).0),
      tt,
    )

-- a first offset that is not 0
pub returns-then-differs-2 : goal.returns-then-differs-2
unfolding fields_d halted
returns-then-differs-2 c =
    let a = c.args in
    let whole = field_in a.bytes.now a.at (suc (wide_more a.big)) _ _ (sym (sized_in _ _ c.args.big c.read_sized.ensures) ∙ (needed c.ok_or.ensures.value c.in_ok-time.was)) in
    let whole2 = field_in a.bytes.now _ (suc (wide_more a.big)) _ _ (sym (sized_in _ _ c.args.big c.read_sized-2.ensures) ∙ (needed c.ok_or-2.ensures.value c.in_ok-offset.was)) in
    let few = wide_most a.big in
    rw c.stop_at-then-differs-2.ensures (
      λ p base f hp hn.
          sym (read_in base _ f _ _ _ (sized_in _ _ c.args.big c.read_sized.ensures) c.requires.3 (needed c.ok_or.ensures.value c.in_ok-time.was)
          ∙ time_read p base _ _ _ f _ _ _ (rw (hp, hn) (sym c.differs.ensures ∙ c.if-differs.false))
          ∙ read_in base _ f _ _ _ (sized_in _ _ c.args.big c.read_sized-2.ensures) whole.inside (needed c.ok_or-2.ensures.value c.in_ok-offset.was)
          ∙ offset_other p base _ _ _ f _ _ _ (rw hp (sym c.differs-2.ensures ∙ c.if-differs-2.true))),
      (refl, omega arith, omega arith),
    )

pub overflow_add-last : goal.overflow_add-last
overflow_add-last c =
    let a = c.args in
    let whole = field_in a.bytes.now a.at (suc (wide_more a.big)) _ _ (sym (sized_in _ _ c.args.big c.read_sized.ensures) ∙ (needed c.ok_or.ensures.value c.in_ok-time.was)) in
    let whole2 = field_in a.bytes.now _ (suc (wide_more a.big)) _ _ (sym (sized_in _ _ c.args.big c.read_sized-2.ensures) ∙ (needed c.ok_or-2.ensures.value c.in_ok-offset.was)) in
    let few = wide_most a.big in
    omega arith

pub read_count-requires : goal.read_count-requires
read_count-requires c =
    let a = c.args in
    let whole = field_in a.bytes.now a.at (suc (wide_more a.big)) _ _ (sym (sized_in _ _ c.args.big c.read_sized.ensures) ∙ (needed c.ok_or.ensures.value c.in_ok-time.was)) in
    let whole2 = field_in a.bytes.now _ (suc (wide_more a.big)) _ _ (sym (sized_in _ _ c.args.big c.read_sized-2.ensures) ∙ (needed c.ok_or-2.ensures.value c.in_ok-offset.was)) in
    let few = wide_most a.big in
    (omega arith, c.requires.1, c.requires.2)

pub returns : goal.returns
unfolding fields_d halted
returns c =
    let a = c.args in
    let whole = field_in a.bytes.now a.at (suc (wide_more a.big)) _ _ (sym (sized_in _ _ c.args.big c.read_sized.ensures) ∙ (needed c.ok_or.ensures.value c.in_ok-time.was)) in
    let whole2 = field_in a.bytes.now _ (suc (wide_more a.big)) _ _ (sym (sized_in _ _ c.args.big c.read_sized-2.ensures) ∙ (needed c.ok_or-2.ensures.value c.in_ok-offset.was)) in (
      λ p base f hp hn.
          c.read_count.ensures.0 p a.big base f _ refl whole2.inside
          ∙ sym (read_in base _ f _ _ _ (sized_in _ _ c.args.big c.read_sized.ensures) c.requires.3 (needed c.ok_or.ensures.value c.in_ok-time.was)
          ∙ time_read p base _ _ _ f _ _ _ (rw (hp, hn) (sym c.differs.ensures ∙ c.if-differs.false))
          ∙ read_in base _ f _ _ _ (sized_in _ _ c.args.big c.read_sized-2.ensures) whole.inside (needed c.ok_or-2.ensures.value c.in_ok-offset.was)
          ∙ offset_read p base _ _ _ f _ _ _ (rw hp (sym c.differs-2.ensures ∙ c.if-differs-2.false))),
      c.read_count.ensures.1,
    )
