-- `spelling::spell_on` meets its contract, by those of `stage_number`, `taken_together` and `stage_on`, and by the laws `others_stay`, `stage_inside`,
-- `count_inside`, `count_fits`, `place_fits`, `number_fits`, `nothing_taken`, `number_taken_on` and `then_inside`.
use borrow.Enum.Refused.{opened}
use Prim.Native.Nat.{ℕ}
use mathlib.Core.Path.{refl}
use native.Mathlib.Omega.{arith}
use Rattle.spelling.proofs.Laws.{others_stay, stage_inside, count_inside, count_fits, place_fits, number_fits, nothing_taken, number_taken_on, then_inside}
use Rattle.spelling.proofs.spell_on.Goals as goal

pub returns-in_default : goal.returns-in_default
returns-in_default c = let a = c.args in (others_stay a.s a.piece.now a.i a.work.now (opened c.in_default.in_default-own.keys2), c.requires.1)

pub stage_number-x-requires : goal.stage_number-x-requires
stage_number-x-requires c = stage_inside c.in-Reading.is c.requires.1

pub taken_together-k-requires : goal.taken_together-k-requires
taken_together-k-requires c = count_inside c.in-Reading.is c.requires.1

pub returns-then-k-eq0 : goal.returns-then-k-eq0
returns-then-k-eq0 c =
    let a = c.args in
    nothing_taken c.in-Reading.is c.requires.1 a.piece.now a.i a.work.now c.stage_number-x.ensures c.taken_together-k.ensures c.if-k-eq0.true

pub overflow_add-on : goal.overflow_add-on
overflow_add-on c =
    let a = c.args in
    omega (arith, place_fits c.in-Reading.is c.requires.1 a.piece.now a.i a.work.now c.stage_number-x.ensures c.taken_together-k.ensures c.requires.2)

pub slice_bounds-stage_on-end : goal.slice_bounds-stage_on-end
slice_bounds-stage_on-end c =
    let a = c.args in
    omega (arith, place_fits c.in-Reading.is c.requires.1 a.piece.now a.i a.work.now c.stage_number-x.ensures c.taken_together-k.ensures c.requires.2)

pub stage_on-next-requires : goal.stage_on-next-requires
stage_on-next-requires c =
    let a = c.args in
    number_fits c.in-Reading.is c.requires.1 a.piece.now a.i a.work.now c.stage_number-x.ensures c.taken_together-k.ensures
    _ refl c.requires.2 c.requires.0

pub overflow_add-result : goal.overflow_add-result
overflow_add-result c =
    let a = c.args in
    omega (arith, count_fits c.in-Reading.is c.requires.1 a.piece.now a.i a.work.now c.stage_number-x.ensures c.taken_together-k.ensures)

pub returns : goal.returns
returns c =
    let a = c.args in
    then_inside a.s _ a.piece.now a.i _ a.work.now _ c.requires.1 c.requires.2
    (λ (m : ℕ). omega (arith, c.type_inv.piece m))
    (number_taken_on c.in-Reading.is c.requires.1 a.piece.now a.i a.work.now c.stage_number-x.ensures c.taken_together-k.ensures
    _ refl c.requires.2 _ _ c.stage_on-next.ensures)
