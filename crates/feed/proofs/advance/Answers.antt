-- `feed::advance` meets its contract, by those of `passing_now`, `spell_on`, `state_byte` and `pass`, and by the laws `spelled_there`,
-- `number_and_byte`, `passed_most`, `passed_fits` and `passed_taken`.
use native.Mathlib.Omega.{arith}
use Rattle.feed.proofs.Laws.{spelled_there, number_and_byte, passed_most, passed_fits, passed_taken}
use Rattle.feed.proofs.advance.Goals as goal

pub bounds-piece-at : goal.bounds-piece-at
bounds-piece-at c =
    let a = c.args in
    (spelled_there a.piece.now a.s a.i a.work.now _ _ _ c.requires.2 c.spell_on-state.ensures.0).1

pub overflow_add-result : goal.overflow_add-result
overflow_add-result c =
    let a = c.args in
    omega (arith, (spelled_there a.piece.now a.s a.i a.work.now _ _ _ c.requires.2 c.spell_on-state.ensures.0).1)

pub returns-then-k-eq0 : goal.returns-then-k-eq0
returns-then-k-eq0 c =
    let a = c.args in
    number_and_byte a.piece.now a.s a.i a.work.now _ _ _ c.requires.2 c.spell_on-state.ensures.0 a.table.now _ _ _ c.requires.1
    c.state_byte.ensures.1 c.state_byte.ensures.0

pub pass-requires : goal.pass-requires
pass-requires c =
    let a = c.args in
    passed_fits a.piece.now a.s a.i _ c.requires.1 c.passing_now-k.ensures

pub overflow_add-result-2 : goal.overflow_add-result-2
overflow_add-result-2 c =
    let a = c.args in
    omega (arith, c.requires.2, passed_most a.piece.now a.s a.i _ c.passing_now-k.ensures)

pub returns : goal.returns
returns c =
    let a = c.args in
    passed_taken a.piece.now a.s a.i _ _ c.passing_now-k.result c.pass.result c.requires.2 c.requires.1 (omega (arith, c.if-k-eq0.false))
    c.passing_now-k.ensures c.pass.ensures
