-- `spelling::spell_bytes` meets its contract, by that of `spelled`, and by the laws `spelled_small`, `spells_next` and `spells_last`.
use native.Mathlib.Omega.{arith}
use Rattle.header.proofs.Steps.{spelled_small}
use Rattle.spelling.proofs.Loops.{spells_next, spells_last}
use Rattle.spelling.proofs.spell_bytes.Goals as goal

pub spelled-r-requires : goal.spelled-r-requires
spelled-r-requires c = spelled_small 7 _ _ (omega arith) c.loop-b.invariant.0

pub loop-b-preserved : goal.loop-b-preserved
loop-b-preserved c =
    let a = c.args in
    let l = c.loop-b in
    let byte = c.type_inv.bytes l.b-index in
    spells_next a.bytes.now a.acc l.b-index l.r _ c.loop-b-test.true (omega (arith, byte)) c.spelled-r.ensures l.invariant

pub returns : goal.returns
returns c =
    let a = c.args in
    let l = c.loop-b in
    spells_last a.bytes.now a.acc l.b-index l.r (omega (arith, c.loop-b-test.false)) l.invariant
