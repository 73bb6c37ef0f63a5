-- A byte is stored where the number at hand has its next byte, if its bytes are stored.
use native.Mathlib.Omega.{arith}
use Rattle.byte.proofs.Laws.{byte_unstored, byte_stored, byte_fits}
use Rattle.byte.proofs.store_byte.Goals as goal

pub bounds-work-i : goal.bounds-work-i
bounds-work-i c =
    let x = c.stage_number in
    omega (arith, c.requires.0, byte_fits c.args.s x.result x.ensures c.args.at _ c.in-Some.is c.requires.1)

pub returns-in-Some : goal.returns-in-Some
returns-in-Some c =
    let a = c.args in
    let x = c.stage_number in
    byte_stored a.s x.result x.ensures a.b _ a.work.now c.in-Some.is

pub returns-in_default : goal.returns-in_default
returns-in_default c =
    let a = c.args in
    let x = c.stage_number in
    byte_unstored a.s x.result x.ensures a.b a.work.now c.in_default.is
