-- `byte::state_byte` meets its contract, by those of `reading_byte` and `byte_after`, and by the laws `one_kept`, `fed_as`, `refused_stays`,
-- `accepted_stays` and `ended_count`.
use mathlib.Core.Path.{subst}
use native.Mathlib.Omega.{arith}
use Rattle.state.specs.Ranges.{InRange}
use Rattle.byte.proofs.Laws.{one_kept, fed_as, refused_stays, accepted_stays, ended_count}
use Rattle.byte.proofs.state_byte.Goals as goal

pub reading_byte-requires : goal.reading_byte-requires
reading_byte-requires c =
    let asked = c.requires in
    (asked.0, subst InRange c.in-Reading.is asked.1)

pub byte_after-requires : goal.byte_after-requires
byte_after-requires c =
    let asked = c.requires in
    ended_count c.in-Ended.count c.in-Ended.leaves c.in-Ended.top (subst InRange c.in-Ended.is asked.1)

pub returns-in-Reading : goal.returns-in-Reading
returns-in-Reading c =
    let a = c.args in
    let e = fed_as a.s _ _ _ _ _ c.in-Reading.is c.reading_byte.ensures in (e, one_kept a.s _ a.b _ _ _ _ (omega arith) c.requires.1 e)

pub returns-in-Ended : goal.returns-in-Ended
returns-in-Ended c =
    let a = c.args in
    let e = fed_as a.s _ _ _ _ _ c.in-Ended.is (c.byte_after.ensures _ _) in (e, one_kept a.s _ a.b _ _ _ _ (omega arith) c.requires.1 e)

pub returns-in-Refused : goal.returns-in-Refused
returns-in-Refused c =
    let a = c.args in
    let e = refused_stays a.s _ _ _ _ _ _ c.in-Refused.is in (e, one_kept a.s _ a.b _ _ _ _ (omega arith) c.requires.1 e)

pub returns-in-Accepted : goal.returns-in-Accepted
returns-in-Accepted c =
    let a = c.args in
    let e = accepted_stays a.s _ _ _ _ _ _ c.in-Accepted.is in (e, one_kept a.s _ a.b _ _ _ _ (omega arith) c.requires.1 e)
