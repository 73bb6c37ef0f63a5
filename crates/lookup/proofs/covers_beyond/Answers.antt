-- `lookup::covers_beyond` meets its contract, by the laws `past_end` and `beyond_room`.
use Prim.Native.Nat.{◌+◌, ◌^◌}
use mathlib.Core.Path.{refl, sym, ◌∙◌}
use native.Mathlib.Omega.{arith}
use borrow.Author.Tests.{le-ltb}
use Rattle.lookup.specs.Spots.{record_from}
use Rattle.lookup.proofs.Passing.{past_end, beyond_room}
use Rattle.lookup.proofs.covers_beyond.Goals as goal

-- a start has 64 bits
pub overflow_sub-room : goal.overflow_sub-room
overflow_sub-room c = omega (arith, (c.type_inv.table (c.args.at + 2)).fits)

pub returns-then-room-duration : goal.returns-then-room-duration
returns-then-room-duration c =
    let a = c.args in
    sym (beyond_room (record_from a.table.now a.at) a.t _ (c.type_inv.table (a.at + 2)).fits refl c.if-room-duration.true)

pub returns-else-room-duration : goal.returns-else-room-duration
returns-else-room-duration c =
    let a = c.args in
    let small = (c.type_inv.table (a.at + 2)).fits in
    le-ltb _ _ c.if-room-duration.false ∙ sym (past_end (record_from a.table.now a.at) (2 ^ 64 + a.t) (omega arith) (omega arith))
