-- `walk_entries::leaf_entry` meets its contract, by those of `no_room`, `full_leaf`, `leaf_walk` and `put_record`, and by the laws of a leaf entry.
use Prim.Native.Nat.{ℕ, ◌+◌, ◌-◌}
use mathlib.Core.Path.{◌≡◌, refl, ap, sym, ◌∙◌}
use mathlib.Core.Bool.{true, false}
use native.Mathlib.Omega.{arith}
use lib.ListN.{length}
use mathlib.Core.List.{List}
use Rattle.std.specs.Prelude.{Ok}
use Rattle.basics.proofs.Put.{put_length}
use Rattle.state.specs.Rows.{no_room}
use Rattle.records.proofs.Laws.{room_for, room_few}
use Rattle.walk_entries.specs.Views.{Went, went_d}
use Rattle.walk_entries.proofs.Laws.{leaf_read, leaf_on, leaf_off, leaf_low, leaf_halt, leaf_there}
use Rattle.walk_entries.proofs.leaf_entry.Goals as goal

pub placed-requires : goal.placed-requires
placed-requires c =
    let a = c.args in
    let asks = c.requires in
    let stands = asks.stands in
    (omega arith, leaf_low (a.slot.end - a.base) c.full_leaf.result (omega arith) (c.full_leaf.ensures 0 a.so.last).fixed)

pub returns-then-no_room : goal.returns-then-no_room
returns-then-no_room c top depth inner work is =
    let a = c.args in
    let walk = c.full_leaf.ensures a.id a.so.last in
    let full : no_room a.so.leaves a.table.now ≡ true = sym (c.no_room.ensures a.table.now refl) ∙ c.if-no_room.true in
    let read = leaf_read a.base a.bytes.now a.so a.slot c.requires true a.id _ _ _ walk refl refl work a.table.now full top is in
    rw c.placed.ensures (record {
      right = leaf_off a.base a.bytes.now a.so work a.table.now a.slot inner top depth _ _ _ _ read _ refl;
      work_long = refl;
      table_long = refl;
      stands = tt;
    })

pub placed-requires-in-Err : goal.placed-requires-in-Err
placed-requires-in-Err c =
    let a = c.args in
    let asks = c.requires in
    let stands = asks.stands in
    (omega arith, leaf_low (a.slot.end - a.base) _ (omega arith) (leaf_halt a.bytes.now _ c.in-Err.is c.leaf_walk.ensures.fixed))

pub returns-in-Err : goal.returns-in-Err
returns-in-Err c top depth inner work is =
    let a = c.args in
    let roomy : no_room a.so.leaves a.table.now ≡ false = sym (c.no_room.ensures a.table.now refl) ∙ c.if-no_room.false in
    let read = leaf_read a.base a.bytes.now a.so a.slot c.requires false a.id _ _ _ c.leaf_walk.ensures refl refl work a.table.now roomy top is in
    rw c.placed-in-Err.ensures (record {
      right = leaf_off a.base a.bytes.now a.so work a.table.now a.slot inner top depth _ _ _ _ read _ c.in-Err.is;
      work_long = refl;
      table_long = refl;
      stands = tt;
    })

pub put_record-requires : goal.put_record-requires
put_record-requires c =
    let a = c.args in
    room_for a.table.now a.so.leaves (sym (c.no_room.ensures a.table.now refl) ∙ c.if-no_room.false)

pub overflow_add-result : goal.overflow_add-result
overflow_add-result c =
    let few = c.requires.stands.few in
    omega arith

pub returns-in-Ok : goal.returns-in-Ok
returns-in-Ok c top depth inner work is =
    let a = c.args in
    let asks = c.requires in
    let stands = asks.stands in
    let roomy : no_room a.so.leaves a.table.now ≡ false = sym (c.no_room.ensures a.table.now refl) ∙ c.if-no_room.false in
    let read = leaf_read a.base a.bytes.now a.so a.slot asks false a.id _ _ _ c.leaf_walk.ensures refl refl work a.table.now roomy top is in
    let there = leaf_there _ _ c.leaf_walk.result _ c.in-Ok.is c.leaf_walk.ensures.fixed in
    let few = room_few a.table.now a.so.leaves roomy in
    let put' = c.put_record.ensures in
    let on : Went = Ok (record { n = a.slot.end; now = a.slot.until; leaves = a.so.leaves + 1; last = c.in-Ok.seen.last }) in
    record {
      right = ap (λ (t : List ℕ). went_d a.base a.bytes.now work t on) put'
          ∙ leaf_on a.base a.bytes.now a.so work a.table.now a.slot inner top depth _ _ _ _ read _ c.in-Ok.is (omega arith);
      work_long = refl;
      table_long = ap length put' ∙ put_length _ _ _;
      stands = record { after = omega arith; inside = omega arith; within = omega arith; timely = omega arith; few = omega arith };
    }
