-- `stage::leaf_stage` meets its contract, by those of `no_room`, `leaf_byte`, `record_after` and `leaf_after`, and by the laws `done_roomy`
-- and `leaf_step`.
use mathlib.Core.Path.{refl, sym}
use mathlib.Core.List.{[]}
use Rattle.next_stage.specs.Views.{flowing}
use Rattle.stage.proofs.Rooms.{done_roomy}
use Rattle.stage.proofs.Steps.{leaf_step}
use Rattle.stage.proofs.leaf_stage.Goals as goal

pub record_after-requires : goal.record_after-requires
record_after-requires c =
    let a = c.args in
    let f = flowing a.r [] a.table.now in
    done_roomy a.top.id a.slot a.s f a.n a.b c.leaf_byte-q.result (c.leaf_byte-q.ensures f (sym (c.no_room-full.ensures _ refl)))

pub returns : goal.returns
returns c =
    let a = c.args in
    λ work. leaf_step a.top a.ls a.slot a.r work a.table.now a.s a.n a.b c.leaf_byte-q.result _ c.leaf_after.result
    c.record_after.ensures (c.leaf_after.ensures work _)
    (c.leaf_byte-q.ensures (flowing a.r work a.table.now) (sym (c.no_room-full.ensures _ refl)))
