-- `stage::stage_byte` meets its contract, by those of `opening_stage`, `gap_stage`, `entry_stage`, `leaf_stage` and `inner_stage`, and by the laws of
-- `Entries`.
use Rattle.next_stage.specs.Views.{flowing}
use Rattle.stage.proofs.Entries.{stage_as, opening_within, gap_within, entry_within, leaf_within, inner_around}
use Rattle.stage.proofs.stage_byte.Goals as goal

pub opening_stage-requires : goal.opening_stage-requires
opening_stage-requires c =
    let a = c.args in
    (c.requires.0, c.requires.1, opening_within a.s a.r.now _ _ c.in-Opening.is c.requires.3)

pub gap_stage-requires : goal.gap_stage-requires
gap_stage-requires c =
    let a = c.args in
    (c.requires.0, gap_within a.s a.r.now _ _ _ _ c.in-Gap.is c.requires.3)

pub entry_stage-requires : goal.entry_stage-requires
entry_stage-requires c =
    let a = c.args in
    let v = entry_within a.s a.r.now _ _ c.in-Entry.is c.requires.3 in (c.requires.0, c.requires.1, c.requires.2, v.0, v.1, v.2)

pub leaf_stage-requires : goal.leaf_stage-requires
leaf_stage-requires c =
    let a = c.args in
    (c.requires.0, c.requires.2, leaf_within a.s a.r.now _ _ _ _ c.in-Leaf.is c.requires.3)

pub inner_stage-requires : goal.inner_stage-requires
inner_stage-requires c =
    let a = c.args in
    let v = inner_around a.s a.r.now _ _ _ _ c.in-Inner.is c.requires.3 in (c.requires.0, c.requires.1, v.0, v.1)

pub returns-in-Opening : goal.returns-in-Opening
returns-in-Opening c =
    let a = c.args in
    stage_as a.s _ (flowing a.r a.work.now a.table.now) a.n a.b _ c.in-Opening.is (c.opening_stage.ensures a.table.now)

pub returns-in-Gap : goal.returns-in-Gap
returns-in-Gap c =
    let a = c.args in
    stage_as a.s _ (flowing a.r a.work.now a.table.now) a.n a.b _ c.in-Gap.is (c.gap_stage.ensures a.work.now a.table.now)

pub returns-in-Entry : goal.returns-in-Entry
returns-in-Entry c =
    let a = c.args in
    stage_as a.s _ (flowing a.r a.work.now a.table.now) a.n a.b _ c.in-Entry.is c.entry_stage.ensures

pub returns-in-Leaf : goal.returns-in-Leaf
returns-in-Leaf c =
    let a = c.args in
    stage_as a.s _ (flowing a.r a.work.now a.table.now) a.n a.b _ c.in-Leaf.is (c.leaf_stage.ensures a.work.now)

pub returns-in-Inner : goal.returns-in-Inner
returns-in-Inner c =
    let a = c.args in
    stage_as a.s _ (flowing a.r a.work.now a.table.now) a.n a.b _ c.in-Inner.is (c.inner_stage.ensures a.table.now)
