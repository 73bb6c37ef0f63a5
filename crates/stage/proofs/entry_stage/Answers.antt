-- `stage::entry_stage` meets its contract, by those of `read_back`, `took_entry` and `slot_byte`, and by the laws `entry_altered`, `entry_stands` and
-- `entry_until`.
use mathlib.Core.Path.{◌∙◌}
use Rattle.next_stage.specs.Views.{flowing}
use Rattle.stage.proofs.Entries.{entry_altered, entry_stands, entry_until}
use Rattle.stage.proofs.entry_stage.Goals as goal

pub returns-in_default : goal.returns-in_default
returns-in_default c =
    let a = c.args in
    entry_altered a.top a.ls (flowing a.r a.work.now a.table.now) a.n a.b _ c.read_back.ensures c.in_default.is

pub slot_byte-requires : goal.slot_byte-requires
slot_byte-requires c = let a = c.args in (
  c.requires.0,
  c.requires.1,
  c.requires.2,
  entry_until a.top a.ls (flowing a.r a.work.now a.table.now) a.n a.b _ c.read_back.ensures _ _ c.in-Some.is,
)

pub returns : goal.returns
returns c =
    let a = c.args in
    c.slot_byte.ensures
    ∙ entry_stands a.top a.ls (flowing a.r a.work.now a.table.now) a.n a.b _ c.read_back.ensures _ _ _ c.in-Some.is
    c.took_entry-taken.ensures
