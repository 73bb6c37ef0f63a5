-- `spelling::stage_on` meets its contract, by those of `store_bytes`, `spell_bytes` and `stage_again`, and by the laws `acc_fits`, `bytes_fit` and
-- `stage_moves`.
use Rattle.spelling.proofs.Laws.{acc_fits, bytes_fit, stage_moves}
use Rattle.spelling.proofs.stage_on.Goals as goal

pub store_bytes-requires : goal.store_bytes-requires
store_bytes-requires c =
    let a = c.args in
    let pre = c.requires in
    bytes_fit a.s a.x a.bytes.now a.work.now pre.0 pre.1 pre.2 pre.3

pub spell_bytes-acc-requires : goal.spell_bytes-acc-requires
spell_bytes-acc-requires c =
    let a = c.args in
    let pre = c.requires in
    acc_fits a.s a.x a.bytes.now a.work.now pre.0 pre.1 pre.2

pub returns : goal.returns
returns c =
    let a = c.args in
    stage_moves a.s a.x a.bytes.now a.work.now c.requires.0 _ _ _ c.spell_bytes-acc.ensures c.store_bytes.ensures c.stage_again.ensures
