-- `stage::inner_stage` meets its contract, by those of `depth`, `inner_byte` and `inner_after`, and by the laws `inner_within` and `inner_law`.
use Rattle.stage.proofs.Entries.{inner_within, inner_law}
use Rattle.stage.proofs.inner_stage.Goals as goal

pub inner_byte-q-requires : goal.inner_byte-q-requires
inner_byte-q-requires c =
    let a = c.args in
    (inner_within a.ls _ a.s c.depth-around.ensures c.requires.3, c.requires.2, c.requires.0, c.requires.1)

pub returns : goal.returns
returns c =
    let a = c.args in
    inner_law a.top a.ls a.slot a.r a.s a.n a.b _ _ _ c.inner_byte-q.result c.inner_after.result c.depth-around.ensures c.inner_after.ensures
    c.inner_byte-q.ensures
