-- `walk_index::part_entry` meets its contract, by those of `no_size`, `copy_word`, `stop_at` and `store_rest`, and by the laws `part_refused` and `part_ended`.
use mathlib.Core.Path.{sym, ◌∙◌}
use native.Mathlib.Omega.{arith}
use borrow.Author.Tests.{leb-true}
use Rattle.walk_index.proofs.Walks.{part_refused, part_ended, both_hold}
use Rattle.walk_index.proofs.part_entry.Goals as goal

pub copy_word-requires : goal.copy_word-requires
copy_word-requires c =
    let held = both_hold _ _ (sym c.no_size.ensures ∙ c.if-no_size.true) in
    (omega arith, leb-true _ _ held.0)

pub returns-then-no_size : goal.returns-then-no_size
returns-then-no_size c =
    let a = c.args in
    let held = both_hold _ _ (sym c.no_size.ensures ∙ c.if-no_size.true) in
    part_refused a.bytes.now a.i a.j a.work.now _ c.copy_word.ensures (leb-true _ _ held.0) held.1 a.pos _ c.stop_at.ensures

pub returns : goal.returns
returns c =
    let a = c.args in
    λ end h k.
    part_ended a.bytes.now a.i a.j a.work.now _ a.pos c.store_rest.ensures c.requires.0 c.requires.1
    (sym c.no_size.ensures ∙ c.if-no_size.false) end
