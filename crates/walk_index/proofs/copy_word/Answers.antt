-- `walk_index::copy_word` meets its contract, by those of `word_at` and `store_word`, and by the law `word_bytes_lem`.
use mathlib.Core.Path.{ap, ◌∙◌}
use Rattle.basics.specs.Put.{put_all}
use Rattle.walk_index.proofs.Stores.{word_bytes_lem}
use Rattle.walk_index.proofs.copy_word.Goals as goal

pub returns : goal.returns
returns c =
    let a = c.args in
    c.store_word.ensures
    ∙ ap (put_all a.work.now a.i) (word_bytes_lem a.bytes.now a.j c.requires.1 _ c.word_at.ensures.0 (λ i. (c.type_inv.bytes i).fits))
