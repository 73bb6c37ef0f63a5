-- `walk_index::copy_two` meets its contract, by those of `word_at` and `store_word`, and by the law `word_bytes_lem`.
use Prim.Native.Nat.{ℕ, ◌+◌}
use mathlib.Core.Path.{ap, ◌∙◌}
use mathlib.Core.List.{List}
use native.Mathlib.Omega.{arith}
use Rattle.basics.specs.Put.{put_all}
use Rattle.walk_index.specs.Parts.{word_bytes}
use Rattle.walk_index.proofs.Stores.{word_bytes_lem}
use Rattle.walk_index.proofs.copy_two.Goals as goal

pub returns : goal.returns
returns c =
    let a = c.args in
    let first = word_bytes_lem a.bytes.now a.j (omega arith) _ c.word_at-v.ensures.0 (λ i. (c.type_inv.bytes i).fits) in
    let second = word_bytes_lem a.bytes.now (a.j + 4) (omega arith) _ c.word_at-w.ensures.0 (λ i. (c.type_inv.bytes i).fits) in
    c.store_word-2.ensures ∙ ap (λ (w : List ℕ). put_all w (a.i + 4) (word_bytes c.word_at-w.result)) (c.store_word.ensures ∙ ap (put_all a.work.now a.i) first)
    ∙ ap (put_all _ (a.i + 4)) second
