-- `walk_index::read_entry` meets its contract, by those of `copy_word`, `word_at` and `copy_two`, and by the laws `entry_refused` and `entry_taken`.
use Prim.Native.Nat.{ℕ, ◌+◌, ◌%◌}
use mathlib.Core.Path.{◌≡◌, ap, ◌∙◌}
use mathlib.Core.List.{List}
use mathlib.Core.Logic.{◌⊎◌, inl, inr}
use native.Mathlib.Omega.{arith}
use lib.ListN.{take, drop}
use borrow.Author.Tests.{eq-eqb}
use Rattle.basics.specs.Put.{put_all}
use Rattle.segment.specs.Constants.{type_bit}
use Rattle.walk_index.proofs.Walks.{entry_refused, entry_taken}
use Rattle.walk_index.proofs.read_entry.Goals as goal

-- a first word whose size is 0
none_of : {w n : ℕ} → w ≡ n → (w ≡ 0) ⊎ ((w ≡ 0 → ⊥) × (w ≡ 2147483648)) → n % type_bit ≡ 0
none_of e (inl z) = omega arith
none_of e (inr z) = omega (arith, z.1)

pub returns-then-word-eq0 : goal.returns-then-word-eq0
returns-then-word-eq0 c =
    let a = c.args in
    let none = none_of c.word_at-word.ensures.0 c.then-word-eq0.either in
    entry_refused a.bytes.now a.i a.j a.work.now _ c.copy_word.ensures (omega arith) (eq-eqb _ _ none)

pub returns : goal.returns
returns c =
    let a = c.args in
    let s = a.bytes.now in
    let both : List ℕ → List ℕ = λ (w : List ℕ). put_all (put_all w (a.i + 4) (take 4 (drop (a.j + 4) s))) (a.i + 4 + 4) (take 4 (drop (a.j + 4 + 4) s)) in
    entry_taken s a.i a.j a.work.now _ _ _ (c.copy_two.ensures ∙ ap both c.copy_word.ensures) c.requires.1
    (λ h. omega (arith, h, c.word_at-word.ensures.0, c.word_at-word.ensures.1, c.if-word-eq0.false, c.if-word-eq-TYPE_BIT.false)) (ap (λ (v : ℕ). v % type_bit) c.word_at-word.ensures.0)
    c.word_at.ensures.0 c.word_at.ensures.1
