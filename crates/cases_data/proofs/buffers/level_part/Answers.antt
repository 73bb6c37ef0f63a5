-- `cases_data::buffers::level_part` meets its contract, by that of `part`.
use Prim.Native.Nat.{ℕ}
use mathlib.Core.Path.{◌∙◌, ap, refl}
use mathlib.Core.List.{List}
use borrow.Author.Tests.{lt-ltb, le-ltb}
use Rattle.cases_data.specs.Parts.{level_part, bytes_from}
use Rattle.basics.specs.Choose.{pick}
use Rattle.cases_data.proofs.buffers.level_part.Goals as goal

pub returns-then-level-lt4 : goal.returns-then-level-lt4
unfolding level_part pick
returns-then-level-lt4 c =
    let n = c.args.n in
    simp (lt-ltb _ _ c.if-level-lt4.true) (c.part-then-level-lt4.ensures ∙ ap (λ (l : List ℕ). bytes_from l 0 n) c.part.ensures)

pub returns : goal.returns
unfolding level_part pick
returns c = simp (le-ltb _ _ c.if-level-lt4.false) refl
