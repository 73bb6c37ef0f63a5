-- `stage::opening_stage` meets its contract, by those of `opening_byte` and `opening_after`, and by the laws `ends_in` and `opening_step`.
use mathlib.Core.List.{[]}
use Prim.Native.Nat.{◌+◌}
use native.Mathlib.Omega.{arith}
use mathlib.Core.Path.{ap, ◌∙◌}
use Rattle.next_stage.specs.Arms.{lift_opening}
use Rattle.stage.proofs.Ends.{ends_in}
use Rattle.stage.proofs.Steps.{opening_step}
use borrow.Author.Rules.{rules}
use Rattle.stage.proofs.opening_stage.Goals as goal

pub opening_after-requires : goal.opening_after-requires
opening_after-requires c =
    let a = c.args in
    ends_in a.brand a.s _ _ a.n a.b (omega arith) (search rules) c.requires.2 c.opening_byte-q.result (c.opening_byte-q.ensures 0 0 0 [])

pub returns : goal.returns
returns c =
    let a = c.args in
    λ table. c.opening_after.ensures _ table ∙ ap (lift_opening a.brand (a.n + 1)) (c.opening_byte-q.ensures _ _ _ table) ∙ opening_step _ _ _ _ _
