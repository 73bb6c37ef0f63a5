-- A byte after the material: row 21, and row 3 past the limit.
use mathlib.Core.Path.{ap, ◌∙◌}
use native.Mathlib.Omega.{arith}
use Rattle.state.specs.declared.State.{State}
use Rattle.state.specs.declared.State.TheVariants as state
use Rattle.byte.proofs.Laws.{left_with, ended_one, ended_past}
use Rattle.byte.proofs.byte_after.Goals as goal

pub returns-then-n-eq-LIMIT : goal.returns-then-n-eq-LIMIT
returns-then-n-eq-LIMIT c =
    let a = c.args in
    λ work table. ap (λ (q : State). left_with q work table) (c.past_limit.ensures ∙ ap (state.Refused 268435457 a.leaves) c.over_limit.ensures)
    ∙ ended_past a.n a.leaves a.b a.top work table c.if-n-eq-LIMIT.true

pub returns : goal.returns
returns c =
    let a = c.args in
    λ work table. ended_one a.n a.leaves a.b a.top work table (omega (arith, c.if-n-eq-LIMIT.false, c.requires))
