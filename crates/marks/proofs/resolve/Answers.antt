-- `marks::resolve` meets its contract, by that of `lookup`.
use Rattle.std.specs.Prelude.{Result}
use Rattle.machine.specs.declared.Refusal.{Refusal}
use mathlib.Core.Path.{ap}
use Rattle.marks.specs.declared.Resolved.{Resolved}
use Rattle.marks.proofs.resolve.Goals as goal
use Rattle.covering.specs.declared.Leaf.{Leaf}

pub returns : goal.returns
returns c =
    let a = c.args in
    let answered : Result Leaf Refusal → Resolved = λ q. record { page = a.mark.page; answer = q } in
    ap answered c.lookup-answer.ensures
