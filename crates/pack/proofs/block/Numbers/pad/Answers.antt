-- `pack::block::Numbers::pad` meets its contract, by the laws `zeros_from` and `view_padded`.
use mathlib.Core.Path.{◌≡◌, ap, ◌∙◌}
use Prim.Native.Nat.{◌≤◌}
use native.Mathlib.Omega.{arith}
use lib.ListN.{length, take}
use lib.Seq.{length-take-le}
use Rattle.numbered.specs.Numbers.{padded}
use Rattle.pack.proofs.Laws.{zeros_from, view_padded}
use Rattle.pack.proofs.block.Numbers.pad.Goals as goal

-- the end lies behind what was put
behind_all : (c : goal.After-self-1) → c.self.inside.at ≤ c.args.stop
behind_all c =
    let q = c.self.inside in
    let held : length (take q.at q.all) ≡ q.at = length-take-le q.at q.all (omega (arith, c.self.invariant.0, c.self.told)) in
    let same = ap length c.self.view_is in
    omega (arith, held, same, c.requires.0)

pub invariant_of-self : goal.invariant_of-self
invariant_of-self c = (c.requires.1, zeros_from _ 57 _ c.self.told c.self.invariant.0 c.self.invariant.1 c.args.stop (behind_all c))

pub returns : goal.returns
returns c =
    view_padded _ 57 _ c.self.told c.self.invariant.0 c.self.invariant.1 c.args.stop (behind_all c) c.requires.1 ∙ ap (padded c.args.stop) c.self.view_is
