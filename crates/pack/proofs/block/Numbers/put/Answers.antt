-- `pack::block::Numbers::put` meets its contract: zeros stand behind what was put, by the law `zeros_behind`.
use mathlib.Core.Path.{◌≡◌, ap}
use Prim.Native.Nat.{◌+◌, ◌≤◌}
use native.Mathlib.Omega.{arith}
use lib.ListN.{length, take}
use lib.Seq.{length-take-le}
use Rattle.pack.proofs.Laws.{zeros_behind}
use Rattle.pack.proofs.block.Numbers.put.Goals as goal

pub invariant_of-self : goal.invariant_of-self
invariant_of-self c =
    let q = c.self.inside in
    let inv = c.self.invariant in
    let held : length (take q.at q.all) ≡ q.at = length-take-le q.at q.all (omega (arith, inv.0, c.self.told)) in
    let same = ap length c.self.view_is in
    let room : q.at + length c.args.numbers.now ≤ 57 = omega (arith, held, same, c.requires) in
    rw c.copy_from_slice.ensures.after (room, zeros_behind q.all 57 q.at c.self.told inv.0 inv.1 c.args.numbers.now room)
