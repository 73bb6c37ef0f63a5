-- `lookup::lookup` meets its contract, by those of `spot_of` and `record_at`, and by the definition of `Spots`.
use Rattle.std.specs.Prelude.{Ok}
use Prim.Native.Nat.{◌+◌, ◌/◌}
use mathlib.Core.Path.{ap, ◌∙◌}
use native.Mathlib.Omega.{arith}
use Rattle.table.specs.declared.Record.{Record}
use Rattle.lookup.proofs.lookup.Goals as goal
use Rattle.covering.specs.Lookup.{the_leaf}

pub overflow_add-result : goal.overflow_add-result
overflow_add-result c =
    let found = rw c.in-Ok.is at c.spot_of.ensures in
    omega (arith, found.0.inside)

pub record_at-requires : goal.record_at-requires
record_at-requires c =
    let found = rw c.in-Ok.is at c.spot_of.ensures in
    omega (arith, found.0.starts, found.0.inside)

pub returns-in-Ok : goal.returns-in-Ok
returns-in-Ok c =
    let found = rw c.in-Ok.is at c.spot_of.ensures in
    ap (λ (r : Record). Ok (the_leaf (c.in-Ok.at / 6 + 1) r)) c.record_at.ensures ∙ found.1

pub returns-in-Err : goal.returns-in-Err
returns-in-Err c = rw c.in-Err.is at c.spot_of.ensures
