-- `levels::entry_place` meets its contract, by those of `depth` and `inmost`, and by the laws `depth_most` and `next_most`.
use mathlib.Core.Path.{ap}
use native.Mathlib.Omega.{arith}
use Rattle.levels.proofs.Places.{depth_most, next_most}
use Rattle.state.specs.declared.Level.{Level}
use Rattle.levels.proofs.entry_place.Goals as goal

pub overflow_sub-around : goal.overflow_sub-around
overflow_sub-around c = omega (arith, c.depth-around.ensures, (depth_most c.args.ls).0)

pub overflow_mul-result : goal.overflow_mul-result
overflow_mul-result c =
    let a = c.args in
    omega (arith, c.depth-around.ensures, (depth_most a.ls).0, (depth_most a.ls).1, (next_most a.ls c.requires).0, (next_most a.ls c.requires).1)

pub overflow_mul-result-2 : goal.overflow_mul-result-2
overflow_mul-result-2 c =
    let a = c.args in
    omega
    (arith, ap (λ (l : Level). l.next) c.inmost-l.ensures, (depth_most a.ls).0, (depth_most a.ls).1, (next_most a.ls c.requires).0, (next_most a.ls c.requires).1)

pub overflow_add-result : goal.overflow_add-result
overflow_add-result c =
    let a = c.args in
    omega (
      arith,
      c.depth-around.ensures,
      ap (λ (l : Level). l.next) c.inmost-l.ensures,
      (depth_most a.ls).0,
      (depth_most a.ls).1,
      (next_most a.ls c.requires).0,
      (next_most a.ls c.requires).1,
    )

pub returns : goal.returns
returns c = omega (arith, c.depth-around.ensures, ap (λ (l : Level). l.next) c.inmost-l.ensures)
