-- `whole::segment_walk` meets its contract, by those of `opening_walk`, `unlisted` and `material_walk`, and by the laws `mapped_err`, `mapped_ok` and those of the opening.
use mathlib.Core.Path.{refl, ◌∙◌}
use native.Mathlib.Omega.{arith}
use Rattle.state.specs.Step.{flow0}
use Rattle.whole.proofs.Laws.{mapped_err, mapped_ok, opening_stops, opening_done, opening_fixed}
use Rattle.walk_entries.proofs.Laws.{handed}
use Rattle.whole.proofs.segment_walk.Goals as goal

pub returns-in_err-x : goal.returns-in_err-x
returns-in_err-x c =
    let a = c.args in
    let walk = c.opening_walk.ensures in
    let stop = mapped_err c.opening_walk.result c.map_err.ensures.cases c.in_err-x.was in
    rw (handed c.from_residual.ensures.1, stop.2) (record {
      right = opening_stops a.brand a.bytes.now a.work.now a.table.now _ _ (walk.right (flow0 a.work.now a.table.now) refl refl) _ stop.1 walk.fixed;
      work_long = walk.long;
      table_long = refl;
      within = tt;
    })

pub material_walk-requires : goal.material_walk-requires
material_walk-requires c =
    let a = c.args in
    let walk = c.opening_walk.ensures in
    let fixed = opening_fixed _ _ _ _ (mapped_ok c.opening_walk.result c.map_err.ensures.cases c.in_ok-x.was) walk.fixed in
    let sums = walk.sums _ _ (mapped_ok c.opening_walk.result c.map_err.ensures.cases c.in_ok-x.was) in
    let long = walk.long in
    (record { count = fixed.1; material = omega (arith, sums.0); times = sums.1 }, fixed.2, omega (arith, c.requires.1))

pub returns : goal.returns
returns c =
    let a = c.args in
    let walk = c.opening_walk.ensures in
    let rest = c.material_walk.ensures in
    let opened = mapped_ok c.opening_walk.result c.map_err.ensures.cases c.in_ok-x.was in
    record {
      right = rest.right ∙ opening_done a.brand a.bytes.now a.work.now a.table.now _ _ (walk.right (flow0 a.work.now a.table.now) refl refl) _ _ opened;
      work_long = rest.work_long ∙ walk.long;
      table_long = rest.table_long;
      within = rest.within;
    }
