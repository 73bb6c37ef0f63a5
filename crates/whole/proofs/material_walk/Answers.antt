-- `whole::material_walk` meets its contract, by those of `gap_walk`, `unlisted` and `under`, and by the laws `mapped_err`, `mapped_ok` and those of the material.
use Prim.Native.Nat.{◌+◌}
use mathlib.Core.Path.{refl}
use native.Mathlib.Omega.{arith}
use Rattle.whole.proofs.Laws.{mapped_err, mapped_ok, gap_stops, material_stops, material_done, gap_fixed}
use Rattle.walk_entries.proofs.Laws.{stands_on, handed}
use Rattle.whole.proofs.material_walk.Goals as goal

pub returns-in_err-map_err : goal.returns-in_err-map_err
returns-in_err-map_err c =
    let a = c.args in
    let stop = mapped_err c.gap_walk.result c.map_err.ensures.cases c.in_err-map_err.was in
    rw (handed c.from_residual.ensures.1, stop.2) (record {
      right = gap_stops a.x a.n _ a.bytes.now a.work.now a.table.now _ c.gap_walk.ensures refl _ stop.1;
      work_long = refl;
      table_long = refl;
      within = tt;
    })

pub under-requires : goal.under-requires
under-requires c =
    let a = c.args in
    let fits = c.requires.0 in
    let crossed = gap_fixed a.bytes.now (a.n + a.x.offset) _ (mapped_ok c.gap_walk.result c.map_err.ensures.cases c.in_ok-map_err.was) c.gap_walk.ensures.fixed in
    record {
      some = omega arith;
      most = omega arith;
      next = omega arith;
      count = fits.count;
      end = fits.material;
      area = c.requires.2;
      stands = record { after = omega arith; inside = omega arith; within = omega arith; timely = omega arith; few = omega arith };
    }

pub returns-in_err-reached : goal.returns-in_err-reached
returns-in_err-reached c =
    let a = c.args in
    let carried = c.under.ensures in
    let crossed = mapped_ok c.gap_walk.result c.map_err.ensures.cases c.in_ok-map_err.was in
    rw (handed c.from_residual-in_err-reached.ensures.1) (record {
      right = material_stops a.x a.n _ a.bytes.now a.work.now a.table.now _ c.gap_walk.ensures refl crossed _ _ _ carried.right _ c.in_err-reached.was;
      work_long = carried.work_long;
      table_long = carried.table_long;
      within = tt;
    })

pub returns : goal.returns
returns c =
    let a = c.args in
    let carried = c.under.ensures in
    let stands = stands_on _ _ _ _ _ _ c.in_ok-reached.was carried.stands in
    record {
      right = material_done a.x a.n _ a.bytes.now a.work.now a.table.now _ c.gap_walk.ensures refl
          (mapped_ok c.gap_walk.result c.map_err.ensures.cases c.in_ok-map_err.was) _ _ _ carried.right _ c.in_ok-reached.was;
      work_long = carried.work_long;
      table_long = carried.table_long;
      within = omega arith;
    }
