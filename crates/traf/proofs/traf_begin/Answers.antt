-- `traf::traf_begin` meets its contract, by those of `lack`, `after_box` and `next_box`, and by the laws `faultless` and `goes`.
use Prim.Native.Nat.{ℕ}
use mathlib.Core.Path.{ap, refl, ◌∙◌}
use lib.Dec.{eqb}
use Rattle.std.specs.Prelude.{Option, Ok}
use Rattle.basics.specs.Choose.{pick}
use Rattle.machine.specs.Run.{done, bad, lift}
use Rattle.machine.specs.declared.Step.TheVariants as step
use Rattle.state.specs.Traf.{traf_boxes, traf_so0}
use Rattle.lists.specs.Listed.{ended, next_head}
use Rattle.lists.proofs.Laws.{goes}
use Rattle.traf.proofs.Laws.{faultless}
use Rattle.traf.proofs.traf_begin.Goals as goal

pub returns : goal.returns
returns c =
    let a = c.args in
    let so = traf_so0 a.seen in
    let q = ap (λ (lack : Option ℕ). pick (eqb a.n a.span.end) (ended lack a.span.pos (step.Done so.seen)) (Ok (step.Going so))) c.lack.ensures in
    λ id f. c.next_box.ensures f
    ∙ ap (lift next_head done bad) (faultless a.span f a.n so _ (c.after_box.ensures ∙ q))
    ∙ goes (traf_boxes id a.span) f refl _
