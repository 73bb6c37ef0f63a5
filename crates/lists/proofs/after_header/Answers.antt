-- `lists::after_header` meets its contract, by those of `flaw`, `beside`, `begin` and `after_body`, by the laws `headed_bad`, `headed_good` and
-- `flawless`, and by the definition of `lift`.
use mathlib.Core.Path.{refl, sym, ◌∙◌}
use native.Mathlib.Omega.{arith}
use Rattle.machine.specs.Run.{lift}
use Rattle.flaws.proofs.Flaws.{flawless}
use Rattle.flaws.proofs.Headed.{headed_bad, headed_good}
use Rattle.flaws.proofs.Numbered.{no_number}
use Rattle.lists.proofs.Laws.{all_told}
use Rattle.lists.proofs.after_header.Goals as goal

pub returns-in-Some : goal.returns-in-Some
unfolding lift
returns-in-Some g c =
    let a = c.args in
    let l = a.list.now in
    let k = (g.L.BoxList.boxes l).box a.so in
    λ f e.
    let beyond = g.met.L.BoxList.beyond l a.so a.h f in
    rw (
      c.beside.ensures f e,
      headed_bad k a.h f a.n _ beyond (all_told k _ a.h f _ _ _ beyond (c.end-end.ensures a.so) c.size_flaw.ensures (c.flaw.ensures f e) c.or.ensures) _ c.in-Some.is,
      g.met.L.BoxList.box_kept l a.so,
    )
    refl

pub begin-requires : goal.begin-requires
begin-requires g c =
    let a = c.args in
    let l = a.list.now in
    let k = (g.L.BoxList.boxes l).box a.so in
    let f = g.L.BoxList.flow l in
    let e = g.met.L.BoxList.flows l in
    let beyond = g.met.L.BoxList.beyond l a.so a.h f in
    let told = all_told k _ a.h f _ _ _ beyond (c.end-end.ensures a.so) c.size_flaw.ensures (c.flaw.ensures f e) c.or.ensures in
    omega (arith, (flawless k.end a.h _ beyond (no_number _ (sym told ∙ c.in-None.is))).1, c.end-end.ensures a.so)

pub returns-in-None : goal.returns-in-None
returns-in-None g c =
    let a = c.args in
    let l = a.list.now in
    let k = (g.L.BoxList.boxes l).box a.so in
    λ f e.
    let beyond = g.met.L.BoxList.beyond l a.so a.h f in
    rw (
      headed_good k a.h f a.n _ beyond (all_told k _ a.h f _ _ _ beyond (c.end-end.ensures a.so) c.size_flaw.ensures (c.flaw.ensures f e) c.or.ensures) c.in-None.is,
      ← c.begin.ensures f e,
    )
    (c.after_body.ensures f e)
