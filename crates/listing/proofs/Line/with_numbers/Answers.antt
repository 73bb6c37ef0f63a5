-- `listing::Line::with_numbers` meets its contract. The loop's invariant: the numbers passed are added.
use Prim.Native.Nat.{ℕ}
use mathlib.Core.Path.{sym, ap}
use mathlib.Core.List.{List}
use native.Mathlib.Omega.{arith}
use lib.ListN.{take, length-take}
use lib.Seq.{take_all}
use Rattle.listing.specs.Text.{spaced}
use Rattle.listing.proofs.Laws.{adds_none, adds_both, adds_as, spaced_none, spaced_length, spaced_next}
use Rattle.listing.proofs.Line.with_numbers.Goals as goal

pub loop-n-init : goal.loop-n-init
loop-n-init c = adds_as (sym spaced_none) (adds_none c.args.self)

pub with_next-line-requires : goal.with_next-line-requires
with_next-line-requires c =
    let numbers : List ℕ = c.args.numbers.now in
    let i : ℕ = c.loop-n.n-index in
    omega (arith, spaced_length (take i numbers), length-take i numbers)

pub loop-n-preserved : goal.loop-n-preserved
loop-n-preserved c = adds_as
    (spaced_next c.args.numbers.now c.loop-n.n-index (omega arith))
    (adds_both c.loop-n.invariant c.with_next-line.ensures)

pub returns : goal.returns
returns c = adds_as (ap spaced (take_all c.loop-n.n-index c.args.numbers.now (omega arith))) c.loop-n.invariant
