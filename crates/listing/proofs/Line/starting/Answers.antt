-- `listing::Line::starting` meets its contract. The loop's invariant: the line holds the bytes passed.
use Prim.Native.Nat.{ℕ}
use mathlib.Core.Path.{ap, ◌∙◌}
use mathlib.Core.List.{List}
use native.Mathlib.Omega.{arith}
use lib.ListN.{take, length-take}
use lib.Seq.{take_all}
use Rattle.listing.specs.Text.{line_of}
use Rattle.listing.proofs.Laws.{line_length, take_next}
use Rattle.listing.proofs.Line.starting.Goals as goal

pub with_byte-line-requires : goal.with_byte-line-requires
with_byte-line-requires c =
    let word : List ℕ = c.args.word.now in
    let i : ℕ = c.loop-b.b-index in
    omega (arith, line_length (take i word) c.loop-b.invariant, length-take i word)

pub loop-b-preserved : goal.loop-b-preserved
loop-b-preserved c =
    let l = c.loop-b in
    let word = c.args.word.now in
    c.with_byte-line.ensures.holds (take l.b-index word) l.invariant ∙ ap line_of (take_next word l.b-index (omega arith))

pub returns : goal.returns
returns c = c.loop-b.invariant ∙ ap line_of (take_all c.loop-b.b-index c.args.word.now (omega arith))
