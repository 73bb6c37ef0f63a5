-- `pack::boxes::TrafBoxesBlock::put` meets its contract: what is known of a `traf` is five numbers, by the law `so_length`.
use mathlib.Core.Path.{ap, ◌∙◌}
use native.Mathlib.Omega.{arith}
use mathlib.Core.List.{[], ◌∷◌}
use lib.ListN.{length, length-append}
use Rattle.numbered.specs.Numbers.{traf_so_numbers}
use Rattle.numbered.proofs.Lengths.{so_length}
use Rattle.pack.proofs.boxes.TrafBoxesBlock.put.Goals as goal

pub put-requires-in-Head-2 : goal.put-requires-in-Head-2
put-requires-in-Head-2 c =
    let so = c.in-Head.so in
    let tagged = ap length c.put.ensures ∙ length-append c.args.to.now (1 ∷ []) in
    omega (arith, so_length so, ap length c.put-in-Head.ensures ∙ length-append c.put.new.self (traf_so_numbers so), tagged)

pub put-requires-in-Body-3 : goal.put-requires-in-Body-3
put-requires-in-Body-3 c =
    let so = c.in-Body.so in
    let tagged = ap length c.put-in-Body.ensures ∙ length-append c.args.to.now (2 ∷ []) in
    omega (arith, so_length so, ap length c.put-in-Body-2.ensures ∙ length-append c.put-in-Body.new.self (traf_so_numbers so), tagged)
