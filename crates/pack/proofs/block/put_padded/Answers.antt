-- `pack::block::put_padded` meets its contract, by the law `fits` of the trait, and by the laws `padded_behind` and `padded_length`.
use mathlib.Core.Path.{ap, ◌∙◌}
use lib.ListN.{length, length-append}
use Rattle.numbered.specs.Numbers.{padded}
use Rattle.numbered.proofs.Lengths.{padded_length}
use Rattle.pack.proofs.Laws.{padded_behind}
use Rattle.pack.proofs.block.put_padded.Goals as goal

pub returns-clause-numbers : goal.returns-clause-numbers
returns-clause-numbers g c = c.pad.ensures ∙ ap (padded _) c.put.ensures ∙ padded_behind c.args.to.now (g.T.Block.numbers c.args.x) g.T.Block.MOST _ (rw (c.len.ensures, c.MOST.ensures))

pub returns-clause-long : goal.returns-clause-long
returns-clause-long g c =
    let xs = g.T.Block.numbers c.args.x in
    let most = g.T.Block.MOST in
    ap length (returns-clause-numbers g c) ∙ length-append c.args.to.now (padded most xs) ∙ rw (padded_length most xs (g.met.T.Block.fits c.args.x))
