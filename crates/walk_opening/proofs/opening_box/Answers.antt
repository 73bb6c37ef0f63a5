-- `walk_opening::opening_box` meets its contract, by those of `styp_box` and `skip_to`, and by the laws `body_styp` and `body_skipped`.
use Rattle.segment.specs.Constants.{limit}
use Rattle.walk_opening.proofs.Boxes.{body_styp, body_skipped}
use Rattle.walk_opening.proofs.opening_box.Goals as goal

pub styp_box-requires : goal.styp_box-requires
styp_box-requires c = (c.requires.0, c.requires.1 c.if-h-eq-STYP.true)

pub returns-then-h-eq-STYP : goal.returns-then-h-eq-STYP
returns-then-h-eq-STYP c =
    let a = c.args in
    body_styp a.brand a.bytes.now a.at limit a.h c.requires.0 _ c.if-h-eq-STYP.true c.styp_box.ensures

pub returns : goal.returns
returns c =
    let a = c.args in
    body_skipped a.brand a.bytes.now a.at limit a.h c.requires.0 c.if-h-eq-STYP.false c.requires.2 c.skip_to.ensures
