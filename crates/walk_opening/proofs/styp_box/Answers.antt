-- `walk_opening::styp_box` meets its contract, by those of `lists_brand` and `stop_at`, and by the laws `styp_ended`, `styp_listed` and `styp_unlisted`.
use native.Mathlib.Omega.{arith}
use mathlib.Core.Path.{sym, ◌∙◌}
use Rattle.fields.proofs.Answers.{handed}
use Rattle.reader.proofs.Skips.{skip_here, skip_gone}
use Rattle.segment.specs.Constants.{limit}
use Rattle.walk_opening.proofs.Boxes.{styp_ended, styp_listed, styp_unlisted}
use Rattle.walk_opening.proofs.styp_box.Goals as goal

pub returns-in_err-skip_to : goal.returns-in_err-skip_to
returns-in_err-skip_to c =
    let a = c.args in
    let gone = skip_gone a.bytes.now _ (sym c.skip_to.ensures ∙ c.in_err-skip_to.was) in
    rw (handed c.from_residual.ensures.1, gone.0) (styp_ended a.brand a.bytes.now a.at limit a.h c.requires.0 gone.1)

pub lists_brand-requires : goal.lists_brand-requires
lists_brand-requires c =
    let a = c.args in
    let there = skip_here a.bytes.now _ (sym c.skip_to.ensures ∙ c.in_ok-skip_to.was) in
    let here = c.requires.0 in
    let styp = c.requires.1 in
    (omega arith, there, omega arith, omega arith)

pub returns-then-lists_brand : goal.returns-then-lists_brand
returns-then-lists_brand c =
    let a = c.args in
    styp_listed a.brand a.bytes.now a.at limit a.h c.requires.0 (skip_here a.bytes.now _ (sym c.skip_to.ensures ∙ c.in_ok-skip_to.was)) c.requires.1 _ c.lists_brand.ensures c.if-lists_brand.true

pub returns : goal.returns
returns c =
    let a = c.args in
    rw c.stop_at.ensures
    (styp_unlisted a.brand a.bytes.now a.at limit a.h c.requires.0 (skip_here a.bytes.now _ (sym c.skip_to.ensures ∙ c.in_ok-skip_to.was)) c.requires.1 _ c.lists_brand.ensures c.if-lists_brand.false)
