-- `inner::inner_headed` meets its contract, by those of `box_span` and `index_begin`, by the laws `inner_shown`, `headed_box` and `the_span`, and by the
-- definition of `lift`.
use mathlib.Core.Path.{sym, ap, ◌∙◌}
use Rattle.std.proofs.lemmas.Result.{err_from_is_err_and}
use Rattle.std.specs.Option.{option_or}
use Rattle.machine.specs.Run.{lift}
use Rattle.state.specs.Stages.{inner_kind}
use Rattle.flaws.proofs.Headed.{headed_box, the_span}
use Rattle.flaws.proofs.Places.{inner_beyond}
use Rattle.flaws.proofs.Shown.{inner_shown}
use Rattle.inner.proofs.inner_headed.Goals as goal

pub returns-in_err-span : goal.returns-in_err-span
returns-in_err-span c =
    let a = c.args in
    let p = err_from_is_err_and c.from_residual.result c.from_residual.ensures.1 in
    let told = ap (option_or _) c.inner_kind_flaw.ensures ∙ inner_shown a.slot.end a.h a.depth in
    λ top m f.
    rw (p.1, p.2, headed_box (inner_kind top a.slot a.depth) a.h f m _ (inner_beyond a.depth a.h) told _ c.box_span.ensures, c.in_err-span.was)

pub returns : goal.returns
unfolding lift
returns c =
    let a = c.args in
    let told = ap (option_or _) c.inner_kind_flaw.ensures ∙ inner_shown a.slot.end a.h a.depth in
    λ top m f. rw (
      c.index_begin.ensures,
      headed_box (inner_kind top a.slot a.depth) a.h f m _ (inner_beyond a.depth a.h) told _ c.box_span.ensures,
      c.in_ok-span.was,
      the_span _ a.h _ (sym c.box_span.ensures ∙ c.in_ok-span.was),
    )
