-- `opening::gap_headed` meets its contract, by those of `box_span` and `gap_skip`, by the laws `gap_shown`, `headed_box` and `the_span`, and by the
-- definitions of `lift` and `lowest`.
use mathlib.Core.Path.{sym, ap, ◌∙◌}
use Rattle.std.proofs.lemmas.Result.{err_from_is_err_and}
use Rattle.std.specs.Option.{option_or}
use Rattle.machine.specs.Faults.{lowest}
use Rattle.machine.specs.Run.{lift}
use Rattle.state.specs.Stages.{gap_kind, skip_gap}
use Rattle.state.specs.declared.Span.{Span}
use Rattle.flaws.proofs.Headed.{headed_box, the_span}
use Rattle.flaws.proofs.Places.{gap_beyond}
use Rattle.flaws.proofs.Shown.{gap_shown}
use Rattle.opening.specs.Views.{body_gap}
use Rattle.opening.proofs.gap_headed.Goals as goal

pub returns-in_err-span : goal.returns-in_err-span
unfolding lift lowest
returns-in_err-span c =
    let a = c.args in
    let p = err_from_is_err_and c.from_residual.result c.from_residual.ensures.1 in
    let told = ap (option_or _) c.gap_kind_flaw.ensures ∙ gap_shown a.end a.h in
    λ f. rw (p.1, p.2, headed_box (gap_kind a.end) a.h f a.m _ (gap_beyond a.h) told _ c.box_span.ensures, c.in_err-span.was)

pub returns : goal.returns
returns c =
    let a = c.args in
    let told = ap (option_or _) c.gap_kind_flaw.ensures ∙ gap_shown a.end a.h in
    let span = the_span _ a.h _ (sym c.box_span.ensures ∙ c.in_ok-span.was) in
    λ f. rw (headed_box (gap_kind a.end) a.h f a.m _ (gap_beyond a.h) told _ c.box_span.ensures, c.in_ok-span.was)
    (c.gap_skip.ensures f ∙ ap (λ (s : Span). body_gap a.end a.m (skip_gap s.end f a.m)) span)
