-- `levels::still_open` meets its contract, by those of `inmost`, `passed_all` and `around`, and by the laws `last_closed`, `one_closed` and `none_closed`.
use mathlib.Core.Path.{ap, sym, ◌∙◌}
use Rattle.state.specs.Levels.{passed_all}
use Rattle.levels.specs.Views.{open_of}
use Rattle.levels.proofs.Closed.{last_closed, one_closed, none_closed}
use Rattle.levels.proofs.still_open.Goals as goal

pub returns-in_err-open : goal.returns-in_err-open
returns-in_err-open c =
    let passed = sym (sym c.loop-open-test.true ∙ c.passed_all.ensures ∙ ap passed_all c.inmost.ensures) in
    ap open_of c.from_residual.ensures ∙ sym (last_closed _ (sym c.around.ensures ∙ c.in_err-open.was) passed) ∙ c.loop-open.invariant

pub loop-open-preserved : goal.loop-open-preserved
loop-open-preserved c =
    let passed = sym (sym c.loop-open-test.true ∙ c.passed_all.ensures ∙ ap passed_all c.inmost.ensures) in
    (one_closed _ _ (sym c.around.ensures ∙ c.in_ok-open.was) passed).0 ∙ c.loop-open.invariant

pub returns : goal.returns
returns c =
    let left = sym (sym c.loop-open-test.false ∙ c.passed_all.ensures ∙ ap passed_all c.inmost.ensures) in
    sym (none_closed _ left) ∙ c.loop-open.invariant
