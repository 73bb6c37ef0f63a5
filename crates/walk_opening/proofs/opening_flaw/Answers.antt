-- `walk_opening::opening_flaw` meets its contract, by those of `top_flaw` and `opening_kind_flaw`, and by the laws `opening_flaws`, `length_kept` and `length_first`.
use mathlib.Core.Path.{refl, ap, sym, ◌∙◌}
use Rattle.flaws.specs.Flaws.{numbered}
use Rattle.flaws.proofs.Numbered.{two_kinds, length_first}
use Rattle.flaws.proofs.Places.{opening_flaws}
use Rattle.walk_opening.proofs.Shown.{length_kept, kind_next}
use Rattle.walk_opening.proofs.opening_flaw.Goals as goal

pub returns-in-Some : goal.returns-in-Some
returns-in-Some c =
    let a = c.args in
    length_first a.h _ (length_kept _ _ (sym c.top_flaw.ensures ∙ c.in-Some.is)) refl ∙ ap numbered (sym (opening_flaws a.branded a.h))

pub returns : goal.returns
returns c =
    let a = c.args in
    length_first a.h _ (kind_next _ _ (sym c.top_flaw.ensures ∙ c.in_default.is)) (c.opening_kind_flaw.ensures ∙ two_kinds _ _) ∙ ap numbered (sym (opening_flaws a.branded a.h))
