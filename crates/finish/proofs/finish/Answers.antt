-- `finish::finish` meets its contract, by those of `in_range`, `finish_state` and `declined`, by the laws `pick_yes` and `pick_no`, and by the definition of `finish_of`.
use mathlib.Core.Path.{sym, ◌∙◌}
use Rattle.state.specs.Calls.{finish_of}
use Rattle.basics.proofs.Picks.{pick_yes, pick_no}
use Rattle.finish.proofs.finish.Goals as goal

pub returns-then-in_range : goal.returns-then-in_range
unfolding finish_of
returns-then-in_range c = c.finish_state.ensures ∙ sym (pick_yes _ _ _ (sym c.in_range.ensures ∙ c.if-in_range.true))

pub returns : goal.returns
unfolding finish_of
returns c = c.declined.ensures ∙ sym (pick_no _ _ _ (sym c.in_range.ensures ∙ c.if-in_range.false))
