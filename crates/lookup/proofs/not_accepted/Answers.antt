-- `lookup::not_accepted` meets its contract, by that of `in_range`, and by the laws `pick_yes` and `pick_no`.
use mathlib.Core.Path.{sym, ◌∙◌}
use Rattle.basics.proofs.Picks.{pick_yes, pick_no}
use Rattle.state.specs.Ranges.{in_range}
use Rattle.lookup.proofs.not_accepted.Goals as goal

pub returns-then-in_range : goal.returns-then-in_range
returns-then-in_range c = sym (pick_yes (in_range c.args.s) _ _ (sym c.in_range.ensures ∙ c.if-in_range.true))

pub returns-else-in_range : goal.returns-else-in_range
returns-else-in_range c = sym (pick_no (in_range c.args.s) _ _ (sym c.in_range.ensures ∙ c.if-in_range.false))
