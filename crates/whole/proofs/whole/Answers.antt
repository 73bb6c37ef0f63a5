-- `whole::whole` meets its contract, by those of `whole_ending` and `start`, and by the definition of `ending_out`.
use mathlib.Core.Path.{ap, sym, ◌∙◌}
use Rattle.whole.specs.Views.{ending_out}
use Rattle.whole.proofs.whole.Goals as goal

pub returns-in-Accepted : goal.returns-in-Accepted
unfolding ending_out
returns-in-Accepted c = ap (ending_out _ _ _) (sym c.in-Accepted.is) ∙ c.whole_ending-ending.ensures

pub returns-in-Refused : goal.returns-in-Refused
unfolding ending_out
returns-in-Refused c = ap (ending_out _ _ _) (sym c.in-Refused.is) ∙ c.whole_ending-ending.ensures

pub returns-in-ShortWork : goal.returns-in-ShortWork
unfolding ending_out
returns-in-ShortWork c = rw c.start.ensures (ap (ending_out _ _ _) (sym c.in-ShortWork.is) ∙ c.whole_ending-ending.ensures)
