-- `range::index_most` meets its contract, by that of `wide_most`, and by the definition of `index_most`.
use mathlib.Core.Logic.{⊎_elim}
use Rattle.state.specs.Ranges.{index_most}
use Rattle.range.proofs.index_most.Goals as goal

pub returns-in-Time : goal.returns-in-Time
unfolding index_most
returns-in-Time c = ⊎_elim (λ e. rw e c.wide_most.ensures) (λ e. rw e c.wide_most.ensures) c.in-Time.is
