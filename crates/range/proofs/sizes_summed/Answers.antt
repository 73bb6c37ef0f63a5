-- `range::sizes_summed` meets its contract, by the definition of `sizes_read`.
use native.Mathlib.Numerals.{add-one}
use mathlib.Core.Logic.{⊎_elim}
use Rattle.state.specs.Ranges.{sizes_read}
use Rattle.range.proofs.sizes_summed.Goals as goal

pub returns-in-Duration : goal.returns-in-Duration
unfolding sizes_read
returns-in-Duration c = ⊎_elim (λ e. rw e (add-one _)) (λ e. rw e (add-one _)) c.in-Duration.is
