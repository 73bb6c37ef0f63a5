-- `range::durations_summed` meets its contract, by the definition of `durations_read`.
use native.Mathlib.Numerals.{add-one}
use Rattle.state.specs.Ranges.{durations_read}
use Rattle.range.proofs.durations_summed.Goals as goal

pub returns-in-Sap : goal.returns-in-Sap
unfolding durations_read
returns-in-Sap c = rw c.in-Sap.is (add-one _)
