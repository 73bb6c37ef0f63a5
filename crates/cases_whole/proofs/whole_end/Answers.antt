-- `cases_whole::whole_end` meets its contract, by those of `whole` and `end_of`.
use Rattle.std.specs.Prelude.{ℕ, Result}
use mathlib.Core.Path.{◌∙◌, ap}
use Rattle.machine.specs.declared.Refusal.{Refusal}
use Rattle.state.specs.Calls.{Out}
use Rattle.cases_whole.specs.Reading.{end_in}
use Rattle.cases_whole.proofs.whole_end.Goals as goal

pub returns : goal.returns
returns c =
    let read = c.whole-read.ensures in
    record {
      ends = c.end_of.ensures ∙ ap end_in read;
      works = ap (λ (o : Out (Result ℕ Refusal)). o.work) read;
      tables = ap (λ (o : Out (Result ℕ Refusal)). o.table) read;
    }
