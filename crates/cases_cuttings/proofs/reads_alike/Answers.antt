-- `cases_cuttings::reads_alike` meets its contract, by those of `read_in`, `same_end` and `both`.
use Rattle.std.proofs.Common.{◌≡◌, true, ◌↔◌, subst}
use Rattle.cases_trial.specs.declared.alike.End.{End}
use Rattle.cases_cuttings.proofs.Pieces.{joined}
use Rattle.cases_cuttings.proofs.reads_alike.Goals as goal

pub returns : goal.returns
returns c =
    let s = c.args in
    let read = c.read_in-read.ensures in
    let same = c.same_end in
    record {
      alike = joined _ _ _ c.both.ensures read.answers (subst (λ (e : End). (same.result ≡ true) ↔ (e ≡ s.end)) read.ends same.ensures);
      works = read.works;
      tables = read.tables;
    }
