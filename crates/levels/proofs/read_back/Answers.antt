-- `levels::read_back` meets its contract, by those of `next_entry`, `inmost` and `entry_answer`, and by the law `entry_small`.
use mathlib.Core.Path.{ap, ◌∙◌}
use Rattle.state.specs.declared.Level.{Level}
use Rattle.state.specs.Levels.{inmost}
use Rattle.state.specs.declared.StoredEntry.{StoredEntry}
use Rattle.levels.specs.Views.{read_of}
use Rattle.levels.proofs.Places.{entry_small}
use Rattle.levels.proofs.read_back.Goals as goal

pub entry_answer-requires : goal.entry_answer-requires
entry_answer-requires c =
    let asked = c.requires in
    rw (c.inmost.ensures, c.next_entry-e.ensures) (asked.2, asked.3, asked.4, entry_small _ _)

pub returns : goal.returns
returns c =
    let a = c.args in
    c.entry_answer.ensures
    ∙ ap (λ (l : Level). read_of l c.next_entry-e.result a.at a.n) c.inmost.ensures
    ∙ ap (λ (e : StoredEntry). read_of (inmost a.ls) e a.at a.n) c.next_entry-e.ensures
