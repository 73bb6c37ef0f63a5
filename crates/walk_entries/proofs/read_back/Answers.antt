-- `walk_entries::read_back` meets its contract, by those of `entry_at` and `entry_answer`.
use Prim.Native.Nat.{◌+◌, ◌-◌, ◌*◌}
use mathlib.Core.Path.{◌≡◌, ap, ◌∙◌}
use native.Mathlib.Omega.{arith}
use Rattle.segment.specs.Constants.{entry_bytes}
use Rattle.state.specs.Flow.{level_bytes}
use Rattle.state.specs.Levels.{entry_at}
use Rattle.state.specs.declared.StoredEntry.{StoredEntry}
use Rattle.levels.specs.Views.{read_of}
use Rattle.levels.proofs.Places.{entry_small}
use Rattle.walk_entries.proofs.read_back.Goals as goal

pub entry_answer-requires : goal.entry_answer-requires
entry_answer-requires c = (omega arith, omega arith, omega arith, rw c.entry_at.ensures (entry_small _ _))

pub returns : goal.returns
returns c =
    let a = c.args in
    let place : level_bytes * (4 - a.left) + entry_bytes * a.l.next ≡ level_bytes * (5 - a.left - 1) + entry_bytes * a.l.next = omega arith in
    c.entry_answer.ensures
    ∙ ap (λ (e : StoredEntry). read_of a.l e a.so.now a.so.n) (c.entry_at.ensures ∙ ap (entry_at a.work.now) place)
