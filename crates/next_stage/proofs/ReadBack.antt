-- A stage's step and the two buffers, had back from what is read of them: readings that are equal are of equal steps and buffers.
use Prim.Native.Nat.{ℕ}
use mathlib.Core.Path.{◌≡◌, refl, sym, ◌∙◌}
use mathlib.Core.List.{List}
use Rattle.basics.proofs.Outcomes.{left_inverse_equal}
use Rattle.std.specs.Prelude.{Ok, Err}
use Rattle.machine.specs.Run.{Sub, go, done, bad}
use Rattle.state.specs.declared.Stage.{Stage}
use Rattle.state.specs.declared.Top.{Top}
use Rattle.state.specs.Flow.{Flow, Left}
use Rattle.next_stage.specs.declared.Running.{Running}
use Rattle.machine.specs.declared.Step.TheVariants as step
use Rattle.next_stage.specs.Views.{StageAnswer, view_stage}

abbrev running_in : Flow → Running
running_in f = record { leaves = f.leaves; now = f.now; last = f.last }

abbrev step_in : Sub Stage Top Flow Left → StageAnswer
step_in (go s f) = Ok (step.Going (s, running_in f))
step_in (done top f) = Ok (step.Done (top, running_in f))
step_in (bad x kept) = Err x

abbrev work_in : Sub Stage Top Flow Left → List ℕ
work_in (go s f) = f.work
work_in (done top f) = f.work
work_in (bad x kept) = kept.work

abbrev table_in : Sub Stage Top Flow Left → List ℕ
table_in (go s f) = f.table
table_in (done top f) = f.table
table_in (bad x kept) = kept.table

module _ (leaves : ℕ) (work table : List ℕ) where
  step_back : (q : StageAnswer) → step_in (view_stage leaves work table q) ≡ q
  step_back (Ok (step.Going p)) = refl
  step_back (Ok (step.Done p)) = refl
  step_back (Err x) = refl

  work_back : (q : StageAnswer) → work_in (view_stage leaves work table q) ≡ work
  work_back (Ok (step.Going p)) = refl
  work_back (Ok (step.Done p)) = refl
  work_back (Err x) = refl

  table_back : (q : StageAnswer) → table_in (view_stage leaves work table q) ≡ table
  table_back (Ok (step.Going p)) = refl
  table_back (Ok (step.Done p)) = refl
  table_back (Err x) = refl

-- two steps with their buffers that read as one thing
module _ (leaves : ℕ) (work work' table table' : List ℕ) (q q' : StageAnswer) (z : Sub Stage Top Flow Left) where
  module _ (p : view_stage leaves work table q ≡ z) (p' : view_stage leaves work' table' q' ≡ z) where
    pub one_step : q ≡ q'
    one_step = left_inverse_equal step_in (step_back leaves work table q) (step_back leaves work' table' q') (p ∙ sym p')

    pub one_work : work ≡ work'
    one_work = left_inverse_equal work_in (work_back leaves work table q) (work_back leaves work' table' q') (p ∙ sym p')

    pub one_table : table ≡ table'
    one_table = left_inverse_equal table_in (table_back leaves work table q) (table_back leaves work' table' q') (p ∙ sym p')
