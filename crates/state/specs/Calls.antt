-- Start, feed and finish: what each answers, and what it leaves in state, work area and leaf table.
use Rattle.std.specs.Prelude.{ℕ, List, ltb, length, Result, Ok, Err}
use Rattle.basics.specs.Choose.{pick}
use Rattle.machine.specs.declared.Refusal.{Refusal}
use Rattle.machine.specs.Faults.{refusal}
use Rattle.state.specs.declared.State.{State}
use Rattle.state.specs.declared.State.TheVariants as state
use Rattle.state.specs.Flow.{Flow, Left, work_bytes}
use Rattle.state.specs.Step.{World, reading, ended, refused, step_all, stage0}
use Rattle.state.specs.Ranges.{in_range}

-- what a call answers and leaves
pub record Out (A : Type 0) : Type 0 where
  pub answer : A
  pub state : State
  pub work : List ℕ
  pub table : List ℕ

abbrev pub out : {A : Type 0} → A → State → List ℕ → List ℕ → Out A
out a s work table = record { answer = a; state = s; work = work; table = table }

-- what flows from a state and the two buffers lent to it; and what a call leaves of it
abbrev pub flow_of : ℕ → ℕ → ℕ → List ℕ → List ℕ → Flow
flow_of leaves now last work table = record { leaves = leaves; now = now; last = last; work = work; table = table }

abbrev pub left_of : ℕ → List ℕ → List ℕ → Left
left_of leaves work table = record { leaves = leaves; work = work; table = table }

unfoldable pub state_of : World → State
state_of (reading n s f) = state.Reading n f.leaves f.now f.last s
state_of (ended n top kept) = state.Ended n kept.leaves top
state_of (refused n x kept) = state.Refused n kept.leaves x

unfoldable pub work_of : World → List ℕ
work_of (reading n s f) = f.work
work_of (ended n top kept) = kept.work
work_of (refused n x kept) = kept.work

unfoldable pub table_of : World → List ℕ
table_of (reading n s f) = f.table
table_of (ended n top kept) = kept.table
table_of (refused n x kept) = kept.table

-- "An unrefused feed answers the count of all bytes read."
unfoldable pub answer_of : World → Result ℕ Refusal
answer_of (reading n s f) = Ok n
answer_of (ended n top kept) = Ok n
answer_of (refused n x kept) = Err x

abbrev pub fed : World → Out (Result ℕ Refusal)
fed w = out (answer_of w) (state_of w) (work_of w) (table_of w)

-- how many bytes a state has read
unfoldable pub count_of : State → ℕ
count_of (state.Reading n leaves now last s) = n
count_of (state.Ended n leaves top) = n
count_of (state.Refused n leaves x) = n
count_of (state.Accepted n leaves top) = n

-- Start never refuses. The brand is four bytes, as the number that they spell.
abbrev pub start_of : ℕ → State
start_of brand = state.Reading 0 0 0 0 (stage0 brand)

-- the kept refusal, row 22, then bytes
unfoldable pub feed_state : State → List ℕ → List ℕ → List ℕ → Out (Result ℕ Refusal)
feed_state (state.Reading n leaves now last s) piece work table = fed (step_all (reading n s (flow_of leaves now last work table)) piece)
feed_state (state.Ended n leaves top) piece work table = fed (step_all (ended n top (left_of leaves work table)) piece)
feed_state (state.Refused n leaves x) piece work table = out (Err x) (state.Refused n leaves x) work table
feed_state (state.Accepted n leaves top) piece work table = out (Err (refusal 22 0)) (state.Accepted n leaves top) work table

-- "Feed checks 1, 2, the kept refusal, 22, then bytes." Row 1: work area under 49,152 bytes; row 2: a number outside its range.
unfoldable pub feed_of : State → List ℕ → List ℕ → List ℕ → Out (Result ℕ Refusal)
feed_of s piece work table =
    pick (ltb (length work) work_bytes) (out (Err (refusal 1 0)) s work table)
    (pick (in_range s) (feed_state s piece work table) (out (Err (refusal 2 0)) s work table))

-- What finish answers, and the state that it leaves; it is lent no buffer.
pub record Finished : Type 0 where
  pub answer : Result ℕ Refusal
  pub state : State

abbrev pub finished : Result ℕ Refusal → State → Finished
finished a s = record { answer = a; state = s }

-- the kept refusal, row 22, then row 20: finish before the material's end; place is the count of bytes read
unfoldable pub finish_state : State → Finished
finish_state (state.Reading n leaves now last s) = finished (Err (refusal 20 n)) (state.Refused n leaves (refusal 20 n))
finish_state (state.Ended n leaves top) = finished (Ok leaves) (state.Accepted n leaves top)
finish_state (state.Refused n leaves x) = finished (Err x) (state.Refused n leaves x)
finish_state (state.Accepted n leaves top) = finished (Err (refusal 22 0)) (state.Accepted n leaves top)

-- "Finish checks 2, the kept refusal, 22, 20."
unfoldable pub finish_of : State → Finished
finish_of s = pick (in_range s) (finish_state s) (finished (Err (refusal 2 0)) s)

-- Start, one feed of all the bytes, and finish, ending at the first refusal.
unfoldable pub finish_after : Out (Result ℕ Refusal) → Result ℕ Refusal → Out (Result ℕ Refusal)
finish_after o (Ok n) = out (finish_of o.state).answer (finish_of o.state).state o.work o.table
finish_after o (Err x) = out (Err x) o.state o.work o.table

abbrev pub whole_of : ℕ → List ℕ → List ℕ → List ℕ → Out (Result ℕ Refusal)
whole_of brand bytes work table =
    let o : Out (Result ℕ Refusal) = feed_of (start_of brand) bytes work table in
    finish_after o o.answer
