-- A segment fed in parts: each part with the state and the two buffers that the one before left, whatever it answered.
use Rattle.std.specs.Prelude.{ℕ, List, [], ◌∷◌, ◌++◌, Result}
use Rattle.machine.specs.declared.Refusal.{Refusal}
use Rattle.state.specs.declared.State.{State}
use Rattle.state.specs.Calls.{Out, out, feed_of, finish_of}

-- what the caller holds between two calls: the state, and the buffers that it lends
pub record Held : Type 0 where
  pub state : State
  pub work : List ℕ
  pub table : List ℕ

abbrev pub held : State → List ℕ → List ℕ → Held
held s work table = record { state = s; work = work; table = table }

-- what a call left
abbrev pub held_after : {A : Type 0} → Out A → Held
held_after o = held o.state o.work o.table

-- the next part fed, and finish called
abbrev pub feed_held : Held → List ℕ → Out (Result ℕ Refusal)
feed_held h part = feed_of h.state part h.work h.table

abbrev pub finish_held : Held → Out (Result ℕ Refusal)
finish_held h = out (finish_of h.state).answer (finish_of h.state).state h.work h.table

-- parts fed in order: what is held after the last, or where there is none, what was held before
unfoldable pub feed_all : Held → List (List ℕ) → Held
feed_all h [] = h
feed_all h (part ∷ parts) = feed_all (held_after (feed_held h part)) parts

-- the bytes of the parts
unfoldable pub joined : List (List ℕ) → List ℕ
joined [] = []
joined (part ∷ parts) = part ++ joined parts
