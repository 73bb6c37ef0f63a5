-- What a reading with a leaf table comes to, and what the tree says it should come to: fine with what it gives, full at the first leaf
-- beyond the room, or wrong.
use Rattle.std.specs.Prelude.{ℕ, suc, ◌+◌, ◌≡◌, List, [], ◌∷◌, eqb, Result, Ok, Err}
use Rattle.std.proofs.Math.Option.{Option, some, none}
use Rattle.basics.specs.Choose.{pick}
use Rattle.segment.specs.Tree.{Leaf, Part, leaf_part, index_part}
use Rattle.machine.specs.declared.Refusal.{Refusal}
use Rattle.machine.specs.Run.{Res, okay, fail, cut}
use Rattle.state.specs.Calls.{Out}
use Rattle.state.specs.declared.Seen.{Seen}
use Rattle.table.specs.Table.{put_record}
use Rattle.state.specs.Flow.{Flow, Left, listed}
use Rattle.state.specs.Rows.{no_room}
use Rattle.state.specs.Leaf.{leaf_so0}
use Rattle.covering.specs.Records.{record_of}
use Rattle.demands.specs.Told.{climb}

pub data Verdict (X : Type 0) : Type 0 where
  wrong : Verdict X
  full : ℕ → Verdict X
  fine : X → Verdict X

-- of a reading: number 15 is full, at its place; every other refusal is wrong
unfoldable pub judge : {R X : Type 0} → Res R Flow Left → (R → Flow → ℕ → List ℕ → Verdict X) → Verdict X
judge (okay r f n bs) k = k r f n bs
judge (fail x l n) k = pick (eqb x.number 15) (full x.place) wrong
judge (cut l n) k = wrong

-- of the tree: what it does not accept is wrong
unfoldable pub told : {A X : Type 0} → Option A → (A → Verdict X) → Verdict X
told none k = wrong
told (some a) k = k a

-- the decode times of a leaf, after the last one before it
abbrev pub seen0 : ℕ → Seen
seen0 last = (leaf_so0 last).seen

-- the tree's leaves listed one after the other: each needs room, and decode times that do not fall; an inner index lists nothing
unfoldable pub enlist : {X : Type 0} → List Part → Flow → (Flow → Verdict X) → Verdict X
enlist [] f k = k f
enlist (leaf_part l times ∷ ps) f k =
    pick (no_room f.leaves f.table) (full l.position)
    (told (climb (seen0 f.last) times) (λ s. enlist ps (listed f (record_of l) (l.start + l.duration) s.last) k))
enlist (index_part position size ∷ ps) f k = enlist ps f k

-- A reading meets what the tree says: the same, but where the tree says wrong it may be full as well.
abbrev pub NotFine : {X : Type 0} → Verdict X → Type 0
NotFine wrong = Unit {0}
NotFine (full p) = Unit {0}
NotFine (fine x) = ⊥

abbrev pub Meets : {X : Type 0} → Verdict X → Verdict X → Type 0
Meets v wrong = NotFine v
Meets v (full p) = v ≡ full p
Meets v (fine x) = v ≡ fine x

-- What a list of leaves comes to in a leaf table that has so many records already: each record is written after the last one, and the
-- first leaf beyond the room is where the table is full.
pub record Listing : Type 0 where
  pub leaves : ℕ
  pub table : List ℕ

unfoldable pub seat : List Leaf → ℕ → List ℕ → Verdict Listing
seat [] n table = fine (record { leaves = n; table = table })
seat (l ∷ ls) n table = pick (no_room n table) (full l.position) (seat ls (suc n) (put_record table n (record_of l)))

-- what the whole reading comes to: its list, or 15 at a place, or another refusal
unfoldable pub verdict_by : Result ℕ Refusal → List ℕ → Verdict Listing
verdict_by (Ok n) table = fine (record { leaves = n; table = table })
verdict_by (Err x) table = pick (eqb x.number 15) (full x.place) wrong

abbrev pub verdict_of : Out (Result ℕ Refusal) → Verdict Listing
verdict_of o = verdict_by o.answer o.table
