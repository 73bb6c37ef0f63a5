-- Leaves listed one after the other, whose decode times never fall, come to what their list comes to.
use Prim.Native.Nat.{ℕ, zero, suc, ◌+◌, ◌*◌, ◌≤◌}
use mathlib.Core.Path.{◌≡◌, refl, ap, ◌∙◌}
use mathlib.Core.List.{List, [], ◌∷◌, ◌++◌}
use mathlib.Core.Option.{some, none}
use mathlib.Core.Bool.{Bool, true, false, true≢false, false≢true}
use native.Mathlib.Omega.{arith}
use lib.Dec.{ltb}
use lib.ListN.{length}
use borrow.Author.Tests.{le-leb, lt-leb}
use Rattle.segment.specs.Parts.{At}
use Rattle.basics.specs.Choose.{pick}
use Rattle.basics.proofs.Options.{absurd_some}
use Rattle.segment.specs.Leaves.{never_fall}
use Rattle.segment.specs.Tree.{Leaf, Part, leaf_part, index_part, times_in, leaves_in}
use Rattle.state.specs.declared.Seen.{Seen}
use Rattle.state.specs.Flow.{Flow, listed}
use Rattle.table.specs.Table.{room, record_numbers, numbers_of, put_record}
use Rattle.basics.specs.Put.{put_all}
use Rattle.state.specs.Rows.{no_room}
use Rattle.state.specs.Traf.{saw}
use Rattle.demands.specs.Told.{climb}
use Rattle.covering.specs.Records.{record_of, records_of}
use Rattle.demands.specs.Verdict.{Verdict, full, fine, told, seen0, enlist, NotFine, Listing, seat}
use Rattle.basics.proofs.Put.{put_length, put_more}
use Rattle.demands.proofs.Verdicts.{pick_not, told_not}

-- times that never fall, first some and then others
record Climbs (s : Seen) (ts us : List ℕ) : Type 0 where
  top : Seen
  climbed : climb s ts ≡ some top
  rest : never_fall top.last us ≡ true

climb_on : (s : Seen) (ts us : List ℕ) → never_fall s.last (ts ++ us) ≡ true → Climbs s ts us
unfolding never_fall climb saw pick
climb_on s [] us e = record { top = s; climbed = refl; rest = e }
climb_on s (t ∷ ts) us e = at (ltb t s.last) refl e (λ r. climb_on (saw s true t) ts us r)
  where
    at : (b : Bool) → ltb t s.last ≡ b → pick b false (never_fall t (ts ++ us)) ≡ true → (never_fall t (ts ++ us) ≡ true → Climbs (saw s true t) ts us) → Climbs s (t ∷ ts) us
    at true q r h = absurd (false≢true r)
    at false q r h = let c = h r in record { top = c.top; climbed = rw q c.climbed; rest = c.rest }

-- times that fall, among the first or among the others
climb_off : (s : Seen) (ts us : List ℕ) → never_fall s.last (ts ++ us) ≡ false → (s' : Seen) → climb s ts ≡ some s' → never_fall s'.last us ≡ false
unfolding never_fall climb saw pick
climb_off s [] us e s' c = let q : s ≡ s' = cc in rw (← q) e
climb_off s (t ∷ ts) us e s' c = at (ltb t s.last) refl e c (λ r d. climb_off (saw s true t) ts us r s' d)
  where
    at : (b : Bool) → ltb t s.last ≡ b → pick b false (never_fall t (ts ++ us)) ≡ false → pick b none (climb (saw s true t) ts) ≡ some s' →
        (never_fall t (ts ++ us) ≡ false → climb (saw s true t) ts ≡ some s' → never_fall s'.last us ≡ false) → never_fall s'.last us ≡ false
    at true q r d h = absurd_some d
    at false q r d h = h r d

-- what a reading gives where all its leaves are listed
abbrev pub listing : Flow → Verdict Listing
listing f = fine (record { leaves = f.leaves; table = f.table })

pub enlist_seat : (ps : List Part) (f : Flow) → never_fall f.last (times_in ps) ≡ true → enlist ps f listing ≡ seat (leaves_in ps) f.leaves f.table
unfolding enlist seat times_in leaves_in told listed
enlist_seat [] f e = refl
enlist_seat (leaf_part l ts ∷ ps) f e =
    let c = climb_on (seen0 f.last) ts (times_in ps) e in
    ap (pick (no_room f.leaves f.table) (full l.position)) (rw c.climbed (enlist_seat ps (listed f (record_of l) (l.start + l.duration) c.top.last) c.rest))
enlist_seat (index_part p s ∷ ps) f e = enlist_seat ps f e

pub enlist_falls : {X : Type 0} (ps : List Part) (f : Flow) (k : Flow → Verdict X) → never_fall f.last (times_in ps) ≡ false → NotFine (enlist ps f k)
unfolding enlist times_in never_fall listed
enlist_falls [] f k e = absurd (true≢false e)
enlist_falls (leaf_part l ts ∷ ps) f k e =
    pick_not (no_room f.leaves f.table) (full l.position) _ tt
    (told_not (climb (seen0 f.last) ts) _ (λ s c. enlist_falls ps (listed f (record_of l) (l.start + l.duration) s.last) k (climb_off (seen0 f.last) ts (times_in ps) e s c)))
enlist_falls (index_part p s ∷ ps) f k e = enlist_falls ps f k e

-- The room is a table's length, which no record changes.
room_put : (table : List ℕ) (i : ℕ) (xs : List ℕ) → room (put_all table i xs) ≡ room table
unfolding room
room_put table i xs = rw (put_length table i xs)

-- leaves that the table has room for
pub seat_fits : (ls : List Leaf) (n : ℕ) (table : List ℕ) → n + length ls ≤ room table →
    seat ls n table ≡ fine (record { leaves = n + length ls; table = put_all table (record_numbers * n) (records_of ls) })
unfolding seat put_all records_of pick
seat_fits [] n table h = let q : n + 0 ≡ n = omega arith in rw q
seat_fits (l ∷ ls) n table h =
    let next : List ℕ = put_record table n (record_of l) in
    let q : n + suc (length ls) ≡ suc n + length ls = omega arith in
    let r : record_numbers * suc n ≡ record_numbers * n + length (numbers_of (record_of l)) = omega arith in
    rw (lt-leb (room table) n (omega arith), q)
    (seat_fits ls (suc n) next (rw (room_put table (record_numbers * n) (numbers_of (record_of l))) (omega arith))
    ∙ ap (λ (t : List ℕ). fine (record { leaves = suc n + length ls; table = t }))
    (ap (λ (k : ℕ). put_all next k (records_of ls)) r ∙ put_more table (record_numbers * n) (numbers_of (record_of l)) (records_of ls)))

-- leaves beyond the room: the first of them is where the table is full
pub seat_full : (ls : List Leaf) (n : ℕ) (table : List ℕ) (i : ℕ) (l : Leaf) → n + i ≡ room table → At ls i l → seat ls n table ≡ full l.position
unfolding seat pick
seat_full [] n table i l h at = absurd_some at
seat_full (m ∷ ls) n table zero l h at =
    let q : m ≡ l = cc in
    rw (le-leb (room table) n (omega arith), q)
seat_full (m ∷ ls) n table (suc i) l h at =
    rw (lt-leb (room table) n (omega arith)) (seat_full ls (suc n) (put_record table n (record_of m)) i l (rw (room_put table (record_numbers * n) (numbers_of (record_of m))) (omega arith)) at)
