-- Demand 2: with room enough the reader accepts exactly the segments that the tree has, lists exactly their leaves, and answers a time with
-- the leaf that covers it; a time is refused exactly when no leaf covers it.
use Rattle.std.specs.Prelude.{ℕ, Result, Ok, Err}
use Prim.Native.Nat.{ℕ, zero, suc, ◌+◌, ◌*◌, ◌/◌, ◌≤◌, ◌<◌}
use mathlib.Core.Path.{◌≡◌, refl, ap, sym, ◌∙◌}
use mathlib.Core.Logic.{◌↔◌, ◌≢◌, ⊎_elim}
use mathlib.Core.List.{List, [], ◌∷◌, ◌++◌}
use mathlib.Core.Option.{Option, some, none, some-injective}
use mathlib.Core.Bool.{Bool, true, false}
use native.Mathlib.Omega.{arith}
use lib.Dec.{eqb, ltb}
use lib.ListN.{length, drop}
use borrow.Author.Tests.{eqb-true, ltb-true, ltb-false, le-ltb}
use Rattle.basics.specs.Choose.{pick}
use Rattle.basics.specs.Bytes.{AllBytes}
use Rattle.basics.proofs.Picks.{lt_or_ge, pick_no, pick_holds}
use Rattle.basics.proofs.Options.{then_inv, pick_else}
use Rattle.segment.specs.Constants.{limit}
use Rattle.segment.specs.Boxes.{durations}
use Rattle.segment.specs.Tree.{Leaf, Opened, top_index, segment_parts, segment}
use Rattle.segment.specs.Parts.{At, One}
use Rattle.machine.specs.Faults.{refusal}
use Rattle.machine.specs.Run.{Res, okay, fail, cut}
use Rattle.machine.specs.declared.Refusal.{Refusal}
use Rattle.state.specs.declared.Top.{Top}
use Rattle.state.specs.declared.State.TheVariants as state
use Rattle.state.specs.Flow.{Flow, Left, work_bytes}
use Rattle.table.specs.Table.{room, record_numbers, most_records}
use Rattle.basics.specs.Put.{put_all}
use Rattle.state.specs.Ranges.{in_range, InRange}
use Rattle.state.specs.Calls.{Out, start_of, feed_of, finish_after, whole_of}
use Rattle.state.proofs.RangeTests.{in_range_lem}
use Rattle.state.proofs.Ranges.{start_in_range, feed_in_range, finish_in_range}
use Rattle.descent.specs.Whole.{outcome, read_d, whole_d}
use Rattle.moment.specs.declared.Request.{Request}
use Rattle.moment.specs.Moments.{Moment, moment_of, reaches, before}
use Rattle.moment.proofs.Whole.{moment_under}
use Rattle.covering.specs.Records.{record_of, records_of, leaf_covers, NoLeafCovers}
use Rattle.covering.specs.Lookup.{look_in, look_at, lookup_of, the_leaf}
use Rattle.covering.proofs.Listed.{lookup_refuses}
use Rattle.covering.proofs.TheLeaf.{segment_found, segment_before, segment_past, records_length, lookup_listed}
use Rattle.law_d.proofs.LawD.{law_d}
use Rattle.demands.specs.Verdict.{Verdict, wrong, full, fine, told, Meets, Listing, seat, verdict_by, verdict_of}
use Rattle.demands.specs.Demands.{stated, Accepts, BeginsWith}
use Rattle.basics.proofs.Put.{put_between}
use Rattle.demands.proofs.Seats.{seat_fits, seat_full}
use Rattle.demands.proofs.LawT.{law_t}
use Rattle.demands.proofs.Stated.{read_stated}

-- What a verdict says of the answer and the table.
not_fine : {A : Type 0} (t : Bool) (p : ℕ) (l : Listing) → pick t (full p) wrong ≡ fine l → A
unfolding pick
not_fine true p l e = let z : ◌≡◌ {A = ℕ} 0 1 = cc in absurd (omega arith)
not_fine false p l e = let z : ◌≡◌ {A = ℕ} 0 1 = cc in absurd (omega arith)

verdict_fine : (a : Result ℕ Refusal) (t : List ℕ) (l : Listing) → verdict_by a t ≡ fine l → (a ≡ Ok l.leaves) × (t ≡ l.table)
unfolding verdict_by
verdict_fine (Ok n) t l e =
    let q : ◌≡◌ {A = Listing} (record { leaves = n; table = t }) l = cc in
    (ap (λ (z : Listing). Ok z.leaves) q, ap (λ (z : Listing). z.table) q)
verdict_fine (Err x) t l e = not_fine (eqb x.number 15) x.place l e

is_full : (x : Refusal) (p : ℕ) (t : Bool) → eqb x.number 15 ≡ t → pick {A = Verdict Listing} t (full x.place) wrong ≡ full p → x ≡ refusal 15 p
unfolding pick
is_full x p true q e = let a : x.number ≡ 15 = eqb-true x.number 15 q in let b : x.place ≡ p = cc in rw (← b, ← a)
is_full x p false q e = let z : ◌≡◌ {A = ℕ} 0 1 = cc in absurd (omega arith)

verdict_full : (a : Result ℕ Refusal) (t : List ℕ) (p : ℕ) → verdict_by a t ≡ full p → a ≡ Err (refusal 15 p)
unfolding verdict_by
verdict_full (Ok n) t p e = let z : ◌≡◌ {A = ℕ} 0 1 = cc in absurd (omega arith)
verdict_full (Err x) t p e = ap (λ (y : Refusal). Err y) (is_full x p (eqb x.number 15) refl e)

-- an accepted answer comes from a reading that ends with its last byte
listed_read : (r : Res Top Flow Left) (k : ℕ) → (outcome r).answer ≡ Ok k → (top : Top) × (f : Flow) × (n : ℕ) × (r ≡ okay top f n []) × (f.leaves ≡ k)
unfolding outcome
listed_read (okay top f n []) k e = let q : f.leaves ≡ k = cc in (top, f, n, refl, q)
listed_read (okay top f n (b ∷ bs)) k e = let z : ◌≡◌ {A = ℕ} 0 1 = cc in absurd (omega arith)
listed_read (fail x l n) k e = let z : ◌≡◌ {A = ℕ} 0 1 = cc in absurd (omega arith)
listed_read (cut l n) k e = let z : ◌≡◌ {A = ℕ} 0 1 = cc in absurd (omega arith)

-- a segment of the tree lies within the limit
segment_small : (brand : ℕ) (bytes : List ℕ) (ls : List Leaf) → segment brand bytes ≡ some ls → length bytes ≤ limit
unfolding segment segment_parts
segment_small brand bytes ls e =
    let (ps, parted, leaves) = then_inv (segment_parts brand bytes) _ ls e in
    ltb-false limit (length bytes) (pick_else (ltb limit (length bytes)) _ ps parted).0

accepted_alike : (n m a b : ℕ) (s t : Top) → n ≡ m → a ≡ b → s ≡ t → state.Accepted n a s ≡ state.Accepted m b t
accepted_alike n m a b s t p q r = cc

-- as many records as the room fit the table
room_fits : (table : List ℕ) → record_numbers * room table ≤ length table
unfolding room
room_fits table =
    pick_holds (λ (n : ℕ). record_numbers * n ≤ length table) (ltb most_records (length table / record_numbers)) most_records (length table / record_numbers)
    (λ e. let h = ltb-true most_records (length table / record_numbers) e in omega arith) (λ e. omega arith)

-- below its length a list has something
at_some : {A : Type 0} (ls : List A) (i : ℕ) → i < length ls → (a : A) × At ls i a
at_some [] i h = absurd (omega arith)
at_some (a ∷ ls) zero h = (a, refl)
at_some (a ∷ ls) (suc i) h = at_some ls i (omega arith)

listed_refused : {A : Type 0} (a : Result ℕ Refusal) (k : ℕ) (x : Refusal) → a ≡ Ok k → a ≡ Err x → A
listed_refused a k x p q = let z : ◌≡◌ {A = ℕ} 0 1 = cc in absurd (omega arith)

meets_fine : (v w : Verdict Listing) (l : Listing) → Meets v w → w ≡ fine l → v ≡ fine l
meets_fine v w l m e = rw e at m

meets_full : (v w : Verdict Listing) (p : ℕ) → Meets v w → w ≡ full p → v ≡ full p
meets_full v w p m e = rw e at m

module _ (brand : ℕ) (bytes work table : List ℕ) (all : AllBytes bytes) (long : work_bytes ≤ length work) where
  abbrev o : Out (Result ℕ Refusal)
  o = whole_of brand bytes work table

  -- start, feed and finish come to what the tree says
  whole_meets : Meets (verdict_of o) (told (segment brand bytes) (λ ls. seat ls 0 table))
  whole_meets = rw (← law_d brand bytes work table all) (law_t brand bytes work table long)

  -- an accepted reading of a segment leaves a state that has its bytes, its leaves and what its top index states
  whole_state : (ls : List Leaf) → segment brand bytes ≡ some ls → (k : ℕ) → o.answer ≡ Ok k →
      (top : Opened) × (top_index brand bytes ≡ some top) × (o.state ≡ state.Accepted (length bytes) k (stated top.index))
  unfolding whole_d outcome
  whole_state ls e k listed =
      let r : Res Top Flow Left = read_d brand bytes work table in
      let same : o ≡ outcome r = sym (law_d brand bytes work table all) ∙ pick_no (ltb (length work) work_bytes) _ _ (le-ltb (length work) work_bytes long) in
      let (says, f, n, read, leaves) = listed_read r k (sym (ap (λ (z : Out (Result ℕ Refusal)). z.answer) same) ∙ listed) in
      let (count, top, opened, is-top) = read_stated brand bytes work table says f n (segment_small brand bytes ls e) read in
      let there : o.state ≡ state.Accepted n f.leaves says = ap (λ (z : Out (Result ℕ Refusal)). z.state) same ∙ ap (λ (z : Res Top Flow Left). (outcome z).state) read in
      (top, opened, there ∙ accepted_alike n (length bytes) f.leaves k says (stated top.index) count leaves is-top)

  -- the rows of leaves at the front of the table
  records_front : (ls : List Leaf) → length ls ≤ room table → put_all table (record_numbers * 0) (records_of ls) ≡ records_of ls ++ drop (record_numbers * length ls) table
  records_front ls fits =
      let rows : length (records_of ls) ≡ record_numbers * length ls = records_length ls in
      let q : 0 + length (records_of ls) ≡ record_numbers * length ls = omega arith in
      put_between table 0 (records_of ls) (omega (arith, room_fits table)) ∙ ap (λ (k : ℕ). records_of ls ++ drop k table) q

  seated : (ls : List Leaf) → segment brand bytes ≡ some ls → Meets (verdict_of o) (seat ls 0 table)
  unfolding told
  seated ls e = rw e at whole_meets

  -- A segment of the tree whose leaves the table has room for is accepted with them.
  pub accepts : (ls : List Leaf) → segment brand bytes ≡ some ls → length ls ≤ room table → Accepts brand bytes table ls o
  accepts ls e fits =
      let l : Listing = record { leaves = 0 + length ls; table = put_all table (record_numbers * 0) (records_of ls) } in
      let v = verdict_fine o.answer o.table l (meets_fine (verdict_of o) (seat ls 0 table) l (seated ls e) (seat_fits ls 0 table (omega arith))) in
      let q : 0 + length ls ≡ length ls = omega arith in
      let a : o.answer ≡ Ok (length ls) = v.0 ∙ ap (λ (k : ℕ). Ok k) q in
      let (top, opened, st) = whole_state ls e (length ls) a in
      record { answers = a; top = top; opened = opened; states = st; lists = v.1 ∙ records_front ls fits }

  -- A segment of the tree with more leaves is refused with 15 at the first leaf beyond the room.
  pub refuses_full : (ls : List Leaf) (l : Leaf) → segment brand bytes ≡ some ls → At ls (room table) l → o.answer ≡ Err (refusal 15 l.position)
  refuses_full ls l e at =
      verdict_full o.answer o.table l.position (meets_full (verdict_of o) (seat ls 0 table) l.position (seated ls e) (seat_full ls 0 table (room table) l (omega arith) at))

  -- a segment of the tree whose leaves the table has room for, accepted with those leaves
  abbrev pub Allowed : Type 0
  Allowed = (ls : List Leaf) × (segment brand bytes ≡ some ls) × (length ls ≤ room table) × Accepts brand bytes table ls o

  -- What is accepted is such a segment.
  pub accepted : (k : ℕ) → o.answer ≡ Ok k → Allowed
  unfolding told verdict_by
  accepted k e = by (segment brand bytes) refl
    where
      fine_here : verdict_of o ≡ fine (record { leaves = k; table = o.table })
      fine_here = ap (λ (a : Result ℕ Refusal). verdict_by a o.table) e

      beyond : (ls : List Leaf) → segment brand bytes ≡ some ls → room table < length ls → Allowed
      beyond ls q more = let (l, at) = at_some ls (room table) more in listed_refused o.answer k (refusal 15 l.position) e (refuses_full ls l q at)

      by : (s : Option (List Leaf)) → segment brand bytes ≡ s → Allowed
      by none q = absurd (rw fine_here at (rw q at whole_meets))
      by (some ls) q = ⊎_elim (λ (more : room table < length ls). beyond ls q more) (λ (fits : length ls ≤ room table). (ls, q, fits, accepts ls q fits)) (lt_or_ge (room table) (length ls))

  -- A refusal with another number than 15 says that the tree does not accept.
  pub refused_wrong : (x : Refusal) → o.answer ≡ Err x → x.number ≢ 15 → segment brand bytes ≡ none
  refused_wrong x e other = by (segment brand bytes) refl
    where
      by : (s : Option (List Leaf)) → segment brand bytes ≡ s → s ≡ none
      by none q = refl
      by (some ls) q =
          ⊎_elim
          (λ (more : room table < length ls).
          let (l, at) = at_some ls (room table) more in
          let r : o.answer ≡ Err (refusal 15 l.position) = refuses_full ls l q at in
          let same : x ≡ refusal 15 l.position = cc in
          absurd (other (ap (λ (y : Refusal). y.number) same)))
          (λ (fits : length ls ≤ room table). listed_refused o.answer (length ls) x (accepts ls q fits).answers e)
          (lt_or_ge (room table) (length ls))

  -- "With room enough the reader accepts exactly the segments that document 01 allows."
  pub accepts_exactly : ((k : ℕ) × (o.answer ≡ Ok k)) ↔ ((ls : List Leaf) × (segment brand bytes ≡ some ls) × (length ls ≤ room table))
  accepts_exactly = (
    (λ p. let (ls, e, fits, a) = accepted p.0 p.1 in (ls, e, fits)),
    (λ q. let (ls, e, fits) = q in (length ls, (accepts ls e fits).answers)),
  )

  -- The state left is inside the ranges.
  whole_in_range : InRange o.state
  unfolding finish_after
  whole_in_range = by (feed_of (start_of brand) bytes work table) (feed_in_range (start_of brand) bytes work table all (start_in_range brand)) (feed_of (start_of brand) bytes work table).answer
    where
      by : (p : Out (Result ℕ Refusal)) → InRange p.state → (a : Result ℕ Refusal) → InRange (finish_after p a).state
      by p r (Ok n) = finish_in_range p.state r
      by p r (Err x) = r

  -- the list lent back as it was left
  pub lent_back : (ls : List Leaf) → Accepts brand bytes table ls o → BeginsWith ls o.table
  lent_back ls a = (drop (record_numbers * length ls) table, a.lists)

  -- Requests looked up with the state that an accepted reading leaves and any table that begins with the list.
  module _ (ls : List Leaf) (e : segment brand bytes ≡ some ls) (fits : length ls ≤ room table) (lent : List ℕ) (begins : BeginsWith ls lent) (r : Request) where
    behind : List ℕ
    behind = begins.0

    -- by the timescale that the tree's top index states
    look : (top : Opened) → top_index brand bytes ≡ some top → lookup_of o.state lent r ≡ look_at (length ls) (records_of ls ++ behind) (moment_of r top.index.scale)
    unfolding behind
    look top q =
        let a : Accepts brand bytes table ls o = accepts ls e fits in
        let says : Top = stated a.top.index in
        let same : a.top ≡ top = some-injective _ _ (sym a.opened ∙ q) in
        let inside : in_range (state.Accepted (length bytes) (length ls) says) ≡ true = (in_range_lem (state.Accepted (length bytes) (length ls) says)).1 (rw a.states at whole_in_range) in
        ap (λ (l : List ℕ). lookup_of o.state l r) begins.1
        ∙ rw a.states (lookup_listed (length bytes) ls says begins.0 r inside)
        ∙ ap (λ (t : Opened). look_at (length ls) (records_of ls ++ begins.0) (moment_of r t.index.scale)) same

    module _ (top : Opened) (q : top_index brand bytes ≡ some top) where
      -- What is no time is refused with 26.
      pub no_time : moment_of r top.index.scale ≡ none → lookup_of o.state lent r ≡ Err (refusal 26 0)
      unfolding look_at
      no_time n = look top q ∙ ap (λ (m : Option Moment). look_at (length ls) (records_of ls ++ behind) m) n

      module _ (t : Moment) (asked : moment_of r top.index.scale ≡ some t) where
        some' : 0 < t.under
        some' = moment_under r top.index.scale t asked

        look_in_lem : lookup_of o.state lent r ≡ look_in (length ls) (records_of ls ++ behind) t
        unfolding look_at
        look_in_lem = look top q ∙ ap (λ (m : Option Moment). look_at (length ls) (records_of ls ++ behind) m) asked

        -- A time within the index's own time line gets the one leaf that covers it.
        pub found : reaches t top.index.time ≡ true → before t (top.index.time + durations top.index.entries) ≡ true →
            (one : One (λ l. leaf_covers t l ≡ true) ls) × (lookup_of o.state lent r ≡ Ok (the_leaf (suc one.place) (record_of one.item)))
        found from to = let (one, found) = segment_found brand bytes ls top e q behind t some' from to in (one, look_in_lem ∙ found)

        -- A time is refused exactly when no leaf covers it.
        pub refused_exactly : ((x : Refusal) × (lookup_of o.state lent r ≡ Err x)) ↔ NoLeafCovers ls t
        refused_exactly = rw look_in_lem (lookup_refuses ls behind t)

        -- Before the list it is 23, past it 24.
        pub earlier : before t top.index.time ≡ true → lookup_of o.state lent r ≡ Err (refusal 23 0)
        earlier h = look_in_lem ∙ segment_before brand bytes ls top e q behind t some' h

        pub past : reaches t (top.index.time + durations top.index.entries) ≡ true → lookup_of o.state lent r ≡ Err (refusal 24 0)
        past h = look_in_lem ∙ segment_past brand bytes ls top e q behind t some' h
