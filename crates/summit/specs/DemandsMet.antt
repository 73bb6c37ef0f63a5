-- Demands 2 and 3, of a segment read and of times looked up after it, in ticks or in seconds.
use Rattle.std.specs.Prelude.{ℕ, suc, ◌+◌, ◌≤◌, ◌≡◌, List, ◌↔◌, true, length, Result, Ok, Err}
use Rattle.std.proofs.Math.Option.{some, none}
use Rattle.state.specs.Flow.{work_bytes}
use Rattle.segment.specs.Boxes.{durations}
use Rattle.segment.specs.Tree.{Leaf, Opened, top_index, segment}
use Rattle.segment.specs.Parts.{One, Belongs}
use Rattle.machine.specs.Faults.{refusal}
use Rattle.machine.specs.declared.Refusal.{Refusal}
use Rattle.moment.specs.declared.Request.{Request}
use Rattle.moment.specs.declared.Request.TheVariants as request
use Rattle.moment.specs.Moments.{Moment, moment_of, reaches, before}
use Rattle.state.specs.Calls.{Out, whole_of}
use Rattle.table.specs.Table.{room}
use Rattle.covering.specs.Records.{record_of, leaf_covers, NoLeafCovers}
use Rattle.demands.specs.Demands.{Accepts, BeginsWith}
use Rattle.summit.specs.Calls.{LookupCall, request_of, table_lent, ResolveCall, mark_of, table_of}
use Rattle.covering.specs.declared.Leaf.{Leaf as FoundLeaf}
use Rattle.covering.specs.Lookup.{the_leaf}

-- What a time gets, in ticks or as an exact fraction of them: the leaf that covers it on the index's own time line; a refusal exactly when no leaf
-- covers it, 23 before the list and 24 past it.
pub record TimeAnswered (top : Opened) (ls : List Leaf) (t : Moment) (answer : Result FoundLeaf Refusal) : Type 0 where
  pub found : reaches t top.index.time ≡ true → before t (top.index.time + durations top.index.entries) ≡ true →
      (one : One (λ l. leaf_covers t l ≡ true) ls) × (answer ≡ Ok (the_leaf (suc one.place) (record_of one.item)))
  pub refused_exactly : ((x : Refusal) × (answer ≡ Err x)) ↔ NoLeafCovers ls t
  pub earlier : before t top.index.time ≡ true → answer ≡ Err (refusal 23 0)
  pub past : reaches t (top.index.time + durations top.index.entries) ≡ true → answer ≡ Err (refusal 24 0)

-- What a request gets: its time is answered, seconds being exact with the timescale that the tree's top index states; what is no time gets 26.
pub record RequestAnswered (brand : ℕ) (bytes : List ℕ) (ls : List Leaf) (r : Request) (answer : Result FoundLeaf Refusal) : Type 0 where
  pub timed : (top : Opened) → top_index brand bytes ≡ some top → (t : Moment) → moment_of r top.index.scale ≡ some t → TimeAnswered top ls t answer
  pub no_time : (top : Opened) → top_index brand bytes ≡ some top → moment_of r top.index.scale ≡ none → answer ≡ Err (refusal 26 0)

-- What is accepted: a segment of the tree whose leaves the table has room for, with the state and the list that it should leave; its bytes
-- and its ticks belong; and each request looked up with that state and a table that begins with the list is answered, and each mark with its
-- page.
pub record AcceptedRead (brand : ℕ) (bytes table : List ℕ) (o : Out (Result ℕ Refusal)) : Type 0 where
  pub leaves : List Leaf
  pub allowed : segment brand bytes ≡ some leaves
  pub fits : length leaves ≤ room table
  pub accepts : Accepts brand bytes table leaves o
  pub belongs : Belongs brand bytes leaves
  pub answered : (c : LookupCall) → c.given.0 ≡ o.state → BeginsWith leaves (table_lent c) → RequestAnswered brand bytes leaves (request_of c) c.result
  pub resolved : (c : ResolveCall) → c.given.0 ≡ o.state → BeginsWith leaves (table_of c) →
      (c.result.page ≡ (mark_of c).page) × RequestAnswered brand bytes leaves (request.Seconds (mark_of c).seconds) c.result.answer

pub record DemandsMet (brand : ℕ) (bytes work table : List ℕ) (o : Out (Result ℕ Refusal)) : Type 0 where
  -- Demand 2: "accepts exactly the segments that document 01 allows"; row 15 is for want of room, row 1 for want of a work area.
  pub exact : work_bytes ≤ length work → ((k : ℕ) × (o.answer ≡ Ok k)) ↔ ((ls : List Leaf) × (segment brand bytes ≡ some ls) × (length ls ≤ room table))
  -- "lists exactly their leaves, and answers a time"; demand 3: "each byte of the material belongs .., each tick to one leaf"
  pub accepted : (k : ℕ) → o.answer ≡ Ok k → AcceptedRead brand bytes table o
  -- Demand 3: "what the definition gives for the uncut segment, refusal and place, list, work area and state"
  pub uncut : work_bytes ≤ length work → o ≡ whole_of brand bytes work table
