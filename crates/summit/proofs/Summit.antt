-- The summit: from the contracts of start, feed, finish, lookup and resolve alone to demands 2 and 3. A segment read by calls that the contracts allow
-- is the parts fed and finished of the definition, by one equation a call; what is proved of those does the rest.
use Rattle.std.specs.Prelude.{ℕ, Result, Ok}
use Prim.Native.Nat.{ℕ, ◌≤◌}
use mathlib.Core.Path.{◌≡◌, ap, sym, subst, ◌∙◌}
use mathlib.Core.List.{List, [], ◌∷◌, map}
use mathlib.Core.Option.{some}
use lib.ListN.{length}
use Rattle.basics.specs.Bytes.{AllBytes}
use Rattle.basics.proofs.Bytes.{bytes_both}
use Rattle.segment.specs.Tree.{Leaf, segment}
use Rattle.machine.specs.declared.Refusal.{Refusal}
use Rattle.state.specs.Flow.{work_bytes}
use Rattle.state.specs.declared.State.{State}
use Rattle.table.specs.Table.{room}
use Rattle.state.specs.Calls.{Out, out, start_of, Finished, finish_of, whole_of}
use Rattle.state.specs.Cutting.{Held, held, held_after, feed_held, feed_all, finish_held, joined}
use Rattle.start.proofs.OneOutcome.{start_once}
use Rattle.feed.proofs.OneOutcome.{feed_once}
use Rattle.finish.proofs.OneOutcome.{finish_once}
use Rattle.lookup.proofs.OneOutcome.{lookup_once}
use Rattle.marks.specs.declared.Resolved.{Resolved}
use Rattle.marks.proofs.OneOutcome.{resolve_once}
use Rattle.demands.specs.Demands.{Accepts, BeginsWith, in_parts}
use Rattle.moment.specs.declared.Request.{Request}
use Rattle.moment.specs.declared.Request.TheVariants as request
use Rattle.covering.specs.Lookup.{lookup_of}
use Rattle.demands.proofs.Exact.{accepts_exactly, no_time, found, refused_exactly, earlier, past}
use Rattle.demands.proofs.CutAnywhere.{cut_anywhere, accepted_long, accepted_belongs}
use Rattle.summit.specs.Calls.{FeedCall, FinishCall, piece_of, given_to, held_by, InOrder, SegmentRead, request_of, table_lent, mark_of, table_of}
use Rattle.summit.specs.DemandsMet.{RequestAnswered, AcceptedRead, DemandsMet}
use Rattle.covering.specs.declared.Leaf.{Leaf as FoundLeaf}

-- A call of feed: what it answers and leaves, and that its piece holds bytes.
fed_as : (c : FeedCall) → (out c.result.answer c.result.state c.left.1.1.0 c.left.1.1.1.0 ≡ feed_held (given_to c) (piece_of c)) × AllBytes (piece_of c)
fed_as c = c.promised (feed_once.asks_nothing c.lifetimes c.given)

-- Calls of feed in order: what is held after them, and that all they are given are bytes.
in_order_held : (cs : List FeedCall) (before end : Held) → InOrder before cs end → end ≡ feed_all before (map piece_of cs)
unfolding InOrder feed_all
in_order_held [] before end e = sym e
in_order_held (c ∷ cs) before end e =
    let left : held_by c ≡ held_after (feed_held before (piece_of c)) =
    ap (λ (o : Out (Result ℕ Refusal)). held_after o) (fed_as c).0 ∙ ap (λ (h : Held). held_after (feed_held h (piece_of c))) e.0 in
    in_order_held cs (held_by c) end e.1 ∙ ap (λ (h : Held). feed_all h (map piece_of cs)) left

all_bytes : (cs : List FeedCall) → AllBytes (joined (map piece_of cs))
unfolding joined
all_bytes [] = tt
all_bytes (c ∷ cs) = bytes_both (piece_of c) (joined (map piece_of cs)) (fed_as c).1 (all_bytes cs)

module _ (brand : ℕ) (parts : List (List ℕ)) (work table : List ℕ) (o : Out (Result ℕ Refusal)) (r : SegmentRead brand parts work table o) where
  abbrev bytes : List ℕ
  bytes = joined parts

  -- what is read are bytes
  read_bytes : AllBytes bytes
  read_bytes = rw (← r.pieces) (all_bytes r.feeds)

  started : r.start.result ≡ start_of brand
  started = r.start.promised (start_once.asks_nothing r.start.lifetimes r.start.given) ∙ ap start_of r.wants

  -- the reading is that of the definition
  read_is : o ≡ in_parts brand parts work table
  read_is =
      let c : FinishCall = r.finish in
      let end : Held = r.end in
      let whole : Finished → Out (Result ℕ Refusal) = λ f. out f.answer f.state end.work end.table in
      let ended : o ≡ finish_held end =
      sym r.gives ∙ ap whole (c.promised (finish_once.asks_nothing c.lifetimes c.given)) ∙ ap (λ (s : State). whole (finish_of s)) r.ends in
      ended
      ∙ ap finish_held (in_order_held r.feeds (held r.start.result work table) end r.in_order)
      ∙ ap (λ (s : State). finish_held (feed_all (held s work table) (map piece_of r.feeds))) started
      ∙ ap (λ (ps : List (List ℕ)). in_parts brand ps work table) r.pieces

  uncut : work_bytes ≤ length work → o ≡ whole_of brand bytes work table
  uncut long = read_is ∙ cut_anywhere brand parts work table read_bytes long

  -- a request looked up after it, by whichever call: an answer of the definition, with the state that is left and a table that begins with the list
  module _ (ls : List Leaf) (allowed : segment brand bytes ≡ some ls) (fits : length ls ≤ room table) (long : work_bytes ≤ length work)
      (s : State) (lent : List ℕ) (q : Request) (a : Result FoundLeaf Refusal) (says : a ≡ lookup_of s lent q) (same : s ≡ o.state) (begins : BeginsWith ls lent) where
    looked : a ≡ lookup_of (whole_of brand bytes work table).state lent q
    looked = says ∙ ap (λ (z : State). lookup_of z lent q) (same ∙ ap (λ (z : Out (Result ℕ Refusal)). z.state) (uncut long))

    answered : RequestAnswered brand bytes ls q a
    answered =
        subst (RequestAnswered brand bytes ls q) (sym looked)
        (record {
          timed = λ top opened t asked.
              record {
                found = found brand bytes work table read_bytes long ls allowed fits lent begins q top opened t asked;
                refused_exactly = refused_exactly brand bytes work table read_bytes long ls allowed fits lent begins q top opened t asked;
                earlier = earlier brand bytes work table read_bytes long ls allowed fits lent begins q top opened t asked;
                past = past brand bytes work table read_bytes long ls allowed fits lent begins q top opened t asked;
              };
          no_time = no_time brand bytes work table read_bytes long ls allowed fits lent begins q;
        })

  accepted : (k : ℕ) → o.answer ≡ Ok k → AcceptedRead brand bytes table o
  accepted k e =
      let listed : (in_parts brand parts work table).answer ≡ Ok k = sym (ap (λ (z : Out (Result ℕ Refusal)). z.answer) read_is) ∙ e in
      let (ls, allowed, fits, accepts, belongs) = accepted_belongs brand parts work table read_bytes k listed in
      let long : work_bytes ≤ length work = accepted_long brand parts work table k listed in
      record {
        leaves = ls;
        allowed = allowed;
        fits = fits;
        accepts = subst (Accepts brand bytes table ls) (sym read_is) accepts;
        belongs = belongs;
        answered = λ c same begins.
            answered ls allowed fits long c.given.0 (table_lent c) (request_of c) c.result (c.promised (lookup_once.asks_nothing c.lifetimes c.given)) same begins;
        resolved = λ c same begins.
            let kept = c.promised (resolve_once.asks_nothing c.lifetimes c.given) in (
              ap (λ (z : Resolved). z.page) kept,
              answered ls allowed fits long c.given.0 (table_of c) (request.Seconds (mark_of c).seconds) c.result.answer (ap (λ (z : Resolved). z.answer) kept) same begins,
            );
      }

  -- The summit.
  pub summit : DemandsMet brand bytes work table o
  summit = record { exact = λ long. rw (uncut long) (accepts_exactly brand bytes work table read_bytes long); accepted = accepted; uncut = uncut }
