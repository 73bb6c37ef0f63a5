-- The summit is not empty: of all bytes, however they are cut, and of all that can be lent, there are calls as the contracts allow them. Each
-- call answers what its definition gives.
use Rattle.std.specs.Prelude.{ℕ, Result}
use Prim.Native.Nat.{ℕ}
use mathlib.Core.Path.{◌≡◌, refl, ap}
use mathlib.Core.List.{List, [], ◌∷◌, map}
use contract.Lifetimes.{Lfts}
use denote.Ref.{Bor}
use denote.MutBor.{MutBor}
use Rattle.basics.specs.Bytes.{number, AllBytes}
use Rattle.basics.proofs.Bytes.{bytes_first, bytes_second}
use Rattle.machine.specs.declared.Refusal.{Refusal}
use Rattle.state.specs.declared.State.{State}
use Rattle.moment.specs.declared.Request.{Request}
use Rattle.state.specs.Calls.{Out, start_of, finish_of}
use Rattle.state.specs.Cutting.{Held, held, held_after, feed_held, feed_all, joined}
use Rattle.covering.specs.Lookup.{lookup_of}
use Rattle.marks.specs.declared.Mark.{Mark}
use Rattle.marks.specs.Marks.{resolve_of}
use Rattle.demands.specs.Demands.{in_parts}
use Rattle.summit.specs.Calls.{StartCall, FeedCall, FinishCall, LookupCall, piece_of, InOrder, SegmentRead, request_of, table_lent, ResolveCall, mark_of, table_of}

-- anything lent, wherever it stands
lent : {X : Type 0} → X → Bor X
lent x = record { ref_ptr = (0, 0); now = x }

-- and where it may be written
lent_whole : {X : Type 0} → X → MutBor X
lent_whole x = record { ref_ptr = (0, 0); ghost_name = 0; now = x }

module _ (κs : Lfts 3) where
  starting : List ℕ → StartCall
  starting letters = record { lifetimes = tt; given = (letters, tt); result = start_of (number letters); left = (tt, tt); promised = λ met. refl }

  finishing : State → FinishCall
  finishing s = record { lifetimes = tt; given = (s, tt); result = record { answer = (finish_of s).answer; state = (finish_of s).state }; left = (tt, tt); promised = λ met. refl }

  feeding : (h : Held) (part : List ℕ) → AllBytes part → FeedCall
  unfolding lent lent_whole
  feeding h part bytes =
      let o : Out (Result ℕ Refusal) = feed_held h part in
      record {
        lifetimes = κs;
        given = (h.state, (lent part, (lent_whole h.work, (lent_whole h.table, tt))));
        result = record { answer = o.answer; state = o.state };
        left = (tt, (tt, (o.work, (o.table, tt))));
        promised = λ met. (refl, bytes);
      }

  -- the parts fed one after the other
  feeding_all : (parts : List (List ℕ)) → Held → AllBytes (joined parts) → List FeedCall
  unfolding joined
  feeding_all [] h bytes = []
  feeding_all (part ∷ parts) h bytes =
      feeding h part (bytes_first part (joined parts) bytes) ∷ feeding_all parts (held_after (feed_held h part)) (bytes_second part (joined parts) bytes)

  fed_pieces : (parts : List (List ℕ)) (h : Held) (bytes : AllBytes (joined parts)) → map piece_of (feeding_all parts h bytes) ≡ parts
  unfolding feeding_all feeding lent lent_whole
  fed_pieces [] h bytes = refl
  fed_pieces (part ∷ parts) h bytes = ap (λ (ps : List (List ℕ)). part ∷ ps) (fed_pieces parts (held_after (feed_held h part)) (bytes_second part (joined parts) bytes))

  fed_in_order : (parts : List (List ℕ)) (h : Held) (bytes : AllBytes (joined parts)) → InOrder h (feeding_all parts h bytes) (feed_all h parts)
  unfolding feeding_all feeding lent lent_whole InOrder feed_all
  fed_in_order [] h bytes = refl
  fed_in_order (part ∷ parts) h bytes = (refl, fed_in_order parts (held_after (feed_held h part)) (bytes_second part (joined parts) bytes))

  -- a request looked up, whatever the state and the table
  pub looking : (s : State) (table : List ℕ) (r : Request) → (c : LookupCall) × (c.given.0 ≡ s) × (table_lent c ≡ table) × (request_of c ≡ r)
  unfolding lent
  looking s table r =
      (record { lifetimes = (κs.0, tt); given = (s, (lent table, (r, tt))); result = lookup_of s table r; left = (tt, (tt, (tt, tt))); promised = λ met. refl }, refl, refl, refl)

  -- a mark resolved, likewise
  pub resolving : (s : State) (table : List ℕ) (m : Mark) → (c : ResolveCall) × (c.given.0 ≡ s) × (table_of c ≡ table) × (mark_of c ≡ m)
  unfolding lent
  resolving s table m =
      (record { lifetimes = (κs.0, tt); given = (s, (lent table, (m, tt))); result = resolve_of s table m; left = (tt, (tt, (tt, tt))); promised = λ met. refl }, refl, refl, refl)

  -- A segment is read, whatever its bytes and however they are cut.
  pub readable : (letters : List ℕ) (parts : List (List ℕ)) (work table : List ℕ) → AllBytes (joined parts) →
      SegmentRead (number letters) parts work table (in_parts (number letters) parts work table)
  unfolding starting finishing
  readable letters parts work table bytes =
      let before : Held = held (start_of (number letters)) work table in
      record {
        start = starting letters;
        wants = refl;
        feeds = feeding_all parts before bytes;
        pieces = fed_pieces parts before bytes;
        end = feed_all before parts;
        in_order = fed_in_order parts before bytes;
        finish = finishing (feed_all before parts).state;
        ends = refl;
        gives = refl;
      }
