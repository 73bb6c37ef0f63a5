-- The cases of document 01 marked P, and cases of request A1, each one statement over one list, by computation; what a statement says stands in specs `Cases`.
use Rattle.std.specs.Prelude.{Ok}
use Prim.Native.Nat.{ℕ}
use mathlib.Core.Path.{◌≡◌, refl}
use mathlib.Core.List.{List, [], ◌∷◌, ◌++◌}
use mathlib.Core.Bool.{true, false}
use mathlib.Core.Option.{some}
use native.Mathlib.Omega.{arith}
use lib.Dec.{ltb}
use lib.Ieee.{binary64, mul, fits}
use lib.ListN.{length, take, drop}
use borrow.Author.Tests.{le-ltb}
use Rattle.machine.specs.Faults.{refusal}
use Rattle.moment.specs.declared.Request.TheVariants as request
use Rattle.moment.specs.Moments.{tick, moment_of}
use Rattle.state.specs.Calls.{out}
use Rattle.covering.specs.Lookup.{lookup_of, the_leaf}
use Rattle.covering.specs.Records.{record_of, records_of}
use Rattle.proved_cases.specs.Segments.{S, s_with, s_scaled, T, t_with}
use Rattle.proved_cases.specs.Cases.{work0, table0, by_tree, by_bytes, by_descent, leaf_at, table_with, work_s}
use Rattle.proved_cases.specs.Cases.{work_t, accepted_state, scaled_state, below_edge, double600, double7000, first_of_s, second_of_s, leaves_of_s}
use Rattle.proved_cases.specs.Cases.{IsAccepted, IsRefused, LookedUp, SecondsLookedUp, LookupInS, SecondsInS, RoundingMisses}
use Rattle.proved_cases.proofs.Computing.{the_segments, the_tree, the_descent, the_lookup}

-- S: 196 bytes, leaves at 76 and 136.
pub s_accepted : IsAccepted S 196 leaves_of_s work_s
unfolding the_segments the_tree the_descent the_lookup
s_accepted = record { counted = refl; tree = refl; fed = refl; descended = refl }

-- a table that starts with two records is long enough for the two leaves
looked_up : (behind : List ℕ) → LookedUp (accepted_state 196 leaves_of_s) (records_of leaves_of_s ++ behind)
unfolding the_descent the_lookup
looked_up behind =
    let fits : ltb (length (records_of leaves_of_s ++ behind)) 12 ≡ false = le-ltb (length (records_of leaves_of_s ++ behind)) 12 (omega arith) in
    record { at_4999 = rw fits; at_5000 = rw fits; at_6999 = rw fits; at_7000 = rw fits; at_9999 = rw fits; at_10000 = rw fits }

-- the records of S's leaves, number by number
records_of_s : records_of leaves_of_s ≡ 76 ∷ 60 ∷ 5000 ∷ 2000 ∷ 2415919104 ∷ 100 ∷ 136 ∷ 60 ∷ 7000 ∷ 3000 ∷ 2415919104 ∷ 2100 ∷ []
unfolding the_lookup
records_of_s = refl

-- Lookup in S: 4999 gives 23; 5000 and 6999 leaf 1; 7000 and 9999 leaf 2; 10000 gives 24.
pub s_lookup : LookupInS
s_lookup =
    record {
      accepts = s_accepted;
      records = records_of_s;
      in_left = rw s_accepted.fed (looked_up (drop 12 table0));
      in_any = λ behind. rw s_accepted.fed (looked_up behind);
    }

-- the same table, by seconds
seconds_looked_up : (behind : List ℕ) → SecondsLookedUp (accepted_state 196 leaves_of_s) (records_of leaves_of_s ++ behind)
unfolding the_descent the_lookup
seconds_looked_up behind =
    let fits : ltb (length (records_of leaves_of_s ++ behind)) 12 ≡ false = le-ltb (length (records_of leaves_of_s ++ behind)) 12 (omega arith) in
    record {
      below_5 = rw fits;
      at_5 = rw fits;
      below_7 = rw fits;
      at_7 = rw fits;
      below_10 = rw fits;
      at_10 = rw fits;
      negative_zero = rw fits;
      largest = rw fits;
      not_a_number = rw fits;
      infinities = λ sign. rw fits;
      below_zero = rw fits;
    }

-- Lookup in S by seconds: the doubles next below 5, 7 and 10, and these; zero with a sign; the largest; and what is no time.
pub s_seconds : SecondsInS
s_seconds =
    record {
      accepts = s_accepted;
      in_left = rw s_accepted.fed (seconds_looked_up (drop 12 table0));
      in_any = λ behind. rw s_accepted.fed (seconds_looked_up behind);
    }

-- S with timescale 600, read
scaled_tree : by_tree (s_scaled 600) ≡ some leaves_of_s
unfolding the_segments the_tree
scaled_tree = refl

scaled_fed : by_bytes (s_scaled 600) ≡ out (Ok 2) (scaled_state 600) work_s (table_with leaves_of_s)
unfolding the_segments the_descent the_lookup
scaled_fed = refl

scaled_descended : by_descent (s_scaled 600) ≡ out (Ok 2) (scaled_state 600) work_s (table_with leaves_of_s)
unfolding the_segments the_descent the_lookup
scaled_descended = refl

-- the leaves that are found in it
scaled_exact : lookup_of (scaled_state 600) (table_with leaves_of_s) (request.Seconds below_edge) ≡ Ok (the_leaf 1 (record_of first_of_s))
unfolding the_descent the_lookup
scaled_exact = refl

scaled_ticks : lookup_of (scaled_state 600) (table_with leaves_of_s) (request.Ticks 7000) ≡ Ok (the_leaf 2 (record_of second_of_s))
unfolding the_descent the_lookup
scaled_ticks = refl

below_edge_held : fits binary64 below_edge ≡ true
unfolding fits
below_edge_held = refl

-- the product, rounded to a double
below_edge_rounded : mul binary64 below_edge double600 ≡ double7000
unfolding mul
below_edge_rounded = refl

edge_ticks : moment_of (request.Seconds double7000) 1 ≡ some (tick 7000)
unfolding the_lookup
edge_ticks = refl

-- A product that is rounded first gives the wrong leaf.
pub rounding_misses : RoundingMisses
rounding_misses =
    record {
      held = below_edge_held;
      rounded = below_edge_rounded;
      tree = scaled_tree;
      fed = scaled_fed;
      exact = rw scaled_fed scaled_exact;
      descended = scaled_descended;
      is_7000 = edge_ticks;
      of_rounded = rw scaled_fed scaled_ticks;
    }

-- S without its last byte: 20, place 195.
pub s_short : IsRefused (take 195 S) 195 (refusal 20 195) 195 (first_of_s ∷ []) work_s
unfolding the_segments the_tree the_descent the_lookup
s_short = record { counted = refl; tree = refl; fed = refl; descended = refl }

-- S and one byte more, whichever it is: 21, place 196.
pub s_more : (b : ℕ) → IsRefused (S ++ (b ∷ [])) 197 (refusal 21 196) 197 leaves_of_s work_s
unfolding the_segments the_tree the_descent the_lookup
s_more b = record { counted = refl; tree = refl; fed = refl; descended = refl }

-- No bytes: 20, place 0.
pub no_bytes : IsRefused [] 0 (refusal 20 0) 0 [] work0
unfolding the_tree the_descent the_lookup
no_bytes = record { counted = refl; tree = refl; fed = refl; descended = refl }

-- T: 240 bytes, leaves at 120 and 180.
pub t_accepted : IsAccepted T 240 (leaf_at 120 5000 2000 100 ∷ leaf_at 180 7000 3000 2100 ∷ []) (work_t 5000)
unfolding the_segments the_tree the_descent the_lookup
t_accepted = record { counted = refl; tree = refl; fed = refl; descended = refl }

-- T with entry duration 4999: 12, place 64.
pub t_4999 : IsRefused (t_with 4999) 240 (refusal 12 64) 120 [] (work_t 4999)
unfolding the_segments the_tree the_descent the_lookup
t_4999 = record { counted = refl; tree = refl; fed = refl; descended = refl }

-- S with second decode time 99: 18, place 168.
pub s_99 : IsRefused (s_with 99) 196 (refusal 18 168) 184 (first_of_s ∷ []) work_s
unfolding the_segments the_tree the_descent the_lookup
s_99 = record { counted = refl; tree = refl; fed = refl; descended = refl }

-- With 100: accepted.
pub s_100 : IsAccepted (s_with 100) 196 (first_of_s ∷ leaf_at 136 7000 3000 100 ∷ []) work_s
unfolding the_segments the_tree the_descent the_lookup
s_100 = record { counted = refl; tree = refl; fed = refl; descended = refl }
