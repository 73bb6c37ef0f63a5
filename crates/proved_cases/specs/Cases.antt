-- What a case of document 01 marked P says, and a case of request A1: of one list of bytes, what the tree, the byte definition and the descent give for it. The brand
-- wanted is `msdh`; a work area of 49,152 bytes and a leaf table with room for 256 leaves are lent, all 0.
use Rattle.std.specs.Prelude.{ℕ, ◌*◌, ◌≡◌, List, [], ◌∷◌, ◌++◌, Bool, true, false, pos, negsuc, length, replicate, drop, Float, Result, Ok, Err}
use Rattle.std.proofs.Math.Option.{Option, some, none}
use Rattle.std.specs.Float.{nan, inf, fin, binary64}
use Rattle.std.specs.Float.Ieee.{mul, fits}
use Rattle.table.specs.Table.{record_numbers}
use Rattle.segment.specs.Tree.{Leaf, segment}
use Rattle.machine.specs.Faults.{refusal}
use Rattle.machine.specs.declared.Refusal.{Refusal}
use Rattle.state.specs.Calls.{Out, out, whole_of}
use Rattle.state.specs.declared.State.{State}
use Rattle.state.specs.declared.State.TheVariants as state
use Rattle.descent.specs.Whole.{whole_d}
use Rattle.moment.specs.declared.Request.TheVariants as request
use Rattle.moment.specs.Moments.{tick, moment_of}
use Rattle.covering.specs.Lookup.{lookup_of, the_leaf}
use Rattle.covering.specs.Records.{record_of, records_of}
use Rattle.proved_cases.specs.Segments.{msdh, sap_word, entry, S, s_scaled}

-- what is lent
abbrev pub work0 : List ℕ
work0 = replicate 49152 0

abbrev pub table0 : List ℕ
table0 = replicate 1536 0

-- what the tree gives
abbrev pub by_tree : List ℕ → Option (List Leaf)
by_tree bytes = segment msdh bytes

-- what start, one feed of all the bytes and finish give by the byte definition, and what the descent gives
abbrev pub by_bytes : List ℕ → Out (Result ℕ Refusal)
by_bytes bytes = whole_of msdh bytes work0 table0

abbrev pub by_descent : List ℕ → Out (Result ℕ Refusal)
by_descent bytes = whole_d msdh bytes work0 table0

-- a leaf of 60 bytes: position, start, duration, decode time
abbrev pub leaf_at : ℕ → ℕ → ℕ → ℕ → Leaf
leaf_at position start duration time = record { position = position; size = 60; start = start; duration = duration; sap = sap_word; time = time }

-- the leaf table with these leaves listed: its other numbers stay
abbrev pub table_with : List Leaf → List ℕ
table_with leaves = records_of leaves ++ drop (record_numbers * length leaves) table0

-- the work area once S's index was read, and once T's two were read, the top entry with its duration
abbrev pub work_s : List ℕ
work_s = entry 0 60 2000 ++ entry 0 60 3000 ++ replicate 49128 0

abbrev pub work_t : ℕ → List ℕ
work_t duration = entry 1 176 duration ++ replicate 12276 0 ++ entry 0 60 2000 ++ entry 0 60 3000 ++ replicate 36840 0

-- after so many bytes: accepted with these leaves, reference ID 1, timescale 1000, start 5000 and durations 5000; or refused, with these
-- leaves listed before
abbrev pub accepted_state : ℕ → List Leaf → State
accepted_state count leaves = state.Accepted count (length leaves) (record { id = 1; scale = 1000; start = 5000; durations = 5000 })

abbrev pub accepted : ℕ → List Leaf → List ℕ → Out (Result ℕ Refusal)
accepted count leaves work = out (Ok (length leaves)) (accepted_state count leaves) work (table_with leaves)

abbrev pub refused_with : Refusal → ℕ → List Leaf → List ℕ → Out (Result ℕ Refusal)
refused_with x count leaves work = out (Err x) (state.Refused count (length leaves) x) work (table_with leaves)

-- These bytes, so many, are accepted: the tree gives these leaves; byte definition and descent answer how many they are, and leave the
-- accepted state, this work area, and the leaves in the table.
pub record IsAccepted (bytes : List ℕ) (count : ℕ) (leaves : List Leaf) (work : List ℕ) : Type 0 where
  pub counted : length bytes ≡ count
  pub tree : by_tree bytes ≡ some leaves
  pub fed : by_bytes bytes ≡ accepted count leaves work
  pub descended : by_descent bytes ≡ accepted count leaves work

-- These bytes, so many, are refused after some were read: the tree gives none; byte definition and descent answer this refusal, and leave
-- its state, this work area, and the leaves before it in the table.
pub record IsRefused (bytes : List ℕ) (count : ℕ) (x : Refusal) (read : ℕ) (leaves : List Leaf) (work : List ℕ) : Type 0 where
  pub counted : length bytes ≡ count
  pub tree : by_tree bytes ≡ none
  pub fed : by_bytes bytes ≡ refused_with x read leaves work
  pub descended : by_descent bytes ≡ refused_with x read leaves work

-- the leaves of S
abbrev pub first_of_s : Leaf
first_of_s = leaf_at 76 5000 2000 100

abbrev pub second_of_s : Leaf
second_of_s = leaf_at 136 7000 3000 2100

abbrev pub leaves_of_s : List Leaf
leaves_of_s = first_of_s ∷ second_of_s ∷ []

-- "lookup in S: 4999 gives 23; 5000 and 6999 leaf 1; 7000 and 9999 leaf 2; 10000 gives 24", with a state and a leaf table
pub record LookedUp (s : State) (table : List ℕ) : Type 0 where
  pub at_4999 : lookup_of s table (request.Ticks 4999) ≡ Err (refusal 23 0)
  pub at_5000 : lookup_of s table (request.Ticks 5000) ≡ Ok (the_leaf 1 (record_of first_of_s))
  pub at_6999 : lookup_of s table (request.Ticks 6999) ≡ Ok (the_leaf 1 (record_of first_of_s))
  pub at_7000 : lookup_of s table (request.Ticks 7000) ≡ Ok (the_leaf 2 (record_of second_of_s))
  pub at_9999 : lookup_of s table (request.Ticks 9999) ≡ Ok (the_leaf 2 (record_of second_of_s))
  pub at_10000 : lookup_of s table (request.Ticks 10000) ≡ Err (refusal 24 0)

-- The same by seconds: "the leaf found is the one covering the double's exact value times the timescale", which is 1000. A double m / 2^k is
-- written `fin false m (negsuc (k - 1))`, m odd; `below-n` is the double next below n.
pub record SecondsLookedUp (s : State) (table : List ℕ) : Type 0 where
  pub below_5 : lookup_of s table (request.Seconds (fin false 5629499534213119 (negsuc 49))) ≡ Err (refusal 23 0)
  pub at_5 : lookup_of s table (request.Seconds (fin false 5 (pos 0))) ≡ Ok (the_leaf 1 (record_of first_of_s))
  pub below_7 : lookup_of s table (request.Seconds (fin false 7881299347898367 (negsuc 49))) ≡ Ok (the_leaf 1 (record_of first_of_s))
  pub at_7 : lookup_of s table (request.Seconds (fin false 7 (pos 0))) ≡ Ok (the_leaf 2 (record_of second_of_s))
  pub below_10 : lookup_of s table (request.Seconds (fin false 5629499534213119 (negsuc 48))) ≡ Ok (the_leaf 2 (record_of second_of_s))
  pub at_10 : lookup_of s table (request.Seconds (fin false 5 (pos 1))) ≡ Err (refusal 24 0)
  -- "Negative zero is zero": here it lies before the list
  pub negative_zero : lookup_of s table (request.Seconds (fin true 0 (pos 0))) ≡ Err (refusal 23 0)
  -- "A value past the end, however large, gives 24": the largest double
  pub largest : lookup_of s table (request.Seconds (fin false 9007199254740991 (pos 971))) ≡ Err (refusal 24 0)
  -- "26 for not a number, either infinity, or a value below zero": the smallest subnormal among them
  pub not_a_number : lookup_of s table (request.Seconds nan) ≡ Err (refusal 26 0)
  pub infinities : (sign : Bool) → lookup_of s table (request.Seconds (inf sign)) ≡ Err (refusal 26 0)
  pub below_zero : lookup_of s table (request.Seconds (fin true 1 (negsuc 1073))) ≡ Err (refusal 26 0)

-- S is accepted, and looked up with the state that is left: in the table that is left, and in any that starts with S's records, one of
-- nothing but these twelve numbers too.
pub record LookupInS : Type 0 where
  pub accepts : IsAccepted S 196 leaves_of_s work_s
  pub records : records_of leaves_of_s ≡ 76 ∷ 60 ∷ 5000 ∷ 2000 ∷ 2415919104 ∷ 100 ∷ 136 ∷ 60 ∷ 7000 ∷ 3000 ∷ 2415919104 ∷ 2100 ∷ []
  pub in_left : LookedUp (by_bytes S).state (by_bytes S).table
  pub in_any : (behind : List ℕ) → LookedUp (by_bytes S).state (records_of leaves_of_s ++ behind)

-- and by seconds
pub record SecondsInS : Type 0 where
  pub accepts : IsAccepted S 196 leaves_of_s work_s
  pub in_left : SecondsLookedUp (by_bytes S).state (by_bytes S).table
  pub in_any : (behind : List ℕ) → SecondsLookedUp (by_bytes S).state (records_of leaves_of_s ++ behind)

-- 11.666666666666666, the double nearest to 7000 / 600: a little below
abbrev pub below_edge : Float
below_edge = fin false 6567749456581973 (negsuc 48)

-- 600 and 7000 as doubles: 75 · 2^3 and 875 · 2^3
abbrev pub double600 : Float
double600 = fin false 75 (pos 3)

abbrev pub double7000 : Float
double7000 = fin false 875 (pos 3)

-- the accepted state of S with another timescale
abbrev pub scaled_state : ℕ → State
scaled_state scale = state.Accepted 196 2 (record { id = 1; scale = scale; start = 5000; durations = 5000 })

-- "rounding the product first is wrong near a leaf's edge": S with timescale 600, and these seconds. Their product with 600 is below 7000, where
-- leaf 2 starts, so that leaf 1 covers them. Rounded to a double it is 7000, which leaf 2 covers.
pub record RoundingMisses : Type 0 where
  pub held : fits binary64 below_edge ≡ true
  pub rounded : mul binary64 below_edge double600 ≡ double7000
  pub tree : by_tree (s_scaled 600) ≡ some leaves_of_s
  pub fed : by_bytes (s_scaled 600) ≡ out (Ok 2) (scaled_state 600) work_s (table_with leaves_of_s)
  pub exact : lookup_of (by_bytes (s_scaled 600)).state (by_bytes (s_scaled 600)).table (request.Seconds below_edge) ≡ Ok (the_leaf 1 (record_of first_of_s))
  pub descended : by_descent (s_scaled 600) ≡ out (Ok 2) (scaled_state 600) work_s (table_with leaves_of_s)
  pub is_7000 : moment_of (request.Seconds double7000) 1 ≡ some (tick 7000)
  pub of_rounded : lookup_of (by_bytes (s_scaled 600)).state (by_bytes (s_scaled 600)).table (request.Ticks 7000) ≡ Ok (the_leaf 2 (record_of second_of_s))
