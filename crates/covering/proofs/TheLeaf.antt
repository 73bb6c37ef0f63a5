-- Where the leaves follow one another, as those of a segment do, a time is answered with the one leaf that covers it, refused with 23
-- before the first and with 24 past the last.
use Rattle.std.specs.Prelude.{Ok, Err}
use Prim.Native.Nat.{ℕ, suc, ◌+◌, ◌*◌, ◌≤◌, ◌<◌}
use mathlib.Core.Path.{◌≡◌, refl, sym, ap, ◌∙◌}
use mathlib.Core.List.{List, [], ◌∷◌, ◌++◌}
use mathlib.Core.Logic.{◌⊎◌, inl, inr}
use mathlib.Core.Option.{some}
use mathlib.Core.Bool.{Bool, true, false}
use native.Mathlib.Omega.{arith}
use lib.Dec.{ltb}
use lib.ListN.{length, length-append}
use borrow.Author.Tests.{leb-true, ltb-true, lt-ltb, le-ltb}
use Rattle.basics.proofs.Picks.{pick_yes, pick_no}
use Rattle.table.specs.Table.{record_numbers}
use Rattle.segment.specs.Boxes.{durations}
use Rattle.segment.specs.Tree.{Leaf, Opened, top_index, segment, covers}
use Rattle.segment.specs.Parts.{At, One}
use Rattle.segment.proofs.Edges.{Follow}
use Rattle.segment.proofs.Spans.{one_alike}
use Rattle.segment.proofs.Ticks.{follow_tick, follow_within, leaves_span}
use Rattle.segment.proofs.NonEmpty.{leaves_some}
use Rattle.machine.specs.Faults.{refusal}
use Rattle.moment.specs.declared.Request.{Request}
use Rattle.moment.specs.Moments.{Moment, moment_of, reaches, before}
use Rattle.moment.specs.Worth.{whole}
use Rattle.moment.proofs.Whole.{reaches_whole, before_whole}
use Rattle.state.specs.declared.Top.{Top}
use Rattle.state.specs.declared.State.TheVariants as state
use Rattle.state.specs.Ranges.{in_range}
use Rattle.covering.specs.Lookup.{look_in, look_at, lookup_state, lookup_of, the_leaf}
use Rattle.covering.specs.Records.{record_of, records_of, leaf_covers, outside_number, NoLeafCovers}
use Rattle.covering.proofs.Edges.{covers_whole}
use Rattle.covering.proofs.Listed.{found_exact, refused_exact}

-- what a test of a time against a tick says of the time's whole part
module _ (t : Moment) (some' : 0 < t.under) (a : ℕ) where
  whole_from : reaches t a ≡ true → a ≤ whole t
  whole_from e = leb-true a (whole t) (sym (reaches_whole t some' a) ∙ e)

  whole_below : before t a ≡ true → whole t < a
  whole_below e = ltb-true (whole t) a (sym (before_whole t some' a) ∙ e)

  below_whole : whole t < a → before t a ≡ true
  below_whole h = before_whole t some' a ∙ lt-ltb (whole t) a h

  from_whole : a ≤ whole t → before t a ≡ false
  from_whole h = before_whole t some' a ∙ le-ltb (whole t) a h

module _ (ls : List Leaf) (from to : ℕ) (follow : Follow from ls to) (t : Moment) (some' : 0 < t.under) where
  -- a leaf that covers a time covers its whole part
  covers_its_whole : (l : Leaf) → leaf_covers t l ≡ true → covers (whole t) l ≡ true
  covers_its_whole l e = sym (covers_whole l t some') ∙ e

  -- two leaves that cover a time are the same leaf
  pub one_covers : (i j : ℕ) (l m : Leaf) → At ls i l → At ls j m → leaf_covers t l ≡ true → leaf_covers t m ≡ true → i ≡ j
  one_covers i j l m at at' here here' =
      let (low, high) = follow_within ls from to follow (whole t) i l at (covers_its_whole l here) in
      let one = follow_tick ls from to follow (whole t) low high in
      one.only i l at (covers_its_whole l here) ∙ sym (one.only j m at' (covers_its_whole m here'))

  -- a leaf that covers a time is the answer to it
  pub follow_found : (rest : List ℕ) (i : ℕ) (l : Leaf) → At ls i l → leaf_covers t l ≡ true → look_in (length ls) (records_of ls ++ rest) t ≡ Ok (the_leaf (suc i) (record_of l))
  follow_found rest i l there here = found_exact ls rest t i l there here (λ j m low at. no_other j m low at (leaf_covers t m) refl)
    where
      no_other : (j : ℕ) (m : Leaf) → j < i → At ls j m → (c : Bool) → leaf_covers t m ≡ c → c ≡ false
      no_other j m low at false e = refl
      no_other j m low at true e = let same = one_covers i j l m there at here e in absurd (omega arith)

  -- a time within the span of the leaves is covered by exactly one of them
  pub follow_moment : reaches t from ≡ true → before t to ≡ true → One (λ l. leaf_covers t l ≡ true) ls
  follow_moment low high =
      one_alike (λ l. covers (whole t) l ≡ true) (λ l. leaf_covers t l ≡ true) ls (λ l e. covers_whole l t some' ∙ e) (λ l e. covers_its_whole l e)
      (follow_tick ls from to follow (whole t) (whole_from t some' from low) (whole_below t some' to high))

  -- and answered with that leaf
  pub follow_one : (rest : List ℕ) → reaches t from ≡ true → before t to ≡ true →
      (one : One (λ l. leaf_covers t l ≡ true) ls) × (look_in (length ls) (records_of ls ++ rest) t ≡ Ok (the_leaf (suc one.place) (record_of one.item)))
  follow_one rest low high =
      let one = follow_moment low high in
      (one, follow_found rest one.place one.item one.there one.has)

  -- no leaf covers a time outside the span
  pub outside_uncovered : (whole t < from) ⊎ (to ≤ whole t) → NoLeafCovers ls t
  outside_uncovered out i l there = at out (leaf_covers t l) refl
    where
      at : (whole t < from) ⊎ (to ≤ whole t) → (c : Bool) → leaf_covers t l ≡ c → c ≡ false
      at o false e = refl
      at (inl before') true e = let (low, high) = follow_within ls from to follow (whole t) i l there (covers_its_whole l e) in absurd (omega arith)
      at (inr past) true e = let (low, high) = follow_within ls from to follow (whole t) i l there (covers_its_whole l e) in absurd (omega arith)

before_number : (ls : List Leaf) (from to : ℕ) (t : Moment) → 0 < t.under → Follow from ls to → 0 < length ls → whole t < from → outside_number ls t ≡ 23
unfolding outside_number
before_number [] from to t some' follow any early = absurd (omega arith)
before_number (l ∷ ls) from to t some' follow any early = let first = follow.0 in pick_yes (before t l.start) 23 24 (below_whole t some' l.start (omega arith))

follow_forward : (ls : List Leaf) (from to : ℕ) → Follow from ls to → from ≤ to
follow_forward [] from to follow = omega arith
follow_forward (l ∷ ls) from to follow = let rest = follow_forward ls (from + l.duration) to follow.1 in omega arith

past_number : (ls : List Leaf) (from to : ℕ) (t : Moment) → 0 < t.under → Follow from ls to → to ≤ whole t → outside_number ls t ≡ 24
unfolding outside_number
past_number [] from to t some' follow past = refl
past_number (l ∷ ls) from to t some' follow past =
    let first = follow.0 in
    let on = follow_forward (l ∷ ls) from to follow in
    pick_no (before t l.start) 23 24 (from_whole t some' l.start (omega arith))

-- A time before the first leaf is refused with 23.
pub follow_before : (ls : List Leaf) (from to : ℕ) → Follow from ls to → 0 < length ls → (rest : List ℕ) (t : Moment) → 0 < t.under → before t from ≡ true →
    look_in (length ls) (records_of ls ++ rest) t ≡ Err (refusal 23 0)
follow_before ls from to follow any rest t some' early =
    let low = whole_below t some' from early in
    refused_exact ls rest t (outside_uncovered ls from to follow t some' (inl low)) ∙ ap (λ (n : ℕ). Err (refusal n 0)) (before_number ls from to t some' follow any low)

-- A time at or past the end of the last leaf is refused with 24.
pub follow_past : (ls : List Leaf) (from to : ℕ) → Follow from ls to → (rest : List ℕ) (t : Moment) → 0 < t.under → reaches t to ≡ true →
    look_in (length ls) (records_of ls ++ rest) t ≡ Err (refusal 24 0)
follow_past ls from to follow rest t some' past =
    let high = whole_from t some' to past in
    refused_exact ls rest t (outside_uncovered ls from to follow t some' (inr high)) ∙ ap (λ (n : ℕ). Err (refusal n 0)) (past_number ls from to t some' follow high)

-- The leaves of an accepted segment, in a table that starts with their records, and any time.
module _ (brand : ℕ) (xs : List ℕ) (ls : List Leaf) (top : Opened) (accepted : segment brand xs ≡ some ls) (opened : top_index brand xs ≡ some top) (rest : List ℕ)
    (t : Moment) (some' : 0 < t.under) where
  -- within the span of the top index: the one leaf that covers the time
  pub segment_found : reaches t top.index.time ≡ true → before t (top.index.time + durations top.index.entries) ≡ true →
      (one : One (λ l. leaf_covers t l ≡ true) ls) × (look_in (length ls) (records_of ls ++ rest) t ≡ Ok (the_leaf (suc one.place) (record_of one.item)))
  segment_found = follow_one ls top.index.time (top.index.time + durations top.index.entries) (leaves_span brand xs ls top accepted opened) t some' rest

  -- before it: 23
  pub segment_before : before t top.index.time ≡ true → look_in (length ls) (records_of ls ++ rest) t ≡ Err (refusal 23 0)
  segment_before =
      follow_before ls top.index.time (top.index.time + durations top.index.entries) (leaves_span brand xs ls top accepted opened) (leaves_some brand xs ls accepted) rest t some'

  -- past it: 24
  pub segment_past : reaches t (top.index.time + durations top.index.entries) ≡ true → look_in (length ls) (records_of ls ++ rest) t ≡ Err (refusal 24 0)
  segment_past = follow_past ls top.index.time (top.index.time + durations top.index.entries) (leaves_span brand xs ls top accepted opened) rest t some'

pub records_length : (ls : List Leaf) → length (records_of ls) ≡ record_numbers * length ls
unfolding records_of
records_length [] = refl
records_length (l ∷ ls) = let rest = records_length ls in omega arith

-- An accepted state inside the ranges that counts these leaves looks them up.
pub lookup_listed : (n : ℕ) (ls : List Leaf) (top : Top) (rest : List ℕ) (r : Request) → in_range (state.Accepted n (length ls) top) ≡ true →
    lookup_of (state.Accepted n (length ls) top) (records_of ls ++ rest) r ≡ look_at (length ls) (records_of ls ++ rest) (moment_of r top.scale)
unfolding lookup_of lookup_state
lookup_listed n ls top rest r fine =
    let rows = records_length ls in
    let both = length-append (records_of ls) rest in
    pick_yes (in_range (state.Accepted n (length ls) top)) _ _ fine
    ∙ pick_no (ltb (length (records_of ls ++ rest)) (record_numbers * length ls)) _ _ (le-ltb (length (records_of ls ++ rest)) (record_numbers * length ls) (omega arith))
