-- An index box by structure accepts as the tree does, and stores its entries.
use Prim.Native.Nat.{ℕ, zero, suc, ◌+◌, ◌-◌, ◌*◌, ◌≤◌, ◌<◌}
use mathlib.Core.Path.{◌≡◌, refl, ap, sym, ◌∙◌}
use mathlib.Core.Logic.{◌≢◌, ⊎_elim}
use mathlib.Core.List.{List, [], ◌∷◌, ◌++◌}
use mathlib.Core.Option.{Option, some, none}
use mathlib.Core.Bool.{Bool, true, false, not, true≢false, ◌&&◌, ◌||◌}
use native.Mathlib.Omega.{arith}
use lib.Dec.{eqb, ltb}
use lib.ListN.{length, take, drop, length-append, length-drop, take-append-drop, drop_of_length-le}
use lib.Seq.{take-append-le, drop-append-le, drop-drop, take-add, take_all, length-take-le}
use borrow.Author.Tests.{not-true, not-false, ltb-true, ltb-false, eqb-true, eqb-false, ne_eqb, le-ltb}
use Rattle.basics.specs.Choose.{pick, and_then}
use Rattle.basics.specs.Bytes.{number_from, number}
use Rattle.basics.proofs.Picks.{lt_or_ge, pick_with}
use Rattle.basics.proofs.Tests.{and_both, or_neither, same_test}
use Rattle.basics.proofs.Options.{then_cong, then_none, then_assoc, then_inv, then_pick, pick_then, pick_some, pick_else, absurd_some}
use Rattle.segment.specs.Constants.{entry_bytes, most_entries}
use Rattle.segment.specs.Boxes.{provided, except, Field, field, Entry, entry_of, entries_of, sizes, durations, time_bytes, sidx_index}
use Rattle.segment.specs.Boxes as tree
use Rattle.segment.proofs.Said.{then_goes, field_some, field_none}
use Rattle.segment.proofs.NonEmpty.{entries_count, Sized, entries_sized}
use Rattle.machine.specs.Faults.{shows}
use Rattle.machine.specs.Faults as faults
use Rattle.machine.specs.Run.{Res, okay, fail, field_d, plain}
use Rattle.machine.specs.declared.Refusal.{Refusal}
use Rattle.machine.proofs.Faults.{none_first, none_second, shows_none}
use Rattle.machine.proofs.Readings.{Says, each_any, says_okay, says_unless, says_kept, says_field}
use Rattle.state.specs.declared.Span.{Span}
use Rattle.state.specs.declared.Top.{Top}
use Rattle.state.specs.declared.Slot.{Slot}
use Rattle.state.specs.declared.Draft.{Draft}
use Rattle.state.specs.declared.Sums.{Sums}
use Rattle.state.specs.declared.IndexRead.{IndexRead}
use Rattle.state.specs.declared.EntryPart.{EntryPart}
use Rattle.state.specs.declared.EntryPart.TheVariants as entry
use Rattle.state.specs.Flow.{Flow, Left, left, with_work}
use Rattle.basics.specs.Put.{put_all}
use Rattle.state.specs.Sidx.{sidx_version_faults, id_faults, scale_faults, time_faults, offset_faults, count_faults, sum_faults, entry_size_faults}
use Rattle.state.specs.Sidx.{Place, topmost, under, part_of, wide_more, index_of, entry_size, plus_size, plus_duration, next_entry, word_place, number_place, keep_byte}
use Rattle.descent.specs.Sidx.{close_d, entry_d, entries_d, counted_d, count_d, reserved_d, offset_d, time_d, scale_d, id_d, flags_d, version_d, sidx_d}
use Rattle.demands.specs.Told.{upon, clean, index_from, entry_part, with_entries, suits}
use Rattle.demands.proofs.Upons.{upon_here, upon_unless, upon_okay, clean_append, clean_shows}
use Rattle.demands.proofs.Stored.{entry_here, entry_here_lem}
use Rattle.basics.proofs.Put.{put_more}

-- what flows with bytes put into the work area
abbrev pub put_into : Flow → ℕ → List ℕ → Flow
put_into f i xs = with_work f (put_all f.work i xs)

-- A number of an entry, each byte of it stored: with `m` bytes to come, they are put one after the other.
kept : {R : Type 0} (p : Place) (e : EntryPart) (s : Sums) (k : ℕ → Flow → ℕ → List ℕ → Res R Flow Left) (m acc : ℕ) (f : Flow) (n : ℕ) (bs : List ℕ) → m ≤ 4 → m ≤ length bs →
    field_d left (keep_byte p e s) k m acc f n bs ≡ k (number_from acc (take m bs)) (put_into f (number_place p e s + (4 - m)) (take m bs)) (n + m) (drop m bs)
unfolding field_d number_from put_all
kept p e s k zero acc f n [] h l = let q : n + 0 ≡ n = omega arith in rw q
kept p e s k zero acc f n (b ∷ bs) h l = let q : n + 0 ≡ n = omega arith in rw q
kept p e s k (suc m) acc f n [] h l = absurd (omega arith)
kept p e s k (suc m) acc f n (b ∷ bs) h l =
    let q : n + suc m ≡ suc n + m = omega arith in
    let q1 : 4 - suc m ≡ 3 - m = omega arith in
    let q2 : number_place p e s + (4 - m) ≡ suc (number_place p e s + (3 - m)) = omega arith in
    rw (q, q1) (rw q2 at (kept p e s k m (acc * 256 + b) (keep_byte p e s f m b) (suc n) bs (omega arith) (omega arith)))

-- what is known of the entries after one more
abbrev plus_entry : Sums → Entry → Sums
plus_entry s e = record { next = s.next; count = s.count; sizes = s.sizes + e.size; durations = s.durations + e.duration }

-- the three numbers of an entry put one after the other are its bytes put at once
three_words : (w : List ℕ) (base : ℕ) (xs : List ℕ) → entry_bytes ≤ length xs →
    put_all (put_all (put_all w (base + 0) (take 4 xs)) (base + 4) (take 4 (drop 4 xs))) (base + 8) (take 4 (drop 4 (drop 4 xs))) ≡ put_all w base (take entry_bytes xs)
three_words w base xs h =
    let q0 : base + 0 ≡ base = omega arith in
    let l4 = length-take-le 4 xs (omega arith) in
    let l8 = length-take-le 8 xs (omega arith) in
    let t8 : take 8 xs ≡ take 4 xs ++ take 4 (drop 4 xs) = take-add 4 4 xs in
    let t12 : take 12 xs ≡ take 8 xs ++ take 4 (drop 8 xs) = take-add 8 4 xs in
    let d : drop 4 (drop 4 xs) ≡ drop 8 xs = drop-drop 4 4 xs in
    let a : put_all (put_all w base (take 4 xs)) (base + 4) (take 4 (drop 4 xs)) ≡ put_all w base (take 8 xs) = rw t8 (rw l4 at (put_more w base (take 4 xs) (take 4 (drop 4 xs)))) in
    let b : put_all (put_all w base (take 8 xs)) (base + 8) (take 4 (drop 8 xs)) ≡ put_all w base (take 12 xs) = rw t12 (rw l8 at (put_more w base (take 8 xs) (take 4 (drop 8 xs)))) in
    rw (q0, a, d) b

-- a fault that a byte shows where a test holds
upon_shows : {R X : Type 0} (t : Bool) (number' pos : ℕ) (l : Left) (n : ℕ) (r : Res R Flow Left) (k : R → Flow → ℕ → List ℕ → Option X) (o : Option X) → upon r k ≡ o →
    upon (faults.unless (shows t number' pos) (λ x. fail x l n) r) k ≡ pick t none o
unfolding upon shows faults.unless pick
upon_shows true number' pos l n r k o e = refl
upon_shows false number' pos l n r k o e = e

-- faults that a byte shows, and what is made of what goes on
upon_then : {R X : Type 0} (xs : List Refusal) (l : Left) (n : ℕ) (r : Res R Flow Left) (k : R → Flow → ℕ → List ℕ → Option X) (o : Option X) → upon r k ≡ o →
    upon (faults.unless xs (λ x. fail x l n) r) k ≡ pick (clean xs) o none
upon_then xs l n r k o e = upon_unless xs l n r k ∙ ap (λ z. pick (clean xs) z none) e

-- the count's tests, of the reader and of the tree
count_tests : {X : Type 0} (zero' many fits : Bool) (a b : Option X) → (zero' ≡ false → fits ≡ true → a ≡ b) →
    pick (not (not fits) && not (zero' || many)) a none ≡ pick zero' none (pick many none (pick fits b none))
unfolding pick
count_tests true many true a b e = refl
count_tests true many false a b e = refl
count_tests false true true a b e = refl
count_tests false true false a b e = refl
count_tests false false true a b e = e refl refl
count_tests false false false a b e = refl

-- what is left after bytes that are there
dropped : (m : ℕ) (zs : List ℕ) → m ≤ length zs → m + length (drop m zs) ≡ length zs
dropped m zs l = omega (arith, length-drop m zs)

-- The numbers of an index one after the other: what is left after each, with times of 8 bytes or of 4.
abbrev wide : Bool → ℕ
wide t = suc (wide_more t)

module _ (t : Bool) (xs : List ℕ) where
  abbrev at_flags : List ℕ
  at_flags = drop 1 xs

  abbrev at_id : List ℕ
  at_id = drop 3 at_flags

  abbrev at_scale : List ℕ
  at_scale = drop 4 at_id

  abbrev at_time : List ℕ
  at_time = drop 4 at_scale

  abbrev at_offset : List ℕ
  at_offset = drop (wide t) at_time

  abbrev at_reserved : List ℕ
  at_reserved = drop (wide t) at_offset

  abbrev at_count : List ℕ
  at_count = drop 2 at_reserved

  abbrev at_entries : List ℕ
  at_entries = drop 2 at_count

  abbrev id_here : ℕ
  id_here = number (take 4 at_id)

  abbrev scale_here : ℕ
  scale_here = number (take 4 at_scale)

  abbrev time_here : ℕ
  time_here = number (take (wide t) at_time)

  abbrev offset_here : ℕ
  offset_here = number (take (wide t) at_offset)

  abbrev count_here : ℕ
  count_here = number (take 2 at_count)

  abbrev draft_here : Draft
  draft_here = record { wide = t; id = id_here; scale = scale_here; time = time_here; offset = offset_here }

  -- the bytes before the entries
  abbrev before : ℕ
  before = 16 + wide t + wide t

  entries_at : at_entries ≡ drop before xs
  entries_at = let q : 1 + 3 + 4 + 4 + (wide t + wide t) + 2 + 2 ≡ before = omega arith in simp drop-drop (rw q)

  -- the bytes of each number are there
  record Rooms : Type 0 where
    version_fits : 1 ≤ length xs
    flags_fit : 3 ≤ length at_flags
    id_fits : 4 ≤ length at_id
    scale_fits : 4 ≤ length at_scale
    time_fits : wide t ≤ length at_time
    offset_fits : wide t ≤ length at_offset
    reserved_fits : 2 ≤ length at_reserved
    count_fits : 2 ≤ length at_count
    entries_left : before + length at_entries ≡ length xs

  rooms : before ≤ length xs → Rooms
  rooms l =
      let l1 = dropped 1 xs (omega arith) in
      let l2 = dropped 3 at_flags (omega arith) in
      let l3 = dropped 4 at_id (omega arith) in
      let l4 = dropped 4 at_scale (omega arith) in
      let l5 = dropped (wide t) at_time (omega arith) in
      let l6 = dropped (wide t) at_offset (omega arith) in
      let l7 = dropped 2 at_reserved (omega arith) in
      let l8 = dropped 2 at_count (omega arith) in
      omega arith

  rooms_from : 2 ≤ length at_count → Rooms
  rooms_from h =
      let q : 1 + 3 + 4 + 4 + (wide t + wide t) + 2 ≡ before - 2 = omega arith in
      let c : at_count ≡ drop (before - 2) xs = simp drop-drop (rw q) in
      rooms (omega (arith, ap length c, length-drop (before - 2) xs))

  -- the index of the tree, where the bytes of its numbers are there
  abbrev rest_here : Option tree.Index
  rest_here =
      except (eqb scale_here 0)
      (except (eqb count_here 0)
      (except (ltb most_entries count_here)
      (provided (eqb (length at_entries) (entry_bytes * count_here))
      (and_then (entries_of count_here at_entries) (λ entries.
      some (record { id = id_here; scale = scale_here; time = time_here; offset = offset_here; entries = entries }))))))

  sidx_here : time_bytes (number (take 1 xs)) ≡ some (wide t) → Rooms → sidx_index xs ≡ rest_here
  unfolding sidx_index and_then
  sidx_here e r =
      rw (
        field_some 1 xs r.version_fits,
        e,
        field_some 3 at_flags r.flags_fit,
        field_some 4 at_id r.id_fits,
        field_some 4 at_scale r.scale_fits,
        field_some (wide t) at_time r.time_fits,
        field_some (wide t) at_offset r.offset_fits,
        field_some 2 at_reserved r.reserved_fits,
        field_some 2 at_count r.count_fits,
      )

-- a number that was read had its bytes there
field_inv : {A : Type 0} (m : ℕ) (xs : List ℕ) (g : Field → Option A) (a : A) → and_then (field m xs) g ≡ some a →
    (m ≤ length xs) × (g (record { value = number (take m xs); rest = drop m xs }) ≡ some a)
field_inv m xs g a e =
    ⊎_elim (λ (few : length xs < m). absurd_some (sym (field_none m xs g few) ∙ e)) (λ (l : m ≤ length xs). (l, sym (then_goes (field m xs) g _ (field_some m xs l)) ∙ e)) (lt_or_ge (length xs) m)

-- there is no version above 1
time_none : (v : ℕ) → 1 < v → time_bytes v ≡ none
unfolding time_bytes pick
time_none v l = rw (ne_eqb v 0 (λ q. omega arith), ne_eqb v 1 (λ q. omega arith))

-- a version has times of 4 bytes or of 8
time_inv : {A : Type 0} (v : ℕ) (g : ℕ → Option A) (a : A) → and_then (time_bytes v) g ≡ some a → (time_bytes v ≡ some (wide (eqb v 1))) × (g (wide (eqb v 1)) ≡ some a)
unfolding time_bytes wide_more and_then pick
time_inv zero g a e = (refl, e)
time_inv (suc zero) g a e = (refl, e)
time_inv (suc (suc v)) g a e = absurd_some (sym (ap (λ o. and_then o g) (time_none (suc (suc v)) (omega arith))) ∙ e)

time_known : (v : ℕ) → v ≤ 1 → time_bytes v ≡ some (wide (eqb v 1))
unfolding time_bytes wide_more pick
time_known zero l = refl
time_known (suc zero) l = refl
time_known (suc (suc v)) l = absurd (omega arith)

-- the version, and whether it has times of 8 bytes
abbrev version_here : List ℕ → ℕ
version_here xs = number (take 1 xs)

abbrev wide_here : List ℕ → Bool
wide_here xs = eqb (version_here xs) 1

-- An index of the tree has a version that there is, and the bytes of its numbers.
record Found (t : Bool) (xs : List ℕ) (i : tree.Index) : Type 0 where
  version_known : time_bytes (version_here xs) ≡ some (wide t)
  rooms_there : Rooms t xs
  rest_there : rest_here t xs ≡ some i

sidx_inv : (xs : List ℕ) (i : tree.Index) → sidx_index xs ≡ some i → Found (wide_here xs) xs i
unfolding sidx_index
sidx_inv xs i e =
    let t : Bool = wide_here xs in
    let (p1, r1) = field_inv 1 xs _ i e in
    let (p2, r2) = time_inv (version_here xs) _ i r1 in
    let (p3, r3) = field_inv 3 (at_flags t xs) _ i r2 in
    let (p4, r4) = field_inv 4 (at_id t xs) _ i r3 in
    let (p5, r5) = field_inv 4 (at_scale t xs) _ i r4 in
    let (p6, r6) = field_inv (wide t) (at_time t xs) _ i r5 in
    let (p7, r7) = field_inv (wide t) (at_offset t xs) _ i r6 in
    let (p8, r8) = field_inv 2 (at_reserved t xs) _ i r7 in
    let (p9, r9) = field_inv 2 (at_count t xs) _ i r8 in
    record { version_known = p2; rooms_there = rooms_from t xs p9; rest_there = r9 }

-- the entry bytes of an index's body are those after its numbers
part_here : (t : Bool) (xs : List ℕ) (i : tree.Index) → Rooms t xs → length (at_entries t xs) ≡ entry_bytes * length i.entries → entry_part i xs ≡ at_entries t xs
part_here t xs i r l =
    let q0 = r.entries_left in
    let q : length xs - entry_bytes * length i.entries ≡ before t xs = omega arith in
    ap (λ z. drop z xs) q ∙ sym (entries_at t xs)

-- What an index of the tree is known by.
pub record SidxFacts (xs : List ℕ) (i : tree.Index) : Type 0 where
  pub long : 24 + entry_bytes * length i.entries ≤ length xs
  pub any : 1 ≤ length i.entries
  pub few : length i.entries ≤ most_entries
  pub scaled : 0 < i.scale
  pub part_long : length (entry_part i xs) ≡ entry_bytes * length i.entries
  pub part_read : entries_of (length i.entries) (entry_part i xs) ≡ some i.entries
  pub sized : Sized i.entries

at_least : (t : Bool) (xs : List ℕ) → 24 ≤ before t xs
unfolding wide_more
at_least true xs = omega arith
at_least false xs = omega arith

rest_facts : (t : Bool) (xs : List ℕ) (i : tree.Index) → Rooms t xs → rest_here t xs ≡ some i → SidxFacts xs i
rest_facts t xs i r e =
    let (z1, e1) = pick_else (eqb (scale_here t xs) 0) _ i e in
    let (z2, e2) = pick_else (eqb (count_here t xs) 0) _ i e1 in
    let (z3, e3) = pick_else (ltb most_entries (count_here t xs)) _ i e2 in
    let (z4, e4) = pick_some (eqb (length (at_entries t xs)) (entry_bytes * count_here t xs)) _ i e3 in
    let (es, p, e5) = then_inv (entries_of (count_here t xs) (at_entries t xs)) _ i e4 in
    facts_of t xs i r es z1 z2 z3 z4 p (cc)
  where
    facts_of : (t : Bool) (xs : List ℕ) (i : tree.Index) → Rooms t xs → (es : List Entry) → eqb (scale_here t xs) 0 ≡ false →
        eqb (count_here t xs) 0 ≡ false → ltb most_entries (count_here t xs) ≡ false →
        eqb (length (at_entries t xs)) (entry_bytes * count_here t xs) ≡ true → entries_of (count_here t xs) (at_entries t xs) ≡ some es →
        record { id = id_here t xs; scale = scale_here t xs; time = time_here t xs; offset = offset_here t xs; entries = es } ≡ i → SidxFacts xs i
    facts_of t xs i r es z1 z2 z3 z4 p q =
        let scale-is : scale_here t xs ≡ i.scale = ap (λ (j : tree.Index). j.scale) q in
        let entries-are : es ≡ i.entries = ap (λ (j : tree.Index). j.entries) q in
        let c : length es ≡ count_here t xs = entries_count (count_here t xs) (at_entries t xs) es p in
        let c' : length i.entries ≡ count_here t xs = ap length (sym entries-are) ∙ c in
        let l : length (at_entries t xs) ≡ entry_bytes * count_here t xs = eqb-true _ _ z4 in
        let part : entry_part i xs ≡ at_entries t xs = part_here t xs i r (omega arith) in
        let n1 : scale_here t xs ≢ 0 = eqb-false (scale_here t xs) 0 z1 in
        let n2 : count_here t xs ≢ 0 = eqb-false (count_here t xs) 0 z2 in
        let n3 : count_here t xs ≤ most_entries = ltb-false most_entries (count_here t xs) z3 in
        record {
          long = omega (arith, at_least t xs, r.entries_left);
          any = omega arith;
          few = omega arith;
          scaled = omega arith;
          part_long = ap length part ∙ omega arith;
          part_read = rw (part, c', ← entries-are) p;
          sized = rw (← entries-are) (entries_sized (count_here t xs) (at_entries t xs) es p);
        }

pub sidx_facts : (xs : List ℕ) (i : tree.Index) → sidx_index xs ≡ some i → SidxFacts xs i
sidx_facts xs i e = let found = sidx_inv xs i e in rest_facts (wide_here xs) xs i found.rooms_there found.rest_there

-- fewer than 24 bytes are no index
pub sidx_short : (xs : List ℕ) → length xs < 24 → sidx_index xs ≡ none
sidx_short xs l = at (sidx_index xs) refl
  where
    at : (o : Option tree.Index) → sidx_index xs ≡ o → o ≡ none
    at none e = refl
    at (some i) e = absurd (omega (arith, (sidx_facts xs i e).long))

-- tests before which nothing is left to take
no_entries : {E X : Type 0} (a b c d : Bool) (o : Option E) → pick a none (pick b none (pick c none (pick d (and_then {A = E} {B = X} o (λ e. none)) none))) ≡ none
unfolding pick
no_entries true b c d o = refl
no_entries false true c d o = refl
no_entries false false true d o = refl
no_entries false false false true o = then_none o
no_entries false false false false o = refl

-- the tests of the reader, made one after the other, and those of the tree, made at the end
all_tests : {E X : Type 0} (id scale time offset : Bool) (a b c d : Bool) (o : Option E) (sums : E → Bool) (give : E → Option X) → (scale ≡ true → a ≡ false) →
    pick id (pick scale (pick time (pick offset (pick b none (pick c none (pick d (and_then o (λ e. pick (sums e) (give e) none)) none))) none) none) none) none
    ≡ pick a none (pick b none (pick c none (pick d (and_then o (λ e. pick (id && scale && time && offset && sums e) (give e) none)) none)))
unfolding pick
all_tests true true true true a b c d o sums give h = rw (h refl)
all_tests true true true false a b c d o sums give h = sym (no_entries a b c d o)
all_tests true true false offset a b c d o sums give h = sym (no_entries a b c d o)
all_tests true false time offset a b c d o sums give h = sym (no_entries a b c d o)
all_tests false scale time offset a b c d o sums give h = sym (no_entries a b c d o)

-- a timescale that shows no fault is not 0
scale_some : (p : Place) (span : Span) (v : ℕ) → clean (scale_faults p span v) ≡ true → eqb v 0 ≡ false
unfolding scale_faults
scale_some topmost span v e = not-true (eqb v 0) (sym (clean_shows (eqb v 0) 11 span.pos) ∙ e)
scale_some (under top slot around) span v e = not-true (eqb v 0) (and_both _ _ (simp (clean_append, clean_shows) at e)).0

-- the version's faults: a version above 1, or version 1 in a box that is too short
version_clean : (span : Span) (v n : ℕ) → clean (sidx_version_faults span v n) ≡ not (ltb 1 v) && not (eqb v 1 && ltb span.end (n + 31))
unfolding sidx_version_faults
version_clean span v n = simp (clean_append, clean_shows)

-- a version that shows no fault, in a box of 24 bytes or more
version_rooms : (span : Span) (v n l : ℕ) (xs : List ℕ) → n + l ≡ span.end → 24 ≤ l → not (ltb 1 v) && not (eqb v 1 && ltb span.end (n + 1 + 31)) ≡ true →
    (v ≤ 1) × (before (eqb v 1) xs ≤ l)
unfolding wide_more
version_rooms span v n l xs e m c = at v (eqb v 1) refl (and_both _ _ c)
  where
    at : (v : ℕ) (t : Bool) → eqb v 1 ≡ t → (not (ltb 1 v) ≡ true) × (not (t && ltb span.end (n + 1 + 31)) ≡ true) → (v ≤ 1) × (before t xs ≤ l)
    at v true q (a, b) = (ltb-false 1 v (not-true _ a), omega (arith, ltb-false span.end (n + 1 + 31) (not-true _ b)))
    at v false q (a, b) = (ltb-false 1 v (not-true _ a), omega arith)

-- a version that there is
version_small : (v w : ℕ) → time_bytes v ≡ some w → v ≤ 1
version_small v w e = ⊎_elim (λ (l : 1 < v). absurd_some (sym (time_none v l) ∙ e)) (λ (l : v ≤ 1). l) (lt_or_ge 1 v)

-- where the bytes of the numbers are there, version 1 has 32 bytes or more
version_long : (span : Span) (n : ℕ) (t : Bool) (xs : List ℕ) → n + length xs ≡ span.end → Rooms t xs → t && ltb span.end (n + 1 + 31) ≡ false
unfolding wide_more
version_long span n true xs e r = le-ltb span.end (n + 1 + 31) (omega (arith, r.entries_left))
version_long span n false xs e r = refl

-- an index of the tree has a version that shows no fault
version_right : (span : Span) (n : ℕ) (xs : List ℕ) (i : tree.Index) → n + length xs ≡ span.end → sidx_index xs ≡ some i →
    not (ltb 1 (version_here xs)) && not (wide_here xs && ltb span.end (n + 1 + 31)) ≡ true
version_right span n xs i e found =
    let f = sidx_inv xs i found in
    rw (le-ltb 1 (version_here xs) (version_small (version_here xs) _ f.version_known), version_long span n (wide_here xs) xs e f.rooms_there)

module _ {X : Type 0} (p : Place) (span : Span) (h : IndexRead → Flow → ℕ → List ℕ → Option X) where
  -- a number of an entry whose bytes are there
  word_upon : (e : EntryPart) (s : Sums) (k : ℕ → Flow → ℕ → List ℕ → Res IndexRead Flow Left) (f : Flow) (n : ℕ) (zs ys : List ℕ) → 4 ≤ length zs →
      upon (field_d left (keep_byte p e s) k 4 0 f n (zs ++ ys)) h ≡ upon (k (number (take 4 zs)) (put_into f (number_place p e s) (take 4 zs)) (n + 4) (drop 4 zs ++ ys)) h
  word_upon e s k f n zs ys l =
      let q : number_place p e s + 0 ≡ number_place p e s = omega arith in
      let t = take-append-le 4 zs ys l in
      let d = drop-append-le 4 zs ys l in
      ap (λ r. upon r h) (kept p e s k 4 0 f n (zs ++ ys) (omega arith) (omega (arith, length-append zs ys)) ∙ rw (t, d, q))

  -- an entry whose bytes are there
  entry_tree : (more : Sums → Flow → ℕ → List ℕ → Res IndexRead Flow Left) (s : Sums) (f : Flow) (n : ℕ) (zs ys : List ℕ) → entry_bytes ≤ length zs →
      upon (entry_d p span more s f n (zs ++ ys)) h
      ≡ and_then (entry_of zs) (λ e. upon (more (plus_entry s e) (put_into f (part_of p + entry_bytes * s.next) (take entry_bytes zs)) (n + entry_bytes) (drop entry_bytes zs ++ ys)) h)
  unfolding entry_d word_place and_then
  entry_tree more s f n zs ys l =
      let word : ℕ = number (take 4 zs) in
      let dur : ℕ = number (take 4 (drop 4 zs)) in
      let base : ℕ = part_of p + entry_bytes * s.next in
      let l4 = length-drop 4 zs in
      let l8 = length-drop 4 (drop 4 zs) in
      let d : drop 4 (drop 4 (drop 4 zs)) ≡ drop entry_bytes zs = ap (drop 4) (drop-drop 4 4 zs) ∙ drop-drop 4 8 zs in
      let q : n + 4 + 4 + 4 ≡ n + entry_bytes = omega arith in
      let f1 : Flow = put_into f (base + 0) (take 4 zs) in
      let f2 : Flow = put_into f1 (base + 4) (take 4 (drop 4 zs)) in
      let told : Entry → Option X = λ e. upon (more (plus_entry s e) (put_into f base (take entry_bytes zs)) (n + entry_bytes) (drop entry_bytes zs ++ ys)) h in
      let last : upon (more (plus_entry s (entry_here zs)) (put_into f2 (base + 8) (take 4 (drop 4 (drop 4 zs)))) (n + 4 + 4 + 4) (drop 4 (drop 4 (drop 4 zs)) ++ ys)) h ≡ told (entry_here zs) =
      rw (q, three_words f.work base zs l, d) in
      word_upon entry.Size s _ f n zs ys (omega arith)
      ∙ upon_shows (eqb (entry_size word) 0) 11 span.pos _ _ _ h (told (entry_here zs))
      (word_upon entry.Duration (plus_size s word)
      (λ duration g m cs. field_d left (keep_byte p entry.Sap (plus_duration (plus_size s word) duration)) (λ sap i o es. more (plus_duration (plus_size s word) duration) i o es) 4 0 g m cs)
      f1 (n + 4) (drop 4 zs) ys (omega arith)
      ∙ word_upon entry.Sap (plus_duration (plus_size s word) dur) (λ sap i o es. more (plus_duration (plus_size s word) dur) i o es) f2 (n + 4 + 4) (drop 4 (drop 4 zs)) ys (omega arith)
      ∙ last)
      ∙ sym (ap (λ o. and_then o told) (entry_here_lem zs l) ∙ pick_then (eqb (entry_size word) 0) (some (entry_here zs)) told)

  -- the index that entries end
  abbrev index_with : Draft → Sums → List Entry → IndexRead
  index_with d s es =
      record { id = d.id; scale = d.scale; time = d.time; offset = d.offset; count = s.count; sizes = s.sizes + sizes es; durations = s.durations + durations es }

  -- what is made of entries that were read
  abbrev closed : Draft → Sums → Flow → ℕ → List ℕ → List ℕ → List Entry → Option X
  closed d s f n zs ys es = upon (close_d p span (index_with d s es) (put_into f (part_of p + entry_bytes * s.next) zs) (n + length zs) ys) h

  -- so many entries, whose bytes are there
  entries_tree : (d : Draft) (k : ℕ) (s : Sums) (f : Flow) (n : ℕ) (zs ys : List ℕ) → length zs ≡ entry_bytes * suc k →
      upon (entries_d p span d k s f n (zs ++ ys)) h ≡ and_then (entries_of (suc k) zs) (closed d s f n zs ys)
  unfolding entries_d entries_of and_then sizes durations
  entries_tree d zero s f n zs ys l =
      entry_tree (λ t g m cs. close_d p span (index_of d t) g m cs) s f n zs ys (omega arith)
      ∙ then_cong (entry_of zs) _ (λ e. closed d s f n zs ys (e ∷ []))
      (λ e o.
      let t : take entry_bytes zs ≡ zs = take_all entry_bytes zs (omega arith) in
      let u : drop entry_bytes zs ≡ [] = drop_of_length-le zs {i = entry_bytes} (omega arith) in
      let q : n + entry_bytes ≡ n + length zs = omega arith in
      let q1 : e.size + 0 ≡ e.size = omega arith in
      let q2 : e.duration + 0 ≡ e.duration = omega arith in
      rw (t, u, q, q1, q2))
      ∙ sym (then_assoc (entry_of zs) _ (closed d s f n zs ys))
  entries_tree d (suc k) s f n zs ys l =
      entry_tree (λ t g m cs. entries_d p span d k (next_entry t) g m cs) s f n zs ys (omega arith)
      ∙ then_cong (entry_of zs) _ (λ e. and_then (and_then (entries_of (suc k) (drop entry_bytes zs)) (λ es. some (e ∷ es))) (closed d s f n zs ys))
      (λ e o.
      let base : ℕ = part_of p + entry_bytes * s.next in
      entries_tree d k (next_entry (plus_entry s e)) (put_into f base (take entry_bytes zs)) (n + entry_bytes) (drop entry_bytes zs) ys (omega (arith, length-drop entry_bytes zs))
      ∙ then_cong (entries_of (suc k) (drop entry_bytes zs)) _ (λ es. closed d s f n zs ys (e ∷ es))
      (λ es r.
      let q : n + entry_bytes + length (drop entry_bytes zs) ≡ n + length zs = omega (arith, length-drop entry_bytes zs) in
      let q1 : s.sizes + e.size + sizes es ≡ s.sizes + (e.size + sizes es) = omega arith in
      let q2 : s.durations + e.duration + durations es ≡ s.durations + (e.duration + durations es) = omega arith in
      let q3 : part_of p + entry_bytes * suc s.next ≡ base + length (take entry_bytes zs) = omega (arith, length-take-le entry_bytes zs (omega arith)) in
      let w : put_all (put_all f.work base (take entry_bytes zs)) (part_of p + entry_bytes * suc s.next) (drop entry_bytes zs) ≡ put_all f.work base zs =
      rw q3 (put_more f.work base (take entry_bytes zs) (drop entry_bytes zs) ∙ ap (put_all f.work base) (take-append-drop entry_bytes zs)) in
      rw (q, q1, q2, w))
      ∙ sym (then_assoc (entries_of (suc k) (drop entry_bytes zs)) _ (closed d s f n zs ys)))
      ∙ sym (then_assoc (entry_of zs) _ (closed d s f n zs ys))

  -- an index of the tree from its numbers and its entries
  abbrev tree_index : Draft → List Entry → tree.Index
  tree_index d es = record { id = d.id; scale = d.scale; time = d.time; offset = d.offset; entries = es }

  -- no fault of the sums of an index that ends its box, and what is made of it
  abbrev summed : Draft → Flow → List ℕ → List ℕ → List Entry → Option X
  summed d f zs ys es =
      pick (clean (sum_faults p span (index_from (tree_index d es)) f.now span.end)) (h (index_from (tree_index d es)) (put_into f (part_of p) zs) span.end ys) none

  close_tree : (d : Draft) (k : ℕ) (f : Flow) (n : ℕ) (zs ys : List ℕ) (es : List Entry) → n + length zs ≡ span.end → length es ≡ k →
      closed d (record { next = 0; count = k; sizes = 0; durations = 0 }) f n zs ys es ≡ summed d f zs ys es
  unfolding close_d upon
  close_tree d k f n zs ys es e c =
      let q : part_of p + 0 ≡ part_of p = omega arith in
      let q1 : 0 + sizes es ≡ sizes es = omega arith in
      let q2 : 0 + durations es ≡ durations es = omega arith in
      rw (e, q, q1, q2, ← c) (upon_unless (sum_faults p span (index_from (tree_index d es)) f.now span.end) _ span.end (okay _ _ _ _) h)

  -- as many entries as the count says, whose bytes are the rest of the box
  counted_tree : (d : Draft) (v : ℕ) (f : Flow) (n : ℕ) (zs ys : List ℕ) → n + length zs ≡ span.end → length zs ≡ entry_bytes * v → v ≢ 0 →
      upon (counted_d p span d v v f n (zs ++ ys)) h ≡ and_then (entries_of v zs) (summed d f zs ys)
  unfolding counted_d
  counted_tree d zero f n zs ys e l z = absurd (z refl)
  counted_tree d (suc k) f n zs ys e l z =
      entries_tree d k (record { next = 0; count = suc k; sizes = 0; durations = 0 }) f n zs ys l
      ∙ then_cong (entries_of (suc k) zs) _ (summed d f zs ys) (λ es r. close_tree d (suc k) f n zs ys es e (entries_count (suc k) zs es r))

  -- the count, and what follows it
  count_tree : (d : Draft) (v : ℕ) (f : Flow) (n : ℕ) (zs ys : List ℕ) → n + length zs ≡ span.end →
      upon (count_d p span d v f n (zs ++ ys)) h
      ≡ pick (eqb v 0) none (pick (ltb most_entries v) none (pick (eqb (length zs) (entry_bytes * v)) (and_then (entries_of v zs) (summed d f zs ys)) none))
  unfolding count_d count_faults
  count_tree d v f n zs ys e =
      let same : eqb span.end (n + entry_bytes * v) ≡ eqb (length zs) (entry_bytes * v) =
      same_test span.end (n + entry_bytes * v) (length zs) (entry_bytes * v) (λ q. omega arith) (λ q. omega arith) in
      let tests : clean (count_faults span v n) ≡ not (not (eqb (length zs) (entry_bytes * v))) && not (eqb v 0 || ltb most_entries v) = simp (clean_append, clean_shows, same) in
      upon_unless (count_faults span v n) _ _ _ h
      ∙ ap (λ t. pick t (upon (counted_d p span d v v f n (zs ++ ys)) h) none) tests
      ∙ count_tests (eqb v 0) (ltb most_entries v) (eqb (length zs) (entry_bytes * v)) _ _
      (λ z l. counted_tree d v f n zs ys e (eqb-true _ _ l) (λ q. eqb-false v 0 z q))

  -- what the count and the entries make of an index
  abbrev counted_here : Bool → List ℕ → Flow → List ℕ → Option X
  counted_here t xs f ys =
      pick (eqb (count_here t xs) 0) none
      (pick (ltb most_entries (count_here t xs)) none
      (pick (eqb (length (at_entries t xs)) (entry_bytes * count_here t xs)) (and_then (entries_of (count_here t xs) (at_entries t xs)) (summed (draft_here t xs) f (at_entries t xs) ys)) none))

  -- the numbers after the version
  numbers_tree : (t : Bool) (f : Flow) (n : ℕ) (xs ys : List ℕ) → n + length xs ≡ span.end → Rooms t xs →
      upon (field_d left plain (flags_d p span (record { wide = t; id = 0; scale = 0; time = 0; offset = 0 })) 3 0 f (n + 1) (at_flags t xs ++ ys)) h
      ≡ pick (clean (id_faults p span (id_here t xs)))
      (pick (clean (scale_faults p span (scale_here t xs)))
      (pick (clean (time_faults p span f.now (time_here t xs)))
      (pick (clean (offset_faults p span (offset_here t xs))) (counted_here t xs f ys) none)
      none)
      none)
      none
  unfolding flags_d id_d scale_d time_d offset_d reserved_d
  numbers_tree t f n xs ys e r =
      let d0 : Draft = record { wide = t; id = 0; scale = 0; time = 0; offset = 0 } in
      let d1 : Draft = record { wide = t; id = id_here t xs; scale = 0; time = 0; offset = 0 } in
      let d2 : Draft = record { wide = t; id = id_here t xs; scale = scale_here t xs; time = 0; offset = 0 } in
      let d3 : Draft = record { wide = t; id = id_here t xs; scale = scale_here t xs; time = time_here t xs; offset = 0 } in
      let w : ℕ = wide t in
      upon_here (flags_d p span d0) h 3 f (n + 1) (at_flags t xs) ys r.flags_fit
      ∙ upon_here (id_d p span d0) h 4 f (n + 1 + 3) (at_id t xs) ys r.id_fits
      ∙ upon_then (id_faults p span (id_here t xs)) _ _ _ h _
      (upon_here (scale_d p span d1) h 4 f (n + 1 + 3 + 4) (at_scale t xs) ys r.scale_fits
      ∙ upon_then (scale_faults p span (scale_here t xs)) _ _ _ h _
      (upon_here (time_d p span d2) h w f (n + 1 + 3 + 4 + 4) (at_time t xs) ys r.time_fits
      ∙ upon_then (time_faults p span f.now (time_here t xs)) _ _ _ h _
      (upon_here (offset_d p span d3) h w f (n + 1 + 3 + 4 + 4 + w) (at_offset t xs) ys r.offset_fits
      ∙ upon_then (offset_faults p span (offset_here t xs)) _ _ _ h _
      (upon_here (reserved_d p span (draft_here t xs)) h 2 f (n + 1 + 3 + 4 + 4 + w + w) (at_reserved t xs) ys r.reserved_fits
      ∙ upon_here (count_d p span (draft_here t xs)) h 2 f (n + 1 + 3 + 4 + 4 + w + w + 2) (at_count t xs) ys r.count_fits
      ∙ count_tree (draft_here t xs) (count_here t xs) f (n + 1 + 3 + 4 + 4 + w + w + 2 + 2) (at_entries t xs) ys (omega (arith, r.entries_left))))))

  -- what is made of an index of the tree
  abbrev taken : Flow → List ℕ → List ℕ → tree.Index → Option X
  taken f xs ys i = pick (suits p span i f.now) (h (index_from i) (with_entries f p i xs) span.end ys) none

  -- the tree's index, where the bytes of its numbers are there
  taken_here : (t : Bool) (f : Flow) (xs ys : List ℕ) → Rooms t xs →
      and_then (rest_here t xs) (taken f xs ys)
      ≡ pick (eqb (scale_here t xs) 0) none
      (pick (eqb (count_here t xs) 0) none
      (pick (ltb most_entries (count_here t xs)) none
      (pick (eqb (length (at_entries t xs)) (entry_bytes * count_here t xs))
      (and_then (entries_of (count_here t xs) (at_entries t xs)) (λ es.
      pick (clean (id_faults p span (id_here t xs)) && clean (scale_faults p span (scale_here t xs)) && clean (time_faults p span f.now (time_here t xs))
      && clean (offset_faults p span (offset_here t xs)) && clean (sum_faults p span (index_from (tree_index (draft_here t xs) es)) f.now span.end))
      (h (index_from (tree_index (draft_here t xs) es)) (put_into f (part_of p) (at_entries t xs)) span.end ys) none))
      none)))
  unfolding suits and_then
  taken_here t f xs ys r =
      pick_then (eqb (scale_here t xs) 0) _ _
      ∙ ap (λ o. pick (eqb (scale_here t xs) 0) none o)
      (pick_then (eqb (count_here t xs) 0) _ _
      ∙ ap (λ o. pick (eqb (count_here t xs) 0) none o)
      (pick_then (ltb most_entries (count_here t xs)) _ _
      ∙ ap (λ o. pick (ltb most_entries (count_here t xs)) none o)
      (then_pick (eqb (length (at_entries t xs)) (entry_bytes * count_here t xs)) _ _
      ∙ pick_with (eqb (length (at_entries t xs)) (entry_bytes * count_here t xs)) (λ o. o) (λ o. o) _ none _ none
      (λ l. then_assoc (entries_of (count_here t xs) (at_entries t xs)) _ _
      ∙ then_cong (entries_of (count_here t xs) (at_entries t xs)) _ _
      (λ es e.
      let c = entries_count (count_here t xs) (at_entries t xs) es e in
      let part : entry_part (tree_index (draft_here t xs) es) xs ≡ at_entries t xs =
      part_here t xs (tree_index (draft_here t xs) es) r (eqb-true _ _ l ∙ ap (λ z. entry_bytes * z) (sym c)) in
      rw part))
      (λ l. refl))))

  -- where the version shows no fault
  sidx_clean : (f : Flow) (n : ℕ) (xs ys : List ℕ) → n + length xs ≡ span.end → version_here xs ≤ 1 → before (wide_here xs) xs ≤ length xs →
      upon (field_d left plain (flags_d p span (record { wide = wide_here xs; id = 0; scale = 0; time = 0; offset = 0 })) 3 0 f (n + 1) (drop 1 xs ++ ys)) h ≡ and_then (sidx_index xs) (taken f xs ys)
  sidx_clean f n xs ys e v l =
      let t : Bool = wide_here xs in
      let r : Rooms t xs = rooms t xs l in
      numbers_tree t f n xs ys e r
      ∙ all_tests (clean (id_faults p span (id_here t xs))) (clean (scale_faults p span (scale_here t xs))) (clean (time_faults p span f.now (time_here t xs)))
      (clean (offset_faults p span (offset_here t xs)))
      (eqb (scale_here t xs) 0) (eqb (count_here t xs) 0) (ltb most_entries (count_here t xs))
      (eqb (length (at_entries t xs)) (entry_bytes * count_here t xs)) (entries_of (count_here t xs) (at_entries t xs))
      (λ es. clean (sum_faults p span (index_from (tree_index (draft_here t xs) es)) f.now span.end))
      (λ es. h (index_from (tree_index (draft_here t xs) es)) (put_into f (part_of p) (at_entries t xs)) span.end ys) (scale_some p span (scale_here t xs))
      ∙ sym (ap (λ o. and_then o (taken f xs ys)) (sidx_here t xs (time_known (version_here xs) v) r) ∙ taken_here t f xs ys r)

  -- the whole body
  body_tree : (f : Flow) (n : ℕ) (xs ys : List ℕ) → n + length xs ≡ span.end → 24 ≤ length xs →
      upon (sidx_d p span f n (xs ++ ys)) h ≡ and_then (sidx_index xs) (λ i. pick (suits p span i f.now) (h (index_from i) (with_entries f p i xs) span.end ys) none)
  unfolding sidx_d version_d pick
  body_tree f n xs ys e l =
      upon_here (version_d p span) h 1 f n xs ys (omega arith)
      ∙ upon_unless (sidx_version_faults span (version_here xs) (n + 1)) _ _ _ h
      ∙ at (clean (sidx_version_faults span (version_here xs) (n + 1))) (version_clean span (version_here xs) (n + 1))
    where
      at : (c : Bool) → c ≡ not (ltb 1 (version_here xs)) && not (wide_here xs && ltb span.end (n + 1 + 31)) →
          pick c (upon (field_d left plain (flags_d p span (record { wide = wide_here xs; id = 0; scale = 0; time = 0; offset = 0 })) 3 0 f (n + 1) (drop 1 xs ++ ys)) h) none
          ≡ and_then (sidx_index xs) (taken f xs ys)
      at true q = let (v, w) = version_rooms span (version_here xs) n (length xs) xs e l (sym q) in sidx_clean f n xs ys e v w
      at false q = sym (then_cong (sidx_index xs) _ (λ i. none) (λ i found. absurd (true≢false (sym (version_right span n xs i e found) ∙ sym q))) ∙ then_none (sidx_index xs))

-- An index box by structure is accepted exactly where the tree has an index that suits its place, and then its entries are stored.
pub sidx_tree : {X : Type 0} (p : Place) (span : Span) (f : Flow) (n : ℕ) (xs ys : List ℕ) (k : IndexRead → Flow → ℕ → List ℕ → Option X) → n + length xs ≡ span.end → 24 ≤ length xs →
    upon (sidx_d p span f n (xs ++ ys)) k ≡ and_then (sidx_index xs) (λ i. pick (suits p span i f.now) (k (index_from i) (with_entries f p i xs) span.end ys) none)
sidx_tree p span f n xs ys k e l = body_tree p span k f n xs ys e l

-- an index in its place, its body all there
pub sidx_fitting : {X : Type 0} (p : Place) (span : Span) (f : Flow) (n : ℕ) (xs ys : List ℕ) (k : IndexRead → Flow → ℕ → List ℕ → Option X) → n + length xs ≡ span.end →
    pick (not (ltb (length xs) 24)) (upon (sidx_d p span f n (xs ++ ys)) k) none
    ≡ and_then (sidx_index xs) (λ i. pick (suits p span i f.now) (k (index_from i) (with_entries f p i xs) span.end ys) none)
unfolding pick and_then
sidx_fitting p span f n xs ys k e = by (ltb (length xs) 24) refl
  where
    by : (t : Bool) → ltb (length xs) 24 ≡ t → pick (not t) (upon (sidx_d p span f n (xs ++ ys)) k) none
        ≡ and_then (sidx_index xs) (λ i. pick (suits p span i f.now) (k (index_from i) (with_entries f p i xs) span.end ys) none)
    by true q = rw (sidx_short xs (ltb-true (length xs) 24 q))
    by false q = sidx_tree p span f n xs ys k e (ltb-false (length xs) 24 q)

-- a count that shows no fault is that of the bytes that the box has left
count_left : (span : Span) (v n : ℕ) → count_faults span v n ≡ [] → (span.end ≡ n + entry_bytes * v) × (v ≢ 0)
unfolding count_faults
count_left span v n e =
    let lengths = shows (not (eqb span.end (n + entry_bytes * v))) 6 span.pos in
    let many : Bool = eqb v 0 || ltb most_entries v in (
      eqb-true _ _ (not-false _ (shows_none (not (eqb span.end (n + entry_bytes * v))) 6 span.pos (none_first lengths (shows many 11 span.pos) e))),
      eqb-false v 0 (or_neither (eqb v 0) (ltb most_entries v) (shows_none many 11 span.pos (none_second lengths (shows many 11 span.pos) e))).0,
    )

-- An accepted index ends where its box does, of `all` bytes.
module _ (p : Place) (span : Span) (all : ℕ) where
  abbrev Ends : IndexRead → Flow → ℕ → List ℕ → Type 0
  Ends x g m cs = (m ≡ span.end) × (m + length cs ≡ all)

  abbrev Told : Res IndexRead Flow Left → Type 0
  Told r = Says Ends (λ x l m. Unit {0}) r

  abbrev Reads : (ℕ → Flow → ℕ → List ℕ → Res IndexRead Flow Left) → Type 0
  Reads k = (v : ℕ) (f : Flow) (n : ℕ) (bs : List ℕ) → n + length bs ≡ all → Told (k v f n bs)

  -- a number before the entries
  number_told : (k : ℕ → Flow → ℕ → List ℕ → Res IndexRead Flow Left) → Reads k → (m acc : ℕ) (f : Flow) (n : ℕ) (bs : List ℕ) → n + length bs ≡ all → Told (field_d left plain k m acc f n bs)
  number_told k s m acc f n bs e = says_field Ends _ left k m acc f n bs (λ v cs q. s v f (n + m) cs (omega arith))

  -- faults that a byte shows
  faults_told : (xs : List Refusal) (l : Left) (n : ℕ) (r : Res IndexRead Flow Left) → (xs ≡ [] → Told r) → Told (faults.unless xs (λ x. fail x l n) r)
  faults_told xs l n r s = says_unless Ends (λ x l m. Unit {0}) xs l n r (each_any xs) s

  -- a number of an entry
  word_told : (e : EntryPart) (s : Sums) (k : ℕ → Flow → ℕ → List ℕ → Res IndexRead Flow Left) (f : Flow) (n : ℕ) (bs : List ℕ) → n + length bs ≡ all →
      ((v : ℕ) (g : Flow) (m : ℕ) (cs : List ℕ) → m ≡ n + 4 → m + length cs ≡ all → Told (k v g m cs)) → Told (field_d left (keep_byte p e s) k 4 0 f n bs)
  word_told e s k f n bs q h =
      says_kept Ends _ left (keep_byte p e s) k (λ m g i cs. (i + m ≡ n + 4) × (i + length cs ≡ all)) (λ m g i b cs z. omega arith) (λ v g i cs z. h v g i cs (omega arith) z.1) 4 0 f n bs (refl, q)

  close_told : (x : IndexRead) (f : Flow) (n : ℕ) (bs : List ℕ) → n ≡ span.end → n + length bs ≡ all → Told (close_d p span x f n bs)
  unfolding close_d
  close_told x f n bs e q = faults_told (sum_faults p span x f.now n) _ n _ (λ z. (e, q))

  entry_told : (more : Sums → Flow → ℕ → List ℕ → Res IndexRead Flow Left) (s : Sums) (f : Flow) (n : ℕ) (bs : List ℕ) → n + length bs ≡ all →
      ((t : Sums) (g : Flow) (m : ℕ) (cs : List ℕ) → m ≡ n + entry_bytes → m + length cs ≡ all → Told (more t g m cs)) → Told (entry_d p span more s f n bs)
  unfolding entry_d
  entry_told more s f n bs q h =
      word_told entry.Size s _ f n bs q
      (λ v g m cs e q1. faults_told (entry_size_faults span v) _ m _
      (λ z. word_told entry.Duration (plus_size s v) _ g m cs q1
      (λ u g' m' cs' e' q2. word_told entry.Sap (plus_duration (plus_size s v) u) _ g' m' cs' q2
      (λ w g'' m'' cs'' e'' q3. h (plus_duration (plus_size s v) u) g'' m'' cs'' (omega arith) q3))))

  entries_told : (d : Draft) (k : ℕ) (s : Sums) (f : Flow) (n : ℕ) (bs : List ℕ) → n + length bs ≡ all → n + entry_bytes * suc k ≡ span.end → Told (entries_d p span d k s f n bs)
  unfolding entries_d
  entries_told d zero s f n bs q e = entry_told _ s f n bs q (λ t g m cs z q'. close_told (index_of d t) g m cs (omega arith) q')
  entries_told d (suc k) s f n bs q e = entry_told _ s f n bs q (λ t g m cs z q'. entries_told d k (next_entry t) g m cs q' (omega arith))

  counted_told : (d : Draft) (v : ℕ) (f : Flow) (n : ℕ) (bs : List ℕ) → n + length bs ≡ all → span.end ≡ n + entry_bytes * v → v ≢ 0 → Told (counted_d p span d v v f n bs)
  unfolding counted_d
  counted_told d zero f n bs q e z = absurd (z refl)
  counted_told d (suc k) f n bs q e z = entries_told d k _ f n bs q (sym e)

  count_told : (d : Draft) → Reads (count_d p span d)
  unfolding count_d
  count_told d v f n bs q = faults_told (count_faults span v n) _ n _ (λ z. let (e, c) = count_left span v n z in counted_told d v f n bs q e c)

  sidx_told : (f : Flow) (n : ℕ) (bs : List ℕ) → n + length bs ≡ all → Told (sidx_d p span f n bs)
  unfolding sidx_d version_d flags_d id_d scale_d time_d offset_d reserved_d
  sidx_told f n bs q =
      number_told _ (λ version f n bs q. faults_told _ _ n _ (λ z.
      number_told _ (λ flags f n bs q.
      number_told _ (λ id f n bs q. faults_told _ _ n _ (λ z.
      number_told _ (λ scale f n bs q. faults_told _ _ n _ (λ z.
      number_told _ (λ time f n bs q. faults_told _ _ n _ (λ z.
      number_told _ (λ offset f n bs q. faults_told _ _ n _ (λ z.
      number_told _ (λ reserved f n bs q.
      number_told _ (count_told _) 2 0 f n bs q) 2 0 f n bs q)) _ 0 f n bs q)) _ 0 f n bs q)) 4 0 f n bs q)) 4 0 f n bs q) 3 0 f n bs q)) 1 0 f n bs q

-- an accepted index ends where its box does, and what was read and what is left are all
pub sidx_ends : (p : Place) (span : Span) (f : Flow) (n : ℕ) (bs : List ℕ) (x : IndexRead) (g : Flow) (m : ℕ) (cs : List ℕ) → sidx_d p span f n bs ≡ okay x g m cs →
    (m ≡ span.end) × (m + length cs ≡ n + length bs)
sidx_ends p span f n bs x g m cs e = says_okay (Ends p span (n + length bs)) (λ y l i. Unit {0}) (sidx_d p span f n bs) x g m cs e (sidx_told p span (n + length bs) f n bs refl)

-- a body that is cut off is not accepted
pub sidx_cut : {X : Type 0} (p : Place) (span : Span) (f : Flow) (n : ℕ) (bs : List ℕ) (k : IndexRead → Flow → ℕ → List ℕ → Option X) → n + length bs < span.end → upon (sidx_d p span f n bs) k ≡ none
sidx_cut p span f n bs k l = upon_okay (sidx_d p span f n bs) k (λ x g m cs e. let (q, r) = sidx_ends p span f n bs x g m cs e in absurd (omega arith))

-- The top index suits its place where its sums do.
pub suits_topmost : (span : Span) (i : tree.Index) (now : ℕ) → 0 < i.scale → suits topmost span i now ≡ clean (sum_faults topmost span (index_from i) now span.end)
unfolding suits id_faults scale_faults time_faults offset_faults clean
suits_topmost span i now l = let q : eqb i.scale 0 ≡ false = ne_eqb i.scale 0 (λ z. omega arith) in rw (clean_shows (eqb i.scale 0) 11 span.pos, q)

-- the tests of rule 4, in the tree's order
inner_tests : (id scale time offset size duration : Bool) →
    not (not id) && (true && not (not scale)) && not (not time) && not (not offset) && not (not (size && duration)) ≡ id && scale && offset && time && duration && size
inner_tests false scale time offset size duration = refl
inner_tests true false time offset size duration = refl
inner_tests true true false true size duration = refl
inner_tests true true false false size duration = refl
inner_tests true true true false size duration = refl
inner_tests true true true true true true = refl
inner_tests true true true true true false = refl
inner_tests true true true true false true = refl
inner_tests true true true true false false = refl

-- An inner index suits its place where rule 4 holds: its parent's ID and timescale, first offset 0, the start at which its entry stands, and the sums.
pub suits_under : (top : Top) (slot : Slot) (around : ℕ) (span : Span) (i : tree.Index) (now : ℕ) → 0 < i.scale →
    suits (under top slot around) span i now
    ≡ eqb i.id top.id && eqb i.scale top.scale && eqb i.offset 0 && eqb i.time now
    && eqb (now + durations i.entries) slot.until && eqb (span.end + sizes i.entries) slot.end
unfolding suits id_faults scale_faults time_faults offset_faults sum_faults
suits_under top slot around span i now l =
    let q : eqb i.scale 0 ≡ false = ne_eqb i.scale 0 (λ z. omega arith) in
    simp (clean_append, clean_shows, q)
    (inner_tests (eqb i.id top.id) (eqb i.scale top.scale) (eqb i.time now) (eqb i.offset 0)
    (eqb (span.end + sizes i.entries) slot.end) (eqb (now + durations i.entries) slot.until))
