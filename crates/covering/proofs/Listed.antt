-- A table that starts with the records of a list of leaves: a time is answered with the lowest-numbered leaf that covers it, and refused
-- exactly when none does.
use Rattle.std.specs.Prelude.{Result, Ok, Err}
use Prim.Native.Nat.{ℕ, zero, suc, ◌+◌, ◌*◌, ◌<◌}
use mathlib.Core.Path.{◌≡◌, refl, sym, ap, ◌∙◌}
use mathlib.Core.List.{List, [], ◌∷◌, ◌++◌}
use mathlib.Core.Logic.{◌↔◌}
use mathlib.Core.Option.{Option, some, none, some-injective, none-ne-some}
use mathlib.Core.Bool.{Bool, true, false, true≢false}
use native.Mathlib.Omega.{arith}
use lib.ListN.{length, get_or}
use Rattle.basics.specs.Choose.{pick}
use Rattle.segment.specs.Tree.{Leaf}
use Rattle.segment.specs.Parts.{At}
use Rattle.machine.specs.Faults.{refusal}
use Rattle.machine.specs.declared.Refusal.{Refusal}
use Rattle.moment.specs.Moments.{Moment, before}
use Rattle.table.specs.declared.Record.{Record}
use Rattle.table.proofs.ReadBack.{by_numbers}
use Rattle.covering.specs.declared.Leaf.{Leaf as FoundLeaf}
use Rattle.covering.specs.Lookup.{record_covers, covering_from, outside, found, look_in, the_leaf}
use Rattle.table.specs.Table.{record_at, numbers_of, record_numbers}
use Rattle.covering.specs.Records.{record_of, records_of, leaf_covers, NoLeafCovers, outside_number}
use Rattle.covering.proofs.Covering.{Lowest, covering_lowest, lowest_covering, none_covers, covers_none}

skip_numbers : (l : Leaf) (more : List ℕ) (i k : ℕ) → get_or (numbers_of (record_of l) ++ more) (record_numbers * suc i + k) 0 ≡ get_or more (record_numbers * i + k) 0
skip_numbers l more i k =
    let six : record_numbers * suc i + k ≡ suc (suc (suc (suc (suc (suc (record_numbers * i + k)))))) = omega arith in
    ap (λ (n : ℕ). get_or (numbers_of (record_of l) ++ more) n 0) six

skip_record : (l : Leaf) (more : List ℕ) (i : ℕ) → record_at (numbers_of (record_of l) ++ more) (suc i) ≡ record_at more i
skip_record l more i = by_numbers _ more (suc i) i (λ k h. skip_numbers l more i k)

first_record : (l : Leaf) (more : List ℕ) → record_at (numbers_of (record_of l) ++ more) 0 ≡ record_of l
unfolding record_at
first_record l more = refl

-- The i-th record is that of the i-th leaf.
pub record_of_leaf : (ls : List Leaf) (rest : List ℕ) (i : ℕ) (l : Leaf) → At ls i l → record_at (records_of ls ++ rest) i ≡ record_of l
unfolding records_of
record_of_leaf [] rest i l h = absurd (none-ne-some l h)
record_of_leaf (k ∷ ls) rest zero l h = first_record k (records_of ls ++ rest) ∙ ap record_of (some-injective _ _ h)
record_of_leaf (k ∷ ls) rest (suc i) l h = skip_record k (records_of ls ++ rest) i ∙ record_of_leaf ls rest i l h

at_below : {A : Type 0} (xs : List A) (i : ℕ) (a : A) → At xs i a → i < length xs
at_below [] i a h = absurd (none-ne-some a h)
at_below (b ∷ bs) zero a h = omega arith
at_below (b ∷ bs) (suc i) a h = let rest = at_below bs i a h in omega arith

below_at : {A : Type 0} (xs : List A) (i : ℕ) → i < length xs → (a : A) × At xs i a
below_at [] i h = absurd (omega arith)
below_at (b ∷ bs) zero h = (b, refl)
below_at (b ∷ bs) (suc i) h = below_at bs i (omega arith)

-- whether the i-th record covers is whether the i-th leaf does
covers_at : (ls : List Leaf) (rest : List ℕ) (t : Moment) (i : ℕ) (l : Leaf) → At ls i l → record_covers (record_at (records_of ls ++ rest) i) t ≡ leaf_covers t l
covers_at ls rest t i l h = ap (λ (r : Record). record_covers r t) (record_of_leaf ls rest i l h)

-- The i-th leaf covers the time and no earlier one does: it is found, as number i + 1, with its record.
pub found_exact : (ls : List Leaf) (rest : List ℕ) (t : Moment) (i : ℕ) (l : Leaf) → At ls i l → leaf_covers t l ≡ true → ((j : ℕ) (m : Leaf) → j < i → At ls j m → leaf_covers t m ≡ false) →
    look_in (length ls) (records_of ls ++ rest) t ≡ Ok (the_leaf (suc i) (record_of l))
unfolding found
found_exact ls rest t i l there here earlier =
    let below = at_below ls i l there in
    let lowest : Lowest (length ls) 0 (records_of ls ++ rest) t i =
    record {
      from = omega arith;
      below = omega arith;
      covering = covers_at ls rest t i l there ∙ here;
      lower = λ m from to. let (k, at) = below_at ls m (omega arith) in covers_at ls rest t m k at ∙ earlier m k to at;
    } in
    ap (λ (o : Option ℕ). found (length ls) (records_of ls ++ rest) t o) (lowest_covering (length ls) 0 (records_of ls ++ rest) t i lowest)
    ∙ ap (λ (r : Record). Ok (the_leaf (suc i) r)) (record_of_leaf ls rest i l there)

outside_number_lem : (ls : List Leaf) (rest : List ℕ) (t : Moment) → outside (length ls) (records_of ls ++ rest) t ≡ Err (refusal (outside_number ls t) 0)
unfolding outside outside_number records_of pick record_at
outside_number_lem [] rest t = refl
outside_number_lem (l ∷ ls) rest t = at (before t l.start)
  where
    at : (c : Bool) → ◌≡◌ {A = Result FoundLeaf Refusal} (pick c (Err (refusal 23 0)) (Err (refusal 24 0))) (Err (refusal (pick c 23 24) 0))
    at true = refl
    at false = refl

none_found : (ls : List Leaf) (rest : List ℕ) (t : Moment) → NoLeafCovers ls t → covering_from (length ls) 0 (records_of ls ++ rest) t ≡ none
none_found ls rest t h =
    covers_none (length ls) 0 (records_of ls ++ rest) t (λ m from to. let (k, at) = below_at ls m (omega arith) in covers_at ls rest t m k at ∙ h m k at)

-- No leaf covers the time: it is refused with 23 where there is a first leaf and the time is below its start, and else with 24.
pub refused_exact : (ls : List Leaf) (rest : List ℕ) (t : Moment) → NoLeafCovers ls t → look_in (length ls) (records_of ls ++ rest) t ≡ Err (refusal (outside_number ls t) 0)
unfolding found
refused_exact ls rest t h = ap (λ (o : Option ℕ). found (length ls) (records_of ls ++ rest) t o) (none_found ls rest t h) ∙ outside_number_lem ls rest t

-- What is found is a leaf that covers the time, its number and its record, and no earlier leaf covers it.
pub found_leaf : (ls : List Leaf) (rest : List ℕ) (t : Moment) (n : ℕ) (r : Record) → look_in (length ls) (records_of ls ++ rest) t ≡ Ok (the_leaf n r) →
    (i : ℕ) × (l : Leaf) × At ls i l × (leaf_covers t l ≡ true) × (n ≡ suc i) × (r ≡ record_of l) × ((j : ℕ) (m : Leaf) → j < i → At ls j m → leaf_covers t m ≡ false)
unfolding found
found_leaf ls rest t n r = at (covering_from (length ls) 0 (records_of ls ++ rest) t) refl
  where
    at : (o : Option ℕ) → covering_from (length ls) 0 (records_of ls ++ rest) t ≡ o → found (length ls) (records_of ls ++ rest) t o ≡ Ok (the_leaf n r) →
        (i : ℕ) × (l : Leaf) × At ls i l × (leaf_covers t l ≡ true) × (n ≡ suc i) × (r ≡ record_of l) × ((j : ℕ) (m : Leaf) → j < i → At ls j m → leaf_covers t m ≡ false)
    at none e h = let z : ◌≡◌ {A = ℕ} 0 1 = cc (outside_number_lem ls rest t) in absurd (omega arith)
    at (some i) e h =
        let lowest = covering_lowest (length ls) 0 (records_of ls ++ rest) t i e in
        let below = lowest.below in
        let (l, there) = below_at ls i (omega arith) in
        let same : the_leaf n r ≡ the_leaf (suc i) (record_at (records_of ls ++ rest) i) = cc in
        let number : n ≡ suc i = ap (λ (f : FoundLeaf). f.number) same in
        let held : r ≡ record_at (records_of ls ++ rest) i = ap (λ (f : FoundLeaf). f.«record») same in (
          i,
          l,
          there,
          sym (covers_at ls rest t i l there) ∙ lowest.covering,
          number,
          held ∙ record_of_leaf ls rest i l there,
          λ j m low at'. sym (covers_at ls rest t j m at') ∙ lowest.lower j (omega arith) low,
        )

-- A time that some leaf covers is found.
pub covered_found : (ls : List Leaf) (rest : List ℕ) (t : Moment) (i : ℕ) (l : Leaf) → At ls i l → leaf_covers t l ≡ true →
    (n : ℕ) × (r : Record) × (look_in (length ls) (records_of ls ++ rest) t ≡ Ok (the_leaf n r))
unfolding found
covered_found ls rest t i l there here = at (covering_from (length ls) 0 (records_of ls ++ rest) t) refl
  where
    at : (o : Option ℕ) → covering_from (length ls) 0 (records_of ls ++ rest) t ≡ o → (n : ℕ) × (r : Record) × (found (length ls) (records_of ls ++ rest) t o ≡ Ok (the_leaf n r))
    at none e =
        let below = at_below ls i l there in
        absurd (true≢false (sym here ∙ sym (covers_at ls rest t i l there) ∙ none_covers (length ls) 0 (records_of ls ++ rest) t e i (omega arith) (omega arith)))
    at (some j) e = (suc j, record_at (records_of ls ++ rest) j, refl)

-- A time is found exactly when some leaf covers it.
pub lookup_covers : (ls : List Leaf) (rest : List ℕ) (t : Moment) →
    ((n : ℕ) × (r : Record) × (look_in (length ls) (records_of ls ++ rest) t ≡ Ok (the_leaf n r))) ↔ ((i : ℕ) × (l : Leaf) × At ls i l × (leaf_covers t l ≡ true))
lookup_covers ls rest t = (
  λ (f : (n : ℕ) × (r : Record) × (look_in (length ls) (records_of ls ++ rest) t ≡ Ok (the_leaf n r))).
      let (i, l, there, here, number, held, earlier) = found_leaf ls rest t f.0 f.1 f.2 in (i, l, there, here),
  λ (c : (i : ℕ) × (l : Leaf) × At ls i l × (leaf_covers t l ≡ true)). covered_found ls rest t c.0 c.1 c.2 c.3,
)

-- A time is refused exactly when no leaf covers it.
pub lookup_refuses : (ls : List Leaf) (rest : List ℕ) (t : Moment) → ((x : Refusal) × (look_in (length ls) (records_of ls ++ rest) t ≡ Err x)) ↔ NoLeafCovers ls t
lookup_refuses ls rest t = (
  λ (f : (x : Refusal) × (look_in (length ls) (records_of ls ++ rest) t ≡ Err x)) i l there. at f.0 f.1 i l there (leaf_covers t l) refl,
  λ h. (refusal (outside_number ls t) 0, refused_exact ls rest t h),
)
  where
    at : (x : Refusal) → look_in (length ls) (records_of ls ++ rest) t ≡ Err x → (i : ℕ) (l : Leaf) → At ls i l → (c : Bool) → leaf_covers t l ≡ c → c ≡ false
    at x e i l there false here = refl
    at x e i l there true here =
        let (n, r, f) = covered_found ls rest t i l there here in
        let z : ◌≡◌ {A = ℕ} 0 1 = cc in
        absurd (omega arith)
