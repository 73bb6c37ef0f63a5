-- An accepted segment has a leaf: every index has an entry, every entry has a byte, and bytes that entries fill have a leaf in them.
use Prim.Native.Nat.{ℕ, zero, suc, ◌+◌, ◌*◌, ◌%◌, ◌<◌, ◌≤◌}
use mathlib.Core.Path.{◌≡◌, refl, sym, ap, ◌∙◌, subst}
use mathlib.Core.List.{List, [], ◌∷◌}
use mathlib.Core.Logic.{◌≢◌, ◌⊎◌, inl, inr}
use mathlib.Core.Option.{some, some-injective}
use native.Mathlib.Omega.{arith}
use lib.Dec.{eqb, ltb}
use lib.ListN.{length, drop, length-append}
use borrow.Author.Tests.{eqb-false}
use Rattle.basics.specs.Choose.{and_then}
use Rattle.basics.proofs.Picks.{lt_or_ge}
use Rattle.basics.proofs.Options.{then_inv, pick_some, pick_else}
use Rattle.segment.specs.Constants.{entry_bytes, type_bit, most_entries}
use Rattle.segment.specs.Boxes.{provided, except, field, Entry, entry_of, entries_of, sizes, Index, sidx_index}
use Rattle.segment.specs.Tree.{Leaf, leaves_in, segment}
use Rattle.segment.proofs.Stands.{top_stands, parts_made, parts_listed}
use Rattle.segment.proofs.Tiles.{Fact, Grows, made_by}
use Rattle.segment.proofs.Ticks.{leaves_in_both}

-- There are as many entries as were counted.
pub entries_count : (c : ℕ) (xs : List ℕ) (es : List Entry) → entries_of c xs ≡ some es → length es ≡ c
unfolding entries_of
entries_count zero xs es h = ap length (sym (some-injective _ _ h))
entries_count (suc c) xs es h =
    let (e, p, q) = then_inv (entry_of xs) _ es h in
    let (more, p', q') = then_inv (entries_of c (drop entry_bytes xs)) _ es q in
    ap length (sym (some-injective _ _ q')) ∙ ap suc (entries_count c (drop entry_bytes xs) more p')

-- No size of an entry is 0.
abbrev pub Sized : List Entry → Type 0
Sized [] = Unit {0}
Sized (e ∷ es) = (0 < e.size) × Sized es

entry_sized : (xs : List ℕ) (e : Entry) → entry_of xs ≡ some e → 0 < e.size
unfolding entry_of
entry_sized xs e o =
    let (first, p1, r1) = then_inv (field 4 xs) _ e o in
    let (duration, p2, r2) = then_inv (field 4 first.rest) _ e r1 in
    let (sap, p3, r3) = then_inv (field 4 duration.rest) _ e r2 in
    let (test, r4) = pick_else (eqb (first.value % type_bit) 0) _ e r3 in
    let q : first.value % type_bit ≡ e.size = cc in
    let z : first.value % type_bit ≢ 0 = λ y. eqb-false (first.value % type_bit) 0 test y in
    omega arith

pub entries_sized : (c : ℕ) (xs : List ℕ) (es : List Entry) → entries_of c xs ≡ some es → Sized es
unfolding entries_of
entries_sized zero xs es e = let q : [] ≡ es = cc in rw (← q) tt
entries_sized (suc c) xs es e =
    let (a, p, r) = then_inv (entry_of xs) _ es e in
    let (more, ps, rs) = then_inv (entries_of c (drop entry_bytes xs)) _ es r in
    let q : a ∷ more ≡ es = cc in
    rw (← q) (entry_sized xs a p, entries_sized c (drop entry_bytes xs) more ps)

sized_some : (es : List Entry) → length es ≢ 0 → Sized es → 0 < sizes es
unfolding sizes
sized_some [] any sized = absurd (any refl)
sized_some (e ∷ es) any sized = let first = sized.0 in omega arith

-- the count is not 0, and there are so many entries
counted_entries : (id scale time offset count : ℕ) (rest : List ℕ) (i : Index) →
    except (eqb scale 0)
    (except (eqb count 0)
    (except (ltb most_entries count)
    (provided (eqb (length rest) (entry_bytes * count))
    (and_then (entries_of count rest) (λ entries. some (record { id = id; scale = scale; time = time; offset = offset; entries = entries })))))) ≡ some i →
    0 < sizes i.entries
counted_entries id scale time offset count rest i e =
    let (scaled, g1) = pick_else _ _ i e in
    let (counted, g2) = pick_else _ _ i g1 in
    let (most, g3) = pick_else _ _ i g2 in
    let (long, g4) = pick_some _ _ i g3 in
    let (entries, read, g5) = then_inv _ _ i g4 in
    let same : entries ≡ i.entries = ap (λ (j : Index). j.entries) (some-injective _ _ g5) in
    subst (λ (es : List Entry). 0 < sizes es) same
    (sized_some entries (λ z. eqb-false count 0 counted (sym (entries_count count rest entries read) ∙ z)) (entries_sized count rest entries read))

-- an index has an entry, and its entries cover a byte
pub index_entries : (body : List ℕ) (i : Index) → sidx_index body ≡ some i → 0 < sizes i.entries
unfolding sidx_index
index_entries body i e =
    let (version, e1, f1) = then_inv _ _ i e in
    let (width, e2, f2) = then_inv _ _ i f1 in
    let (flags, e3, f3) = then_inv _ _ i f2 in
    let (id, e4, f4) = then_inv _ _ i f3 in
    let (scale, e5, f5) = then_inv _ _ i f4 in
    let (time, e6, f6) = then_inv _ _ i f5 in
    let (offset, e7, f7) = then_inv _ _ i f6 in
    let (reserved, e8, f8) = then_inv _ _ i f7 in
    let (count, e9, f9) = then_inv _ _ i f8 in
    counted_entries id.value scale.value time.value offset.value count.value count.rest i f9

-- where there are bytes there is a leaf
abbrev HasLeaf : Fact
HasLeaf p s d xs ps = 0 < length xs → 0 < length (leaves_in ps)

has_leaf : (id scale : ℕ) → Grows id scale HasLeaf
unfolding leaves_in
has_leaf id scale =
    record {
      nothing = λ p s any. any;
      leaf = λ p s e xs ts long read any. omega arith;
      inner = λ p s d xs o ps i long h any. let covered = index_entries o.box.body o.index i.says in h (omega arith);
      both = λ p s d d' xs ys ps qs h g any. rw (leaves_in_both, length-append) (either (lt_or_ge 0 (length xs)) (length-append xs ys) any h g);
    }
  where
    either : {m n a b c : ℕ} → (0 < m) ⊎ (m ≤ 0) → c ≡ m + n → 0 < c → (0 < m → 0 < a) → (0 < n → 0 < b) → 0 < a + b
    either (inl some_bytes) sum any h g = let first = h some_bytes in omega arith
    either (inr no_bytes) sum any h g = let second = g (omega arith) in omega arith

-- An accepted segment has a leaf.
pub leaves_some : (brand : ℕ) (xs : List ℕ) (ls : List Leaf) → segment brand xs ≡ some ls → 0 < length ls
leaves_some brand xs ls e =
    let (top, ps, opened, parted, leaves) = parts_listed brand xs ls e in
    let m = parts_made brand xs top ps opened parted in
    let long = m.long in
    let covered = index_entries top.box.body top.index (top_stands brand xs top opened).says in
    rw leaves at (made_by xs top ps m HasLeaf (has_leaf top.index.id top.index.scale) (omega arith))
