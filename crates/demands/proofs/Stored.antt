-- Entries in the work area: stored, read back, and left alone by what is stored later.
use Prim.Native.Nat.{ℕ, zero, suc, ◌+◌, ◌-◌, ◌*◌, ◌/◌, ◌%◌, ◌≤◌, ◌<◌, min}
use mathlib.Core.Path.{◌≡◌, refl, ap, sym, ◌∙◌}
use mathlib.Core.List.{List, [], ◌∷◌, ◌++◌, append_assoc}
use mathlib.Core.Option.{some, none}
use mathlib.Core.Bool.{Bool, true, false, not}
use native.Mathlib.Omega.{arith}
use lib.Dec.{eqb, leb}
use lib.ListN.{length, get_or, take, drop, length-append, length-take, length-drop, take-append-drop}
use lib.Seq.{ext_get_or, get_or-take, get_or-drop, take-append-le, drop-append-le, drop-append-add, drop-drop, length-take-le}
use borrow.Author.Tests.{leb-true, leb-false, eq-eqb, ne_eqb}
use Rattle.basics.proofs.Put.{put_length, put_before, put_between}
use Rattle.basics.specs.Choose.{pick, and_then}
use Rattle.basics.specs.Bytes.{number}
use Rattle.basics.proofs.Options.{then_inv, pick_else}
use Rattle.segment.specs.Constants.{entry_bytes, type_bit}
use Rattle.segment.specs.Boxes.{entry_of, entries_of}
use Rattle.segment.specs.Boxes as tree
use Rattle.segment.proofs.Said.{field_some}
use Rattle.basics.specs.Put.{put_all}
use Rattle.state.specs.Levels.{word_at, entry_at}
use Rattle.state.specs.declared.StoredEntry.{StoredEntry}

-- Two work areas of one length that are the same below a place.
pub record Alike (a : ℕ) (v w : List ℕ) : Type 0 where
  pub long : length v ≡ length w
  pub same : (i : ℕ) → i < a → get_or v i 0 ≡ get_or w i 0

pub alike_trans : {a : ℕ} {u v w : List ℕ} → Alike a u v → Alike a v w → Alike a u w
alike_trans p q = record { long = p.long ∙ q.long; same = λ i h. p.same i h ∙ q.same i h }

pub alike_refl : (a : ℕ) (w : List ℕ) → Alike a w w
alike_refl a w = record { long = refl; same = λ i h. refl }

-- alike below a place, and so below one before it
pub alike_less : {a b : ℕ} {u v : List ℕ} → a ≤ b → Alike b u v → Alike a u v
alike_less {a} {b} l p = record { long = p.long; same = λ i h. p.same i (omega arith) }

pub put_alike : (a : ℕ) (w : List ℕ) (i : ℕ) (xs : List ℕ) → a ≤ i → Alike a w (put_all w i xs)
put_alike a w i xs h = record { long = sym (put_length w i xs); same = λ j l. sym (put_before w i xs j (omega arith)) }

-- a word below the place up to which two areas are alike
pub word_alike : {a : ℕ} {v w : List ℕ} (i : ℕ) → Alike a v w → i + 4 ≤ a → word_at v i ≡ word_at w i
word_alike {a} {v} {w} i l h =
    let q : length v ≡ length w = l.long in
    ap number
    (ext_get_or 0 (take 4 (drop i v)) (take 4 (drop i w)) (simp (length-take, length-drop, q))
    (λ j k.
    let k' : j < min 4 (length v - i) = rw (length-take, length-drop) at k in
    let lt : j < 4 = omega arith in
    get_or-take 4 (drop i v) j 0 lt ∙ get_or-drop i v j 0 ∙ l.same (i + j) (omega arith) ∙ sym (get_or-take 4 (drop i w) j 0 lt ∙ get_or-drop i w j 0)))

-- an entry of the tree, as it is read back from the work area
abbrev pub entry_from : tree.Entry → StoredEntry
entry_from e = record { inner = not (eqb e.kind 0); size = e.size; duration = e.duration; sap = e.sap }

-- entries as they are read back from a place on
abbrev pub Holds : List ℕ → ℕ → List tree.Entry → Type 0
Holds w i [] = Unit {0}
Holds w i (e ∷ es) = (entry_at w i ≡ entry_from e) × Holds w (i + entry_bytes) es

entry_alike : {a : ℕ} {v w : List ℕ} (i : ℕ) → Alike a v w → i + entry_bytes ≤ a → entry_at v i ≡ entry_at w i
unfolding entry_at
entry_alike i l h =
    let q0 = word_alike i l (omega arith) in
    let q1 = word_alike (i + 4) l (omega arith) in
    let q2 = word_alike (i + 8) l (omega arith) in
    rw (q0, q1, q2)

-- entries held below the place up to which two areas are alike
pub holds_alike : (es : List tree.Entry) {a : ℕ} {v w : List ℕ} (i : ℕ) → Alike a v w → i + entry_bytes * length es ≤ a → Holds v i es → Holds w i es
holds_alike [] i l h k = tt
holds_alike (e ∷ es) i l h k = (sym (entry_alike i l (omega arith)) ∙ k.0, holds_alike es (i + entry_bytes) l (omega arith) k.1)

-- An entry of the tree, where there are enough bytes.
abbrev pub entry_here : List ℕ → tree.Entry
entry_here xs = record { kind = word_at xs 0 / type_bit; size = word_at xs 0 % type_bit; duration = word_at xs 4; sap = word_at xs 8 }

pub entry_here_lem : (xs : List ℕ) → entry_bytes ≤ length xs → entry_of xs ≡ pick (eqb (word_at xs 0 % type_bit) 0) none (some (entry_here xs))
unfolding entry_of and_then
entry_here_lem xs h =
    let l4 = length-drop 4 xs in
    let l8 = length-drop 8 xs in
    let d : drop 4 (drop 4 xs) ≡ drop 8 xs = drop-drop 4 4 xs in
    rw (field_some 4 xs (omega arith), field_some 4 (drop 4 xs) (omega arith), d, field_some 4 (drop 8 xs) (omega arith))

-- the test of an entry's type bit
inner_bit : (word : ℕ) → leb type_bit word ≡ not (eqb (word / type_bit) 0)
inner_bit word = at (leb type_bit word) refl
  where
    at : (t : Bool) → leb type_bit word ≡ t → t ≡ not (eqb (word / type_bit) 0)
    at true e = let h = leb-true type_bit word e in rw (ne_eqb (word / type_bit) 0 (λ q. omega arith))
    at false e = let h = leb-false type_bit word e in rw (eq-eqb (word / type_bit) 0 (omega arith))

-- a word inside a list that stands between two others
word_between : (before xs after : List ℕ) (i : ℕ) → i + 4 ≤ length xs → word_at (before ++ xs ++ after) (length before + i) ≡ word_at xs i
word_between before xs after i h =
    ap number
    (ap (take 4) (ap (drop (length before + i)) (append_assoc before xs after) ∙ drop-append-add before (xs ++ after) i ∙ drop-append-le i xs after (omega arith))
    ∙ take-append-le 4 (drop i xs) after (omega (arith, length-drop i xs)))

-- an entry of the tree is read back where its bytes stand
entry_between : (before xs after : List ℕ) (e : tree.Entry) → entry_bytes ≤ length xs → entry_of xs ≡ some e → entry_at (before ++ xs ++ after) (length before) ≡ entry_from e
unfolding entry_at
entry_between before xs after e h o =
    let q : length before + 0 ≡ length before = omega arith in
    let here = (pick_else (eqb (word_at xs 0 % type_bit) 0) (some (entry_here xs)) e (sym (entry_here_lem xs h) ∙ o)).1 in
    let same : entry_here xs ≡ e = cc in
    let w0 : word_at (before ++ xs ++ after) (length before) ≡ word_at xs 0 = rw q at (word_between before xs after 0 (omega arith)) in
    let w4 : word_at (before ++ xs ++ after) (length before + 4) ≡ word_at xs 4 = word_between before xs after 4 (omega arith) in
    let w8 : word_at (before ++ xs ++ after) (length before + 8) ≡ word_at xs 8 = word_between before xs after 8 (omega arith) in
    rw (w0, w4, w8, inner_bit) (ap entry_from same)

-- and so are all entries
entries_between : (c : ℕ) (before xs after : List ℕ) (es : List tree.Entry) → entry_bytes * c ≤ length xs → entries_of c xs ≡ some es → Holds (before ++ xs ++ after) (length before) es
unfolding entries_of
entries_between zero before xs after es h e = let q : [] ≡ es = cc in rw (← q) tt
entries_between (suc c) before xs after es h e =
    let (a, p, r) = then_inv (entry_of xs) _ es e in
    let (more, ps, rs) = then_inv (entries_of c (drop entry_bytes xs)) _ es r in
    let q : a ∷ more ≡ es = cc in
    let split : before ++ take entry_bytes xs ++ drop entry_bytes xs ++ after ≡ before ++ xs ++ after =
    ap (λ l. l ++ after) (append_assoc before (take entry_bytes xs) (drop entry_bytes xs) ∙ ap (λ l. before ++ l) (take-append-drop entry_bytes xs)) in
    let long : length (before ++ take entry_bytes xs) ≡ length before + entry_bytes =
    length-append before (take entry_bytes xs) ∙ ap (λ z. length before + z) (length-take-le entry_bytes xs (omega arith)) in
    let ih : Holds (before ++ take entry_bytes xs ++ drop entry_bytes xs ++ after) (length (before ++ take entry_bytes xs)) more =
    entries_between c (before ++ take entry_bytes xs) (drop entry_bytes xs) after more (omega (arith, length-drop entry_bytes xs)) ps in
    rw (← q) (entry_between before xs after a (omega arith) p, rw (split, long) at ih)

-- What was stored reads back: entries whose bytes are put at a place where there is room are held there.
pub holds : (work : List ℕ) (base c : ℕ) (bytes : List ℕ) (es : List tree.Entry) → base + length bytes ≤ length work → entry_bytes * c ≤ length bytes → entries_of c bytes ≡ some es →
    Holds (put_all work base bytes) base es
holds work base c bytes es room long e =
    let q : length (take base work) ≡ base = length-take-le base work (omega arith) in
    rw (put_between work base bytes room) (rw q at (entries_between c (take base work) bytes (drop (base + length bytes) work) es long e))
