-- Rules 4 and 7 as facts of the tree, whatever the bytes: where a leaf under an inner index lies, and what a leaf covers.
use Prim.Native.Nat.{ℕ, suc, ◌+◌, ◌≤◌, ◌<◌}
use mathlib.Core.Path.{◌≡◌, refl, sym}
use mathlib.Core.List.{List, [], ◌∷◌}
use mathlib.Core.Option.{some}
use mathlib.Core.Bool.{Bool, true, false, true≢false}
use native.Mathlib.Omega.{arith}
use lib.Dec.{ltb, leb}
use lib.ListN.{take}
use borrow.Author.Tests.{eq-eqb, ltb-true, lt-ltb, le-ltb, le-leb, leb-true}
use Rattle.basics.specs.Choose.{pick, and_then}
use Rattle.basics.proofs.Picks.{pick_if}
use Rattle.segment.specs.Boxes.{Entry}
use Rattle.segment.specs.Leaves.{leaf_times}
use Rattle.segment.specs.Tree.{Opened, Leaf, covers, leaf_part, index_part, leaf_of, entry_parts, tile, inner_index, under_index}
use Rattle.segment.proofs.Spans.{EndToEnd}

-- The one leaf of an inner index lies after the box of that index, and starts when the index does.
pub leaf_after_inner : (id scale left position start duration : ℕ) (xs : List ℕ) (inner : Opened) (e : Entry) (times : List ℕ) →
    inner_index id scale start duration xs ≡ some inner → inner.index.entries ≡ e ∷ [] → e.kind ≡ 0 →
    leaf_times id (take e.size inner.rest) ≡ some times →
    under_index id scale (suc left) position start duration xs
    ≡ some (index_part position inner.box.size ∷ leaf_part (leaf_of (position + inner.box.size) start e times) times ∷ [])
unfolding under_index tile entry_parts and_then pick
leaf_after_inner id scale left position start duration xs inner e times opened one leaf held = rw (opened, one, eq-eqb e.kind 0 leaf, held)

-- Rule 7. Leaves that follow one another: the first starts at `from`, each next one where the last ended, and the last ends at `to`.
abbrev pub start_of : Leaf → ℕ
start_of l = l.start

abbrev pub duration_of : Leaf → ℕ
duration_of l = l.duration

abbrev pub Follow : ℕ → List Leaf → ℕ → Type 0
Follow from ls to = EndToEnd start_of duration_of from ls to

-- the end of a leaf, its start plus its duration, is not covered by it
pub end_not_covered : (l : Leaf) → covers (l.start + l.duration) l ≡ false
unfolding covers
end_not_covered l =
    pick_if (leb l.start (l.start + l.duration)) (λ (c : Bool). c) (ltb (l.start + l.duration) (l.start + l.duration)) false false
    (λ e. le-ltb (l.start + l.duration) (l.start + l.duration) (omega arith)) (λ e. refl)

-- covered is what is from the start on and before the end
pub covered_between : (l : Leaf) (t : ℕ) → covers t l ≡ true → (l.start ≤ t) × (t < l.start + l.duration)
unfolding covers pick
covered_between l t = at (leb l.start t) refl
  where
    at : (c : Bool) → leb l.start t ≡ c → pick c (ltb t (l.start + l.duration)) false ≡ true → (l.start ≤ t) × (t < l.start + l.duration)
    at true from to = (leb-true l.start t from, ltb-true t (l.start + l.duration) to)
    at false from to = absurd (true≢false (sym to))

-- all from the start on and before the end is covered
pub between_covered : (l : Leaf) (t : ℕ) → l.start ≤ t → t < l.start + l.duration → covers t l ≡ true
unfolding covers pick
between_covered l t from to = rw (le-leb l.start t from, lt-ltb t (l.start + l.duration) to)
