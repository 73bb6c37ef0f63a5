-- Each tick from the stated start up to the start plus the sum of the top durations belongs to exactly one leaf, and no other tick to any.
use Prim.Native.Nat.{ℕ, ◌+◌, ◌≤◌, ◌<◌}
use mathlib.Core.Path.{◌≡◌, refl, ap}
use mathlib.Core.List.{List, [], ◌∷◌, ◌++◌}
use mathlib.Core.Option.{some}
use mathlib.Core.Bool.{true}
use native.Mathlib.Omega.{arith}
use Rattle.segment.specs.Boxes.{durations}
use Rattle.segment.specs.Tree.{Opened, top_index, Leaf, covers, Part, leaf_part, index_part, leaves_in, segment}
use Rattle.segment.specs.Parts.{At, One}
use Rattle.segment.proofs.Stands.{parts_made, parts_listed}
use Rattle.segment.proofs.Spans.{Has, end_on, inside, one_has, one_alike}
use Rattle.segment.proofs.Tiles.{Fact, Grows, made_by}
use Rattle.segment.proofs.Edges.{start_of, duration_of, Follow, covered_between, between_covered}

-- Of leaves that follow one another each tick from the first start up to the last end is covered by exactly one.
pub follow_tick : (ls : List Leaf) (from to : ℕ) → Follow from ls to → (t : ℕ) → from ≤ t → t < to → One (λ l. covers t l ≡ true) ls
follow_tick ls from to f t low high =
    one_alike (Has start_of duration_of t) (λ l. covers t l ≡ true) ls (λ l h. between_covered l t h.0 h.1) (λ l e. covered_between l t e)
    (one_has start_of duration_of ls from to f t low high)

-- Such leaves cover no other tick.
pub follow_within : (ls : List Leaf) (from to : ℕ) → Follow from ls to → (t i : ℕ) (l : Leaf) → At ls i l → covers t l ≡ true → (from ≤ t) × (t < to)
follow_within ls from to f t i l there e =
    let within = inside start_of duration_of ls from to f i l there in
    let between = covered_between l t e in
    omega arith

-- the leaves of parts, first of some and then of others
pub leaves_in_both : (ps qs : List Part) → leaves_in (ps ++ qs) ≡ leaves_in ps ++ leaves_in qs
unfolding leaves_in
leaves_in_both [] qs = refl
leaves_in_both (leaf_part l ts ∷ ps) qs = ap (λ (ls : List Leaf). l ∷ ls) (leaves_in_both ps qs)
leaves_in_both (index_part p s ∷ ps) qs = leaves_in_both ps qs

-- The first leaf starts where the parts do, each next one where the last ended, and the last ends where the parts do.
abbrev LeavesFollow : Fact
LeavesFollow p s d xs ps = Follow s (leaves_in ps) (s + d)

leaves_grow : (id scale : ℕ) → Grows id scale LeavesFollow
unfolding leaves_in
leaves_grow id scale =
    record {
      nothing = λ p s. omega arith;
      leaf = λ p s e xs ts long read. (refl, refl);
      inner = λ p s d xs o ps i long f. f;
      both = λ p s d d' xs ys ps qs f g.
          let sum : s + d + d' ≡ s + (d + d') = omega arith in
          rw leaves_in_both (end_on start_of duration_of (leaves_in ps) (leaves_in qs) s (s + d) (s + (d + d')) f (rw sum at g));
    }

-- what the leaves of a segment follow from and to, by its top index
pub leaves_span : (brand : ℕ) (xs : List ℕ) (ls : List Leaf) (top : Opened) → segment brand xs ≡ some ls → top_index brand xs ≡ some top →
    Follow top.index.time ls (top.index.time + durations top.index.entries)
leaves_span brand xs ls top accepted opened =
    let (other, ps, opened', parted, leaves) = parts_listed brand xs ls accepted in
    rw leaves at (made_by xs top ps (parts_made brand xs top ps opened parted) LeavesFollow (leaves_grow top.index.id top.index.scale))

-- Each tick from the stated start up to the start plus the sum of the top durations is covered by exactly one leaf.
pub each_tick : (brand : ℕ) (xs : List ℕ) (ls : List Leaf) (top : Opened) → segment brand xs ≡ some ls → top_index brand xs ≡ some top →
    (t : ℕ) → top.index.time ≤ t → t < top.index.time + durations top.index.entries → One (λ l. covers t l ≡ true) ls
each_tick brand xs ls top accepted opened = follow_tick ls _ _ (leaves_span brand xs ls top accepted opened)

-- No leaf covers a tick outside that span.
pub no_tick_outside : (brand : ℕ) (xs : List ℕ) (ls : List Leaf) (top : Opened) → segment brand xs ≡ some ls → top_index brand xs ≡ some top →
    (t i : ℕ) (l : Leaf) → At ls i l → covers t l ≡ true → (top.index.time ≤ t) × (t < top.index.time + durations top.index.entries)
no_tick_outside brand xs ls top accepted opened = follow_within ls _ _ (leaves_span brand xs ls top accepted opened)
