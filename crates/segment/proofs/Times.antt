-- Rule 6, through the segment: no decode time is lower than one before it, and no leaf has a lower first decode time than one before it.
use Prim.Native.Nat.{ℕ, zero, suc, ◌≤◌}
use mathlib.Core.Path.{◌≡◌, refl, sym, ap, ◌∙◌}
use mathlib.Core.List.{List, [], ◌∷◌, ◌++◌, map}
use mathlib.Core.Option.{some, some-injective, none-ne-some}
use mathlib.Core.Bool.{true}
use native.Mathlib.Omega.{arith}
use lib.Dec.{ltb}
use borrow.Author.Tests.{ltb-false, le-ltb}
use Rattle.basics.proofs.Picks.{pick_no}
use Rattle.segment.specs.Leaves.{never_fall}
use Rattle.segment.specs.Tree.{Leaf, Part, leaf_part, index_part, times_in, leaves_in, segment_parts, segment}
use Rattle.segment.specs.Parts.{At}
use Rattle.segment.proofs.Rules.{but_not, NoFall, never_falls, leaf_timed}
use Rattle.segment.proofs.Stands.{parts_made, parts_listed}
use Rattle.segment.proofs.Spans.{All, all_both}
use Rattle.segment.proofs.Tiles.{Grows, made_by}

pub segment_times : (brand : ℕ) (xs : List ℕ) (ls : List Leaf) → segment brand xs ≡ some ls →
    (ps : List Part) × (segment_parts brand xs ≡ some ps) × (leaves_in ps ≡ ls) × NoFall (times_in ps)
segment_times brand xs ls e =
    let (top, ps, opened, parted, leaves) = parts_listed brand xs ls e in
    (ps, parted, leaves, never_falls 0 (times_in ps) (parts_made brand xs top ps opened parted).never)

-- a leaf has its first decode time
abbrev Timed : Part → Type 0
Timed (leaf_part l ts) = At ts 0 l.time
Timed (index_part p s) = Unit {0}

timed_grow : (id scale : ℕ) → Grows id scale (λ p s d xs ps. All Timed ps)
timed_grow id scale =
    record {
      nothing = λ p s. tt;
      leaf = λ p s e xs ts long read. let (t, first, same) = leaf_timed id xs ts read in (first ∙ ap some (sym same), tt);
      inner = λ p s d xs o ps i long h. (tt, h);
      both = λ p s d d' xs ys ps qs h g. all_both Timed ps qs h g;
    }

-- Times that never fall do not fall without the first ones, nor after a lower one.
fall_lower : (low last : ℕ) (ts : List ℕ) → low ≤ last → never_fall last ts ≡ true → never_fall low ts ≡ true
unfolding never_fall
fall_lower low last [] le e = refl
fall_lower low last (t ∷ ts) le e =
    let (high, more) = but_not (ltb t last) (never_fall t ts) e in
    let up = ltb-false t last high in
    pick_no (ltb t low) _ _ (le-ltb t low (omega arith)) ∙ more

fall_later : (last : ℕ) (ts us : List ℕ) → never_fall last (ts ++ us) ≡ true → never_fall last us ≡ true
unfolding never_fall
fall_later last [] us e = e
fall_later last (t ∷ ts) us e =
    let (high, more) = but_not (ltb t last) (never_fall t (ts ++ us)) e in
    let up = ltb-false t last high in
    fall_lower last t us (omega arith) (fall_later t ts us more)

abbrev time_of : Leaf → ℕ
time_of l = l.time

-- the first times of the leaves never fall either
firsts_rise : (last : ℕ) (ps : List Part) → All Timed ps → never_fall last (times_in ps) ≡ true → never_fall last (map time_of (leaves_in ps)) ≡ true
unfolding times_in leaves_in never_fall
firsts_rise last [] timed e = refl
firsts_rise last (leaf_part l [] ∷ ps) timed e = absurd (none-ne-some l.time timed.0)
firsts_rise last (leaf_part l (t ∷ ts) ∷ ps) timed e =
    let is : t ≡ l.time = some-injective _ _ timed.0 in
    let (high, more) = but_not (ltb t last) (never_fall t (ts ++ times_in ps)) e in
    pick_no (ltb l.time last) _ _ (rw is at high) ∙ firsts_rise l.time ps timed.1 (rw is at (fall_later t ts (times_in ps) more))
firsts_rise last (index_part p s ∷ ps) timed e = firsts_rise last ps timed.1 e

at_map : (ls : List Leaf) (i : ℕ) (l : Leaf) → At ls i l → At (map time_of ls) i l.time
at_map [] i l there = absurd (none-ne-some l there)
at_map (k ∷ ls) zero l there = ap (λ (m : Leaf). some m.time) (some-injective _ _ there)
at_map (k ∷ ls) (suc i) l there = at_map ls i l there

pub leaves_rise : (brand : ℕ) (xs : List ℕ) (ls : List Leaf) → segment brand xs ≡ some ls → (i j : ℕ) (l k : Leaf) → i ≤ j → At ls i l → At ls j k → l.time ≤ k.time
leaves_rise brand xs ls e i j l k order there there' =
    let (top, ps, opened, parted, leaves) = parts_listed brand xs ls e in
    let m = parts_made brand xs top ps opened parted in
    let timed = made_by xs top ps m (λ p s d ys qs. All Timed qs) (timed_grow top.index.id top.index.scale) in
    never_falls 0 (map time_of ls) (rw leaves at (firsts_rise 0 ps timed m.never)) i j l.time k.time order (at_map ls i l there) (at_map ls j k there')
