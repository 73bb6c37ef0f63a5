-- The test of the ranges is their type; ranges of two lists; and a number that is being read byte by byte.
use Prim.Native.Nat.{ℕ, zero, suc, ◌+◌, ◌-◌, ◌*◌, ◌^◌, ◌≤◌, ◌<◌}
use mathlib.Core.Path.{◌≡◌, refl}
use mathlib.Core.List.{List, [], ◌∷◌, ◌++◌}
use mathlib.Core.Bool.{true}
use mathlib.Core.Logic.{◌↔◌}
use native.Mathlib.Omega.{arith}
use native.Mathlib.Nat.{pow-suc, pow-le-pow_right}
use lib.Dec.{leb}
use borrow.Author.Tests.{leb-true, le-leb}
use Rattle.basics.proofs.Tests.{and_both}
use Rattle.state.specs.declared.State.{State}
use Rattle.state.specs.Ranges.{Bound, within, Within, spelled_bounds, bounds, in_range, InRange}

within_true : (bs : List Bound) → within bs ≡ true → Within bs
unfolding within
within_true [] e = tt
within_true (b ∷ bs) e = let h = and_both (leb b.low b.high) (within bs) e in (leb-true _ _ h.0, within_true bs h.1)

true_within : (bs : List Bound) → Within bs → within bs ≡ true
unfolding within
true_within [] h = refl
true_within (b ∷ bs) h = rw (le-leb b.low b.high h.0) (true_within bs h.1)

-- the test equals the type
pub within_holds : (bs : List Bound) → (within bs ≡ true) ↔ Within bs
within_holds bs = (within_true bs, true_within bs)

pub in_range_lem : (s : State) → (in_range s ≡ true) ↔ InRange s
in_range_lem s = within_holds (bounds s)

-- ranges of two lists, from both and to each
pub within_append : (xs ys : List Bound) → Within xs → Within ys → Within (xs ++ ys)
within_append [] ys h k = k
within_append (x ∷ xs) ys h k = (h.0, within_append xs ys h.1 k)

pub within_first : (xs ys : List Bound) → Within (xs ++ ys) → Within xs
within_first [] ys h = tt
within_first (x ∷ xs) ys h = (h.0, within_first xs ys h.1)

pub within_second : (xs ys : List Bound) → Within (xs ++ ys) → Within ys
within_second [] ys h = h
within_second (x ∷ xs) ys h = within_second xs ys h.1

-- the same of three lists, and of four
pub within_three : (ws bs cs : List Bound) → Within ws → Within bs → Within cs → Within (ws ++ (bs ++ cs))
within_three ws bs cs h k l = within_append ws (bs ++ cs) h (within_append bs cs k l)

pub three_within : (ws bs cs : List Bound) → Within (ws ++ (bs ++ cs)) → Within ws × Within bs × Within cs
three_within ws bs cs h =
    let k = within_second ws (bs ++ cs) h in
    (within_first ws (bs ++ cs) h, within_first bs cs k, within_second bs cs k)

pub within_four : (ws bs cs ds : List Bound) → Within ws → Within bs → Within cs → Within ds → Within (ws ++ (bs ++ (cs ++ ds)))
within_four ws bs cs ds h k l m = within_three ws bs (cs ++ ds) h k (within_append cs ds l m)

pub four_within : (ws bs cs ds : List Bound) → Within (ws ++ (bs ++ (cs ++ ds))) → Within ws × Within bs × Within cs × Within ds
four_within ws bs cs ds h =
    let k = three_within ws bs (cs ++ ds) h in
    (k.0, k.1, within_first cs ds k.2, within_second cs ds k.2)

-- a power is not 0
power_least : (k : ℕ) → 0 < 256 ^ k
power_least zero = omega arith
power_least (suc k) = let h : 0 < 256 ^ k = power_least k in rw pow-suc (omega arith)

-- what is spelled by bytes of a number is spelled by as many of a longer one, or of one of which fewer follow
pub spelled_within : (most more most' more' acc : ℕ) → more' ≤ most' → most - more ≤ most' - more' → Within (spelled_bounds most more acc) → Within (spelled_bounds most' more' acc)
spelled_within most more most' more' acc h j w =
    let k : 256 ^ (most - more) ≤ 256 ^ (most' - more') = pow-le-pow_right (omega arith) j in
    (h, (omega (arith, w.1.0), tt))

-- a number of which nothing was read yet
pub spelled_first : (most more : ℕ) → more ≤ most → Within (spelled_bounds most more 0)
spelled_first most more h = (h, (power_least (most - more), tt))

-- one more byte of a number, and others follow
pub spelled_next : (most m acc b : ℕ) → b < 256 → Within (spelled_bounds most (suc m) acc) → Within (spelled_bounds most m (acc * 256 + b))
spelled_next most m acc b h w =
    let e : most - m ≡ suc (most - suc m) = omega arith in
    (omega arith, (rw (e, pow-suc 256 (most - suc m)) (omega (arith, w.1.0)), tt))

-- the last byte of a number
pub spelled_last : (most acc b : ℕ) → b < 256 → Within (spelled_bounds most zero acc) → acc * 256 + b < 256 ^ suc most
spelled_last most acc b h w =
    let e : most - zero ≡ most = omega arith in
    let k : acc < 256 ^ most = rw e at w.1.0 in
    rw pow-suc (omega arith)
