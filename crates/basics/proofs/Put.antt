-- Numbers put into a list stand between what was before and behind them; the list stays as long, and every other place as it was.
use Prim.Native.Nat.{ℕ, zero, suc, ◌+◌, ◌≤◌, ◌<◌}
use mathlib.Core.Path.{◌≡◌, refl, ap, ◌∙◌}
use mathlib.Core.List.{List, [], ◌∷◌, ◌++◌}
use native.Mathlib.Omega.{arith}
use lib.ListN.{length, take, drop, set, get_or, length-set}
use lib.Seq.{sets, length-sets, sets-eq, get_or-set_same, get_or-set_other}
use Rattle.basics.specs.Put.{put_all}

put_sets : (list : List ℕ) (i : ℕ) (xs : List ℕ) → put_all list i xs ≡ sets list i xs
unfolding put_all
put_sets list i [] = refl
put_sets list i (x ∷ xs) = put_sets (set list i x) (suc i) xs

pub put_length : (list : List ℕ) (i : ℕ) (xs : List ℕ) → length (put_all list i xs) ≡ length list
put_length list i xs = ap length (put_sets list i xs) ∙ length-sets list i xs

pub put_between : (list : List ℕ) (i : ℕ) (xs : List ℕ) → i + length xs ≤ length list → put_all list i xs ≡ take i list ++ xs ++ drop (i + length xs) list
put_between list i xs h = put_sets list i xs ∙ sets-eq xs list i h

pub put_before : (list : List ℕ) (i : ℕ) (xs : List ℕ) (j : ℕ) → j < i → get_or (put_all list i xs) j 0 ≡ get_or list j 0
unfolding put_all
put_before list i [] j h = refl
put_before list i (x ∷ xs) j h = put_before (set list i x) (suc i) xs j (omega arith) ∙ get_or-set_other list i j x 0 (omega arith)

pub put_past : (list : List ℕ) (i : ℕ) (xs : List ℕ) (j : ℕ) → i + length xs ≤ j → get_or (put_all list i xs) j 0 ≡ get_or list j 0
unfolding put_all
put_past list i [] j h = refl
put_past list i (x ∷ xs) j h = put_past (set list i x) (suc i) xs j (omega arith) ∙ get_or-set_other list i j x 0 (omega arith)

-- where there is room each stands at its own place
pub put_at : (list : List ℕ) (i : ℕ) (xs : List ℕ) (k : ℕ) → i + length xs ≤ length list → k < length xs → get_or (put_all list i xs) (i + k) 0 ≡ get_or xs k 0
unfolding put_all
put_at list i [] k room h = absurd (omega arith)
put_at list i (x ∷ xs) zero room h =
    let e : i + 0 ≡ i = omega arith in
    rw e (put_before (set list i x) (suc i) xs i (omega arith) ∙ get_or-set_same list i x 0 (omega arith))
put_at list i (x ∷ xs) (suc k) room h =
    let e : i + suc k ≡ suc i + k = omega arith in
    rw e (put_at (set list i x) (suc i) xs k (rw (length-set list i x) (omega arith)) (omega arith))

-- numbers put after others
pub put_more : (list : List ℕ) (i : ℕ) (xs ys : List ℕ) → put_all (put_all list i xs) (i + length xs) ys ≡ put_all list i (xs ++ ys)
unfolding put_all
put_more list i [] ys = let q : i + 0 ≡ i = omega arith in rw q
put_more list i (x ∷ xs) ys = let q : i + suc (length xs) ≡ suc i + length xs = omega arith in rw q (put_more (set list i x) (suc i) xs ys)
