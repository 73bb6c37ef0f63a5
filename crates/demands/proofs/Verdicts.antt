-- Laws of verdicts.
use Prim.Native.Nat.{ℕ, ◌+◌}
use mathlib.Core.Path.{◌≡◌, refl, ap, sym}
use mathlib.Core.List.{List, [], ◌∷◌, ◌++◌}
use mathlib.Core.Option.{Option, some, none}
use mathlib.Core.Bool.{Bool, true, false}
use lib.Dec.{eqb}
use Rattle.basics.specs.Choose.{pick, and_then}
use Rattle.segment.specs.Tree.{Part, leaf_part, index_part}
use Rattle.machine.specs.Run.{Res, okay, fail, cut, either, after}
use Rattle.state.specs.Flow.{Flow, Left, listed}
use Rattle.state.specs.Rows.{no_room}
use Rattle.demands.specs.Told.{upon, climb}
use Rattle.covering.specs.Records.{record_of}
use Rattle.demands.specs.Verdict.{Verdict, wrong, full, fine, judge, told, seen0, enlist, NotFine, Meets}

pub meets_same : {X : Type 0} (v : Verdict X) → Meets v v
meets_same wrong = tt
meets_same (full p) = refl
meets_same (fine x) = refl

pub meets_equal : {X : Type 0} (v w : Verdict X) → v ≡ w → Meets v w
meets_equal v w e = rw e (meets_same w)

pub meets_trans : {X : Type 0} (v u w : Verdict X) → Meets v u → Meets u w → Meets v w
meets_trans v wrong wrong p q = p
meets_trans v (full a) wrong p q = rw p tt
meets_trans v (fine x) wrong p q = absurd q
meets_trans v u (full a) p q = rw q at p
meets_trans v u (fine x) p q = rw q at p

-- a reading after another
pub judge_after : {R Q X : Type 0} (r : Res R Flow Left) (m : R → Flow → ℕ → List ℕ → Res Q Flow Left) (k : Q → Flow → ℕ → List ℕ → Verdict X) →
    judge (after r m) k ≡ judge r (λ q f n bs. judge (m q f n bs) k)
unfolding judge either
judge_after (okay q f n bs) m k = refl
judge_after (fail x l n) m k = refl
judge_after (cut l n) m k = refl

pub judge_cong : {R X : Type 0} (r : Res R Flow Left) (k k' : R → Flow → ℕ → List ℕ → Verdict X) →
    ((q : R) (f : Flow) (n : ℕ) (bs : List ℕ) → r ≡ okay q f n bs → k q f n bs ≡ k' q f n bs) → judge r k ≡ judge r k'
unfolding judge
judge_cong (okay q f n bs) k k' h = h q f n bs refl
judge_cong (fail x l n) k k' h = refl
judge_cong (cut l n) k k' h = refl

-- a choice
pub pick_not : {X : Type 0} (t : Bool) (v w : Verdict X) → NotFine v → NotFine w → NotFine (pick t v w)
unfolding pick
pick_not true v w p q = p
pick_not false v w p q = q

-- a reading that is never accepted is not fine
pub judge_not : {R X : Type 0} (r : Res R Flow Left) (k : R → Flow → ℕ → List ℕ → Verdict X) →
    ((q : R) (f : Flow) (n : ℕ) (bs : List ℕ) → r ≡ okay q f n bs → NotFine (k q f n bs)) → NotFine (judge r k)
unfolding judge
judge_not (okay q f n bs) k h = h q f n bs refl
judge_not (fail x l n) k h = pick_not (eqb x.number 15) (full x.place) wrong tt tt
judge_not (cut l n) k h = tt

-- What the tree tells.
pub told_then : {A B X : Type 0} (o : Option A) (g : A → Option B) (k : B → Verdict X) → told (and_then o g) k ≡ told o (λ a. told (g a) k)
unfolding told and_then
told_then none g k = refl
told_then (some a) g k = refl

pub told_cong : {A X : Type 0} (o : Option A) (g h : A → Verdict X) → ((a : A) → o ≡ some a → g a ≡ h a) → told o g ≡ told o h
unfolding told
told_cong none g h e = refl
told_cong (some a) g h e = e a refl

pub told_meets : {A X : Type 0} (o : Option A) (g h : A → Verdict X) → ((a : A) → o ≡ some a → Meets (g a) (h a)) → Meets (told o g) (told o h)
unfolding told
told_meets none g h e = tt
told_meets (some a) g h e = e a refl

pub told_not : {A X : Type 0} (o : Option A) (g : A → Verdict X) → ((a : A) → o ≡ some a → NotFine (g a)) → NotFine (told o g)
unfolding told
told_not none g e = tt
told_not (some a) g e = e a refl

-- A reading meets what the tree says, where the two are accepted together and what then follows meets: what the tree does not accept is
-- refused, whatever the number.
judge_meets : {R X : Type 0} (r : Res R Flow Left) (k : R → Flow → ℕ → List ℕ → Verdict X) → Meets (judge r k) (told (upon r (λ q f n bs. some (k q f n bs))) (λ v. v))
unfolding judge upon told
judge_meets (okay q f n bs) k = meets_same (k q f n bs)
judge_meets (fail x l n) k = pick_not (eqb x.number 15) (full x.place) wrong tt tt
judge_meets (cut l n) k = tt

pub judge_told : {A R X : Type 0} (r : Res R Flow Left) (k : R → Flow → ℕ → List ℕ → Verdict X) (o : Option A) (p : A → Option (Verdict X)) (say : A → Verdict X) →
    upon r (λ q f n bs. some (k q f n bs)) ≡ and_then o p → ((a : A) → o ≡ some a → Meets (told (p a) (λ v. v)) (say a)) → Meets (judge r k) (told o say)
judge_told r k o p say e h =
    meets_trans (judge r k) (told o (λ a. told (p a) (λ v. v))) (told o say) (rw (e, told_then o p (λ v. v)) at (judge_meets r k)) (told_meets o (λ a. told (p a) (λ v. v)) say h)

-- Leaves listed.
pub enlist_append : {X : Type 0} (ps qs : List Part) (f : Flow) (k : Flow → Verdict X) → enlist (ps ++ qs) f k ≡ enlist ps f (λ g. enlist qs g k)
unfolding enlist
enlist_append [] qs f k = refl
enlist_append (leaf_part l ts ∷ ps) qs f k =
    ap (pick (no_room f.leaves f.table) (full l.position))
    (told_cong (climb (seen0 f.last) ts) _ _ (λ s e. enlist_append ps qs (listed f (record_of l) (l.start + l.duration) s.last) k))
enlist_append (index_part p s ∷ ps) qs f k = enlist_append ps qs f k

pub enlist_not : {X : Type 0} (ps : List Part) (f : Flow) (k : Flow → Verdict X) → ((g : Flow) → NotFine (k g)) → NotFine (enlist ps f k)
unfolding enlist
enlist_not [] f k h = h f
enlist_not (leaf_part l ts ∷ ps) f k h =
    pick_not (no_room f.leaves f.table) (full l.position) _ tt
    (told_not (climb (seen0 f.last) ts) _ (λ s e. enlist_not ps (listed f (record_of l) (l.start + l.duration) s.last) k h))
enlist_not (index_part p s ∷ ps) f k h = enlist_not ps f k h

-- leaves of a first part and of a second, told apart or together
pub enlist_both : {X : Type 0} (o q : Option (List Part)) (f : Flow) (k : Flow → Verdict X) →
    Meets (told o (λ is. enlist is f (λ g. told q (λ js. enlist js g k)))) (told (and_then o (λ is. and_then q (λ js. some (is ++ js)))) (λ ks. enlist ks f k))
unfolding told and_then
enlist_both none q f k = tt
enlist_both (some is) none f k = enlist_not is f _ (λ g. tt)
enlist_both (some is) (some js) f k = meets_equal _ _ (sym (enlist_append is js f k))
