-- Whether an entry was altered: a sum compared by a difference, and tests one after the other.
use Prim.Native.Nat.{ℕ, suc, ◌+◌, ◌-◌, ◌≤◌}
use mathlib.Core.Path.{◌≡◌, refl}
use mathlib.Core.Bool.{Bool, true, false, not, ◌&&◌, ◌||◌}
use native.Mathlib.Omega.{arith}
use native.Mathlib.Numerals.{add-one}
use lib.Dec.{eqb, ltb, leb}
use borrow.Author.Tests.{ltb-true, ltb-false, leb-false, eqb-true, eqb-false, lt-ltb, le-ltb, eq-eqb, ne_eqb}
use Rattle.basics.proofs.Tests.{or_neither}
use Rattle.basics.specs.Choose.{pick}
use Rattle.state.specs.declared.Level.{Level}
use Rattle.state.specs.Levels.{altered}
use Rattle.state.specs.declared.StoredEntry.{StoredEntry}

over_sum : (a b c : ℕ) → a ≤ c → ltb c (a + b) ≡ ltb (c - a) b
over_sum a b c h = at (ltb (c - a) b) refl
  where
    at : (t : Bool) → ltb (c - a) b ≡ t → ltb c (a + b) ≡ t
    at true e = let k = ltb-true (c - a) b e in lt-ltb c (a + b) (omega arith)
    at false e = let k = ltb-false (c - a) b e in le-ltb c (a + b) (omega arith)

is_sum : (a b c : ℕ) → a ≤ c → eqb (a + b) c ≡ eqb b (c - a)
is_sum a b c h = at (eqb b (c - a)) refl
  where
    at : (t : Bool) → eqb b (c - a) ≡ t → eqb (a + b) c ≡ t
    at true e = let k = eqb-true b (c - a) e in eq-eqb (a + b) c (omega arith)
    at false e = let k = eqb-false b (c - a) e in ne_eqb (a + b) c (λ z. k (omega arith))

-- tests joined, as they are asked one after the other
one_by_one : (a b c d f g : Bool) → (a || b) || pick c (not (d && f)) g ≡ pick a true (pick b true (pick c (pick d (not f) true) g))
unfolding pick
one_by_one true b c d f g = refl
one_by_one false true c d f g = refl
one_by_one false false true true f g = refl
one_by_one false false true false f g = refl
one_by_one false false false d f g = refl

-- whether an entry was altered, by the time that remains
pub altered_tests : (l : Level) (e : StoredEntry) (now n : ℕ) → now ≤ l.until →
    altered l e now n
    ≡ pick (eqb e.size 0) true
    (pick (ltb (l.until - now) e.duration) true
    (pick (eqb (l.next + 1) l.count) (pick (eqb (n + e.size) l.end) (not (eqb e.duration (l.until - now))) true) (leb l.end (n + e.size))))
unfolding altered
altered_tests l e now n h = rw (over_sum now e.duration l.until, is_sum now e.duration l.until, ← add-one l.next) (one_by_one _ _ _ _ _ _)

-- a number that is all that remains, or less, is no more than it
whole : (a b : ℕ) (t : Bool) → not (eqb a b && t) ≡ false → a ≤ b
whole a b t e = from (eqb a b) refl e
  where
    from : (u : Bool) → eqb a b ≡ u → not (u && t) ≡ false → a ≤ b
    from true g z = let k = eqb-true a b g in omega arith
    from false g z = let y : ◌≡◌ {A = ℕ} 0 1 = cc in absurd (omega arith)

ends : (t : Bool) (a b : ℕ) (u : Bool) → pick t (not (eqb a b && u)) (leb b a) ≡ false → a ≤ b
unfolding pick
ends true a b u e = whole a b u e
ends false a b u e = let k = leb-false b a e in omega arith

-- an entry that is not altered ends no later than its index, in bytes and in time
pub unaltered : (l : Level) (e : StoredEntry) (now n : ℕ) → altered l e now n ≡ false → (n + e.size ≤ l.end) × (now + e.duration ≤ l.until)
unfolding altered
unaltered l e now n h =
    let k = or_neither (eqb e.size 0 || ltb l.until (now + e.duration)) _ h in
    let d = ltb-false _ _ (or_neither (eqb e.size 0) (ltb l.until (now + e.duration)) k.0).1 in
    (ends (eqb (suc l.next) l.count) (n + e.size) l.end _ k.1, d)
