-- What the three loops share: the faults of a header that was not read, and what an answer of a box makes of the list around it.
use Prim.Native.Nat.{ℕ, ◌+◌, ◌≤◌, ◌<◌}
use mathlib.Core.Path.{◌≡◌, refl, ap, sym, subst, ◌∙◌}
use mathlib.Core.List.{List, [], ◌∷◌}
use mathlib.Core.Bool.{Bool, true, false, not}
use native.Mathlib.Omega.{arith}
use lib.Dec.{eqb, ltb, leb}
use lib.ListN.{length, drop}
use borrow.Author.Tests.{ltb-false, eq-eqb, ne_eqb, eqb-true, eqb-false}
use Rattle.fields.specs.declared.Halt.{Halt}
use Rattle.std.specs.Prelude.{Result, Ok, Err}
use Rattle.basics.proofs.Picks.{pick_holds}
use Rattle.machine.specs.Faults.{refusal}
use Rattle.machine.specs.Run.{Res, fail, either}
use Rattle.machine.specs.declared.Header.{Header}
use Rattle.machine.specs.declared.Refusal.{Refusal}
use Rattle.machine.proofs.Kept.{Each}
use Rattle.machine.proofs.Lowest.{AtMostEach}
use Rattle.state.specs.Flow.{Flow, Left, left}
use Rattle.segment.specs.Constants.{limit}
use Rattle.fields.specs.Answers.{number_at, checked_at, large_at, head_at, HeadRead}
use Rattle.fields.specs.declared.Stop.{Stop}
use Rattle.fields.proofs.Answers.{head_in}
use Rattle.flaws.proofs.Flaws.{Beyond}
use Rattle.walk_leaf.specs.Views.{walked_d}
use Rattle.fields.specs.Onward.{halted}
use Rattle.walk_leaf.specs.Walks.{Headed, StopIn, HaltIn, WalkFixed}
use Rattle.fields.specs.declared.Halt.TheVariants as halt

-- a header's fault: its number is 4 or 5, and it stands in the container
abbrev Faulty : ℕ → HeadRead → Type 0
Faulty end (Ok h) = Unit {0}
Faulty end (Err (halt.Bad x)) = (x.leaves ≡ 0) × (x.number ≤ 5) × (x.place ≤ end) × (x.count ≤ end)
Faulty end (Err halt.Ended) = Unit {0}

module _ (s : List ℕ) (at end : ℕ) where
  checked_faulty : (kind size long : ℕ) → at + long ≤ end → Faulty end (checked_at at end kind size long)
  unfolding checked_at
  checked_faulty kind size long in_end =
      pick_holds (Faulty end) (ltb size long) _ _ (λ t. (refl, omega arith, omega arith, in_end))
      (λ t. pick_holds (Faulty end) (ltb end (at + size)) _ _ (λ u. (refl, omega arith, omega arith, in_end)) (λ u. tt))

  large_faulty : (kind : ℕ) → at + 8 ≤ end → Faulty end (large_at s at end kind)
  unfolding large_at
  large_faulty kind in_end =
      pick_holds (Faulty end) (ltb end (at + 16)) _ _ (λ t. (refl, omega arith, omega arith, in_end))
      (λ t. pick_holds (Faulty end) (ltb (length s) (at + 16)) _ _ (λ u. tt) (λ u. checked_faulty kind _ 16 (ltb-false end (at + 16) t)))

  head_faulty : at < end → Faulty end (head_at s at end)
  unfolding head_at
  head_faulty before =
      pick_holds (Faulty end) (leb (length s) at) _ _ (λ t. tt)
      (λ t. pick_holds (Faulty end) (ltb end (at + 8)) _ _ (λ u. (refl, omega arith, omega arith, omega arith))
      (λ u. pick_holds (Faulty end) (ltb (length s) (at + 8)) _ _ (λ v. tt)
      (λ v. pick_holds (Faulty end) (eqb (number_at 4 s at) 1) _ _ (λ w. large_faulty _ (ltb-false end (at + 8) u)) (λ w. checked_faulty _ _ 8 (ltb-false end (at + 8) u)))))

  module _ (before : at < end) {x : Stop} (e : head_at s at end ≡ Err (halt.Bad x)) where
    faulty : Faulty end (Err (halt.Bad x))
    faulty = subst (Faulty end) e (head_faulty before)

    pub head_low : x.number ≤ 5
    head_low = faulty.1

    pub head_stop_in : StopIn end x
    head_stop_in = let (n, l, p, c) = faulty in record { none = n; low = omega arith; place = p; count = c }

  -- why a header was not read
  pub head_fixed : at < end → (x : Halt) → head_at s at end ≡ Err x → HaltIn end x
  head_fixed before (halt.Bad x) e = head_stop_in before e
  head_fixed before halt.Ended e = tt

  -- a header that was read
  pub head_headed : {h : Header} → end ≤ limit → head_at s at end ≡ Ok h → Headed s at h
  head_headed {h} far e =
      let i = head_in s at end h e in
      let within = i.within in
      record { pos = i.pos; short = i.short; long = i.long; holds = i.holds; far = omega arith; here = i.here }

-- what is inside a box is inside its container
pub stays_fixed : (e end : ℕ) → e ≤ end → (x : Halt) → HaltIn e x → HaltIn end x
stays_fixed e end le (halt.Bad x) g =
    let p = g.place in
    let c = g.count in
    record { none = g.none; low = g.low; place = omega arith; count = omega arith }
stays_fixed e end le halt.Ended g = tt

-- the answer of a box that is not over is that of the list around it, and that of one that is over goes on
module _ {A Q : Type 0} (base : ℕ) (s : List ℕ) (e end : ℕ) (f : Flow) (K : A → Flow → ℕ → List ℕ → Res Q Flow Left) (worse : Refusal → Left → ℕ → Res Q Flow Left) where
  pub walk_stays : {r : Result A Halt} (x : Halt) → r ≡ Err x →
      ((y : Stop) → x ≡ halt.Bad y → worse (refusal y.number (base + y.place)) (left f) (base + y.count) ≡ fail (refusal y.number (base + y.place)) (left f) (base + y.count)) →
      ◌≡◌ {A = Res Q Flow Left} (walked_d base s end f (Err x)) (either (walked_d base s e f r) K worse)
  unfolding walked_d either halted
  walk_stays (halt.Bad x) q low = sym (ap (λ (w : Result A Halt). either (walked_d base s e f w) K worse) q ∙ low x refl)
  walk_stays halt.Ended q low = sym (ap (λ (w : Result A Halt). either (walked_d base s e f w) K worse) q)

  pub walk_over : {r : Result A Halt} {k : A} → r ≡ Ok k → either (walked_d base s e f r) K worse ≡ K k f (base + e) (drop e s)
  unfolding walked_d either
  walk_over q = ap (λ (w : Result A Halt). either (walked_d base s e f w) K worse) q

-- what holds of an answer, where the box is over, and where it is not
pub over_fixed : {R : Type 0} (s : List ℕ) (e : ℕ) {r : Result R Halt} {k : R} → r ≡ Ok k → WalkFixed s e r → e ≤ length s
over_fixed {R} s e q g = subst (λ (w : Result R Halt). WalkFixed s e w) q g

pub halt_fixed : {R : Type 0} (s : List ℕ) (e : ℕ) {r : Result R Halt} {x : Halt} → r ≡ Err x → WalkFixed s e r → HaltIn e x
halt_fixed {R} s e q g = subst (λ (w : Result R Halt). WalkFixed s e w) q g

-- what is beyond a header's size has numbers from 5 on
pub beyond_high : (p : ℕ) (xs : List Refusal) → Each (Beyond p) xs → AtMostEach 5 xs
unfolding Each
beyond_high p [] g = tt
beyond_high p (x ∷ xs) g = (omega (arith, g.0.1), beyond_high p xs g.1)

-- a test of two places in the segment is that of the two positions
pub same_placed : (base a b : ℕ) → eqb (base + a) (base + b) ≡ eqb a b
same_placed base a b = by (eqb a b) refl
  where
    by : (t : Bool) → eqb a b ≡ t → eqb (base + a) (base + b) ≡ t
    by true e = eq-eqb (base + a) (base + b) (ap (λ (n : ℕ). base + n) (eqb-true a b e))
    by false e = ne_eqb (base + a) (base + b) (λ q. eqb-false a b e (omega arith))

-- what a test of `!` says
pub false_of : {t : Bool} → not t ≡ true → t ≡ false
false_of {t} e = by t e
  where
    by : (b : Bool) → not b ≡ true → b ≡ false
    by true q = sym q
    by false q = refl

pub true_of : {t : Bool} → not t ≡ false → t ≡ true
true_of {t} e = by t e
  where
    by : (b : Bool) → not b ≡ false → b ≡ true
    by true q = refl
    by false q = sym q
