-- Laws of what is made of an accepted reading.
use Prim.Native.Nat.{ℕ, ◌+◌, ◌-◌, ◌≤◌, ◌<◌}
use mathlib.Core.Path.{◌≡◌, refl, ap, ◌∙◌}
use mathlib.Core.List.{List, [], ◌∷◌, ◌++◌}
use mathlib.Core.Option.{Option, some, none}
use mathlib.Core.Bool.{Bool, true, false, not, ◌&&◌}
use native.Mathlib.Omega.{arith}
use lib.ListN.{length, take, drop, length-append}
use lib.Seq.{take-append-le, drop-append-le}
use Rattle.basics.specs.Choose.{pick}
use Rattle.basics.specs.Bytes.{number_from, number}
use Rattle.basics.proofs.Options.{absurd_some}
use Rattle.machine.specs.Faults.{shows, unless}
use Rattle.machine.specs.Run.{Res, okay, fail, cut, either, after, field_d, plain}
use Rattle.machine.specs.declared.Refusal.{Refusal}
use Rattle.machine.proofs.Fields.{field_take, field_short, skip_whole}
use Rattle.machine.proofs.Readings.{Says, Anyhow}
use Rattle.state.specs.Flow.{Flow, Left, left}
use Rattle.descent.specs.Opening.{skip_to}
use Rattle.demands.specs.Told.{upon, clean}

module _ {R Q X : Type 0} where
  -- a reading after another
  pub upon_either : (r : Res R Flow Left) (m : R → Flow → ℕ → List ℕ → Res Q Flow Left) (worse : Refusal → Left → ℕ → Res Q Flow Left) (k : Q → Flow → ℕ → List ℕ → Option X) →
      ((x : Refusal) (l : Left) (n : ℕ) → upon (worse x l n) k ≡ none) → upon (either r m worse) k ≡ upon r (λ q f n bs. upon (m q f n bs) k)
  unfolding upon either
  upon_either (okay q f n bs) m worse k h = refl
  upon_either (fail x l n) m worse k h = h x l n
  upon_either (cut l n) m worse k h = refl

  pub upon_after : (r : Res R Flow Left) (m : R → Flow → ℕ → List ℕ → Res Q Flow Left) (k : Q → Flow → ℕ → List ℕ → Option X) → upon (after r m) k ≡ upon r (λ q f n bs. upon (m q f n bs) k)
  unfolding upon
  upon_after r m k = upon_either r m fail k (λ x l n. refl)

pub upon_cong : {R X : Type 0} (r : Res R Flow Left) (k k' : R → Flow → ℕ → List ℕ → Option X) →
    ((q : R) (f : Flow) (n : ℕ) (bs : List ℕ) → r ≡ okay q f n bs → k q f n bs ≡ k' q f n bs) → upon r k ≡ upon r k'
unfolding upon
upon_cong (okay q f n bs) k k' h = h q f n bs refl
upon_cong (fail x l n) k k' h = refl
upon_cong (cut l n) k k' h = refl

-- a reading that gives something was accepted
pub upon_okay : {R X : Type 0} (r : Res R Flow Left) (k : R → Flow → ℕ → List ℕ → Option X) → ((q : R) (f : Flow) (n : ℕ) (bs : List ℕ) → r ≡ okay q f n bs → k q f n bs ≡ none) → upon r k ≡ none
unfolding upon
upon_okay (okay q f n bs) k h = h q f n bs refl
upon_okay (fail x l n) k h = refl
upon_okay (cut l n) k h = refl

pub upon_some : {R X : Type 0} (r : Res R Flow Left) (k : R → Flow → ℕ → List ℕ → Option X) (x : X) → upon r k ≡ some x →
    (q : R) × (f : Flow) × (n : ℕ) × (bs : List ℕ) × (r ≡ okay q f n bs) × (k q f n bs ≡ some x)
unfolding upon
upon_some (okay q f n bs) k x e = (q, f, n, bs, refl, e)
upon_some (fail y l n) k x e = absurd_some e
upon_some (cut l n) k x e = absurd_some e

-- faults that a byte shows
pub upon_unless : {R X : Type 0} (xs : List Refusal) (l : Left) (n : ℕ) (r : Res R Flow Left) (k : R → Flow → ℕ → List ℕ → Option X) →
    upon (unless xs (λ x. fail x l n) r) k ≡ pick (clean xs) (upon r k) none
unfolding upon unless clean pick
upon_unless [] l n r k = refl
upon_unless (x ∷ xs) l n r k = refl

pub clean_append : (xs ys : List Refusal) → clean (xs ++ ys) ≡ clean xs && clean ys
unfolding clean
clean_append [] ys = refl
clean_append (x ∷ xs) ys = refl

pub clean_shows : (t : Bool) (n p : ℕ) → clean (shows t n p) ≡ not t
unfolding clean shows
clean_shows true n p = refl
clean_shows false n p = refl

pub clean_none : (xs : List Refusal) → clean xs ≡ true → xs ≡ []
unfolding clean
clean_none [] e = refl
clean_none (x ∷ xs) e = let z : ◌≡◌ {A = ℕ} 0 1 = cc in absurd (omega arith)

-- two tests, one after the other
pub pick_and : {A : Type 0} (s t : Bool) (o : Option A) → pick (s && t) o none ≡ pick s (pick t o none) none
unfolding pick
pick_and true t o = refl
pick_and false t o = refl

-- a number, and bytes that are skipped, where there are enough bytes and where there are not
module _ {R X : Type 0} (k : ℕ → Flow → ℕ → List ℕ → Res R Flow Left) (h : R → Flow → ℕ → List ℕ → Option X) where
  pub upon_field : (m : ℕ) (f : Flow) (n : ℕ) (bs : List ℕ) → m ≤ length bs → upon (field_d left plain k m 0 f n bs) h ≡ upon (k (number_from 0 (take m bs)) f (n + m) (drop m bs)) h
  upon_field m f n bs l = ap (λ r. upon r h) (field_take left k m 0 f n bs l)

  pub upon_few : (m : ℕ) (f : Flow) (n : ℕ) (bs : List ℕ) → length bs < m → upon (field_d left plain k m 0 f n bs) h ≡ none
  unfolding upon
  upon_few m f n bs l = ap (λ r. upon r h) (field_short left k m 0 f n bs l)

-- a number whose bytes are there
pub upon_here : {R X : Type 0} (k : ℕ → Flow → ℕ → List ℕ → Res R Flow Left) (h : R → Flow → ℕ → List ℕ → Option X) (m : ℕ) (f : Flow) (n : ℕ) (zs ys : List ℕ) → m ≤ length zs →
    upon (field_d left plain k m 0 f n (zs ++ ys)) h ≡ upon (k (number (take m zs)) f (n + m) (drop m zs ++ ys)) h
upon_here k h m f n zs ys l =
    let t = take-append-le m zs ys l in
    let d = drop-append-le m zs ys l in
    upon_field k h m f n (zs ++ ys) (omega (arith, length-append zs ys)) ∙ rw (t, d)

-- Bytes that are skipped.
pub skip_tree : {R X : Type 0} (r : R) (k : R → Flow → ℕ → List ℕ → Option X) (stop : ℕ) (f : Flow) (n : ℕ) (xs ys : List ℕ) → stop ≡ n + length xs →
    upon (skip_to r stop f n (xs ++ ys)) k ≡ k r f stop ys
unfolding upon either
skip_tree r k stop f n xs ys e =
    let q : n + (stop - n) ≡ stop = omega arith in
    rw (skip_whole left (stop - n) f n xs ys (omega arith), q)

-- Nothing is known of a result.
abbrev pub Any : {R : Type 0} → R → Flow → ℕ → List ℕ → Type 0
Any r f n bs = Unit {0}

pub says_any : {R : Type 0} (r : Res R Flow Left) → Says Any Anyhow r
says_any (okay q f n bs) = tt
says_any (fail x l n) = tt
says_any (cut l n) = tt
