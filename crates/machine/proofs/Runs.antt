-- Laws of runs: what follows a reading, what is left and how far it came, a machine inside another.
use Prim.Native.Nat.{ℕ, suc, ◌+◌, ◌≤◌, ◌<◌}
use mathlib.Core.Path.{◌≡◌, refl, ap, ◌∙◌}
use mathlib.Core.List.{List, [], ◌∷◌, ◌++◌}
use native.Mathlib.Omega.{arith}
use lib.ListN.{length}
use Rattle.machine.specs.Run.{Sub, go, done, bad, Res, okay, fail, cut, either, after, cont_by, run, cont, lift}
use Rattle.machine.specs.declared.Refusal.{Refusal}

-- what follows a result may be replaced by what is alike for that very result; so may what follows a refusal
pub either_cong : {R Q F L : Type 0} (r : Res R F L) (k k' : R → F → ℕ → List ℕ → Res Q F L) (worse worse' : Refusal → L → ℕ → Res Q F L) →
    ((q : R) (f : F) (m : ℕ) (cs : List ℕ) → r ≡ okay q f m cs → k q f m cs ≡ k' q f m cs) →
    ((x : Refusal) (l : L) (m : ℕ) → r ≡ fail x l m → worse x l m ≡ worse' x l m) →
    either r k worse ≡ either r k' worse'
unfolding either
either_cong (okay q f m cs) k k' worse worse' e e' = e q f m cs refl
either_cong (fail x l m) k k' worse worse' e e' = e' x l m refl
either_cong (cut l m) k k' worse worse' e e' = refl

-- the same where a refusal stays
pub after_cong : {R Q F L : Type 0} (r : Res R F L) (k k' : R → F → ℕ → List ℕ → Res Q F L) →
    ((q : R) (f : F) (m : ℕ) (cs : List ℕ) → r ≡ okay q f m cs → k q f m cs ≡ k' q f m cs) → after r k ≡ after r k'
after_cong r k k' e = either_cong r k k' fail fail e (λ x l m h. refl)

-- what follows what follows
pub either_assoc : {R Q P F L : Type 0} (r : Res R F L) (k : R → F → ℕ → List ℕ → Res Q F L) (worse : Refusal → L → ℕ → Res Q F L)
    (h : Q → F → ℕ → List ℕ → Res P F L) (worse' : Refusal → L → ℕ → Res P F L) →
    either (either r k worse) h worse' ≡ either r (λ q f m cs. either (k q f m cs) h worse') (λ x l m. either (worse x l m) h worse')
unfolding either
either_assoc (okay q f m cs) k worse h worse' = refl
either_assoc (fail x l m) k worse h worse' = refl
either_assoc (cut l m) k worse h worse' = refl

-- the same where refusals stay
pub after_assoc : {R Q P F L : Type 0} (r : Res R F L) (k : R → F → ℕ → List ℕ → Res Q F L) (h : Q → F → ℕ → List ℕ → Res P F L) →
    after (after r k) h ≡ after r (λ q f m cs. after (k q f m cs) h)
unfolding either
after_assoc (okay q f m cs) k h = refl
after_assoc (fail x l m) k h = refl
after_assoc (cut l m) k h = refl

-- what becomes of a refusal becomes of the one that follows a result too
pub either_after : {R Q P F L : Type 0} (r : Res R F L) (k : R → F → ℕ → List ℕ → Res Q F L)
    (h : Q → F → ℕ → List ℕ → Res P F L) (worse : Refusal → L → ℕ → Res P F L) →
    either (after r k) h worse ≡ either r (λ q f m cs. either (k q f m cs) h worse) worse
unfolding either
either_after (okay q f m cs) k h worse = refl
either_after (fail x l m) k h worse = refl
either_after (cut l m) k h worse = refl

-- nothing follows
pub after_okay : {R F L : Type 0} (r : Res R F L) → after r okay ≡ r
unfolding either
after_okay (okay q f m cs) = refl
after_okay (fail x l m) = refl
after_okay (cut l m) = refl

module _ {S R F L : Type 0} (left : F → L) (step : S → F → ℕ → ℕ → Sub S R F L) where
  read_cont : (n : ℕ) (bs : List ℕ) →
      ((s : S) (f : F) (q : R) (g : F) (m : ℕ) (cs : List ℕ) → run left step s f n bs ≡ okay q g m cs → (m + length cs ≡ n + length bs) × (length cs ≤ length bs)) →
      (r : Sub S R F L) (q : R) (g : F) (m : ℕ) (cs : List ℕ) → cont left step n bs r ≡ okay q g m cs → (m + length cs ≡ n + length bs) × (length cs ≤ length bs)
  unfolding cont_by
  read_cont n bs h (go s f) q g m cs e = h s f q g m cs e
  read_cont n bs h (done p f) q g m cs e = let a : n ≡ m = cc in let b : bs ≡ cs = cc in rw (a, b) (omega arith)
  read_cont n bs h (bad x l) q g m cs e = let z : ◌≡◌ {A = ℕ} 0 1 = cc in absurd (omega arith)

  read_run : (bs : List ℕ) (s : S) (f : F) (n : ℕ) (q : R) (g : F) (m : ℕ) (cs : List ℕ) → run left step s f n bs ≡ okay q g m cs → (m + length cs ≡ n + length bs) × (length cs ≤ length bs)
  unfolding run
  read_run [] s f n q g m cs e = let z : ◌≡◌ {A = ℕ} 0 1 = cc in absurd (omega arith)
  read_run (b ∷ bs) s f n q g m cs e =
      let h : (m + length cs ≡ suc n + length bs) × (length cs ≤ length bs) = read_cont (suc n) bs (λ s' f' q' g' m' cs' e'. read_run bs s' f' (suc n) q' g' m' cs' e') (step s f n b) q g m cs e in
      omega arith

  -- what was read and what is left are all
  pub consumed : (n : ℕ) (bs : List ℕ) (r : Sub S R F L) (q : R) (g : F) (m : ℕ) (cs : List ℕ) → cont left step n bs r ≡ okay q g m cs → m + length cs ≡ n + length bs
  consumed n bs r q g m cs e = (read_cont n bs (λ s f q' g' m' cs' e'. read_run bs s f n q' g' m' cs' e') r q g m cs e).0

  -- what is left is no longer than what there was
  pub shrink : (n : ℕ) (bs : List ℕ) (r : Sub S R F L) (q : R) (g : F) (m : ℕ) (cs : List ℕ) → cont left step n bs r ≡ okay q g m cs → length cs ≤ length bs
  shrink n bs r q g m cs e = (read_cont n bs (λ s f q' g' m' cs' e'. read_run bs s f n q' g' m' cs' e') r q g m cs e).1

  -- of a run too, what was read and what is left are all
  pub consumed_run : (s : S) (f : F) (n : ℕ) (bs : List ℕ) (q : R) (g : F) (m : ℕ) (cs : List ℕ) → run left step s f n bs ≡ okay q g m cs → m + length cs ≡ n + length bs
  consumed_run s f n bs q g m cs e = (read_run bs s f n q g m cs e).0

  -- a run takes a byte at the least
  pub shrink_run : (s : S) (f : F) (n : ℕ) (bs : List ℕ) (q : R) (g : F) (m : ℕ) (cs : List ℕ) → run left step s f n bs ≡ okay q g m cs → length cs < length bs
  unfolding run
  shrink_run s f n [] q g m cs e = let z : ◌≡◌ {A = ℕ} 0 1 = cc in absurd (omega arith)
  shrink_run s f n (b ∷ bs) q g m cs e = let h : length cs ≤ length bs = shrink (suc n) bs (step s f n b) q g m cs e in omega arith

  -- what follows a reading may be replaced by what is alike where all bytes are either read or left
  pub either_bound : {Q : Type 0} (n : ℕ) (bs : List ℕ) (r : Sub S R F L) (k k' : R → F → ℕ → List ℕ → Res Q F L) (worse worse' : Refusal → L → ℕ → Res Q F L) →
      ((q : R) (g : F) (m : ℕ) (cs : List ℕ) → m + length cs ≡ n + length bs → length cs ≤ length bs → k q g m cs ≡ k' q g m cs) →
      ((x : Refusal) (l : L) (m : ℕ) → worse x l m ≡ worse' x l m) → either (cont left step n bs r) k worse ≡ either (cont left step n bs r) k' worse'
  either_bound n bs r k k' worse worse' e e' =
      either_cong (cont left step n bs r) k k' worse worse' (λ q g m cs h. e q g m cs (consumed n bs r q g m cs h) (shrink n bs r q g m cs h)) (λ x l m h. e' x l m)

  -- the same where a refusal stays
  pub after_bound : {Q : Type 0} (n : ℕ) (bs : List ℕ) (r : Sub S R F L) (k k' : R → F → ℕ → List ℕ → Res Q F L) →
      ((q : R) (g : F) (m : ℕ) (cs : List ℕ) → m + length cs ≡ n + length bs → length cs ≤ length bs → k q g m cs ≡ k' q g m cs) →
      after (cont left step n bs r) k ≡ after (cont left step n bs r) k'
  after_bound n bs r k k' e = either_bound n bs r k k' fail fail e (λ x l m. refl)

-- A machine inside another runs as by itself, with what follows when it is done or refuses. Both may hang on the count of bytes up
-- to the one at hand.
module _ {S T R Q F L : Type 0} (left : F → L) (stepS : S → F → ℕ → ℕ → Sub S R F L) (stepT : T → F → ℕ → ℕ → Sub T Q F L) (wrap : S → T)
    (out : ℕ → R → F → Sub T Q F L) (worse : ℕ → Refusal → L → Sub T Q F L) (worse_d : Refusal → L → ℕ → Res Q F L)
    (same : (bs : List ℕ) (n : ℕ) (x : Refusal) (l : L) → cont left stepT n bs (worse n x l) ≡ worse_d x l n)
    (steps : (s : S) (f : F) (n b : ℕ) → stepT (wrap s) f n b ≡ lift wrap (out (suc n)) (worse (suc n)) (stepS s f n b)) where
  inside_cont : (n : ℕ) (bs : List ℕ) →
      ((s : S) (f : F) → run left stepT (wrap s) f n bs ≡ either (run left stepS s f n bs) (λ q g m cs. cont left stepT m cs (out m q g)) worse_d) →
      (r : Sub S R F L) → cont left stepT n bs (lift wrap (out n) (worse n) r) ≡ either (cont left stepS n bs r) (λ q g m cs. cont left stepT m cs (out m q g)) worse_d
  unfolding cont_by either lift
  inside_cont n bs h (go s f) = h s f
  inside_cont n bs h (done q f) = refl
  inside_cont n bs h (bad x l) = same bs n x l

  -- from a state of the machine inside
  pub inside_run_worse : (bs : List ℕ) (s : S) (f : F) (n : ℕ) → run left stepT (wrap s) f n bs ≡ either (run left stepS s f n bs) (λ q g m cs. cont left stepT m cs (out m q g)) worse_d
  unfolding run either
  inside_run_worse [] s f n = refl
  inside_run_worse (b ∷ bs) s f n = ap (cont left stepT (suc n) bs) (steps s f n b) ∙ inside_cont (suc n) bs (λ s' f'. inside_run_worse bs s' f' (suc n)) (stepS s f n b)

  -- from an answer of the machine inside
  pub inside_worse : (n : ℕ) (bs : List ℕ) (r : Sub S R F L) →
      cont left stepT n bs (lift wrap (out n) (worse n) r) ≡ either (cont left stepS n bs r) (λ q g m cs. cont left stepT m cs (out m q g)) worse_d
  inside_worse n bs r = inside_cont n bs (λ s f. inside_run_worse bs s f n) r

-- the same where its refusal stays
module _ {S T R Q F L : Type 0} (left : F → L) (stepS : S → F → ℕ → ℕ → Sub S R F L) (stepT : T → F → ℕ → ℕ → Sub T Q F L) (wrap : S → T)
    (out : ℕ → R → F → Sub T Q F L)
    (steps : (s : S) (f : F) (n b : ℕ) → stepT (wrap s) f n b ≡ lift wrap (out (suc n)) bad (stepS s f n b)) where
  pub inside : (n : ℕ) (bs : List ℕ) (r : Sub S R F L) → cont left stepT n bs (lift wrap (out n) bad r) ≡ after (cont left stepS n bs r) (λ q g m cs. cont left stepT m cs (out m q g))
  unfolding cont_by
  inside n bs r = inside_worse left stepS stepT wrap out (λ m. bad) fail (λ cs m x l. refl) steps n bs r

  pub inside_run : (s : S) (f : F) (n : ℕ) (bs : List ℕ) → run left stepT (wrap s) f n bs ≡ after (run left stepS s f n bs) (λ q g m cs. cont left stepT m cs (out m q g))
  unfolding cont_by
  inside_run s f n bs = inside_run_worse left stepS stepT wrap out (λ m. bad) fail (λ cs m x l. refl) steps bs s f n

-- A result stays when more bytes follow: they are left with those that were left.
module _ {S R F L : Type 0} (left : F → L) (step : S → F → ℕ → ℕ → Sub S R F L) (zs : List ℕ) where
  more_cont : (bs : List ℕ) → ((s : S) (f : F) (n : ℕ) (q : R) (g : F) (m : ℕ) (cs : List ℕ) → run left step s f n bs ≡ okay q g m cs → run left step s f n (bs ++ zs) ≡ okay q g m (cs ++ zs)) →
      (n : ℕ) (r : Sub S R F L) (q : R) (g : F) (m : ℕ) (cs : List ℕ) → cont left step n bs r ≡ okay q g m cs → cont left step n (bs ++ zs) r ≡ okay q g m (cs ++ zs)
  unfolding cont_by
  more_cont bs h n (go s f) q g m cs e = h s f n q g m cs e
  more_cont bs h n (done r f) q g m cs e = let a : r ≡ q = cc in let b : f ≡ g = cc in let c : n ≡ m = cc in let d : bs ≡ cs = cc in rw (a, b, c, d)
  more_cont bs h n (bad x l) q g m cs e = let z : ◌≡◌ {A = ℕ} 0 1 = cc in absurd (omega arith)

  more_run : (bs : List ℕ) (s : S) (f : F) (n : ℕ) (q : R) (g : F) (m : ℕ) (cs : List ℕ) → run left step s f n bs ≡ okay q g m cs → run left step s f n (bs ++ zs) ≡ okay q g m (cs ++ zs)
  unfolding run
  more_run [] s f n q g m cs e = let z : ◌≡◌ {A = ℕ} 0 1 = cc in absurd (omega arith)
  more_run (b ∷ bs) s f n q g m cs e = more_cont bs (λ s' f' n' q' g' m' cs' e'. more_run bs s' f' n' q' g' m' cs' e') (suc n) (step s f n b) q g m cs e

  pub okay_more : (n : ℕ) (bs : List ℕ) (r : Sub S R F L) (q : R) (g : F) (m : ℕ) (cs : List ℕ) → cont left step n bs r ≡ okay q g m cs → cont left step n (bs ++ zs) r ≡ okay q g m (cs ++ zs)
  okay_more n bs r q g m cs e = more_cont bs (λ s f n' q' g' m' cs' e'. more_run bs s f n' q' g' m' cs' e') n r q g m cs e
