-- The law of leaps: a machine inside the segment's, over bytes up to its result, up to its refusal, or as far as it goes. What it comes to by itself
-- is what the segment's machine comes to over the same bytes.
use Prim.Native.Nat.{ℕ, suc, ◌+◌, ◌-◌, ◌≤◌, ◌<◌}
use mathlib.Core.Path.{◌≡◌, refl, ap, sym, ◌∙◌}
use mathlib.Core.List.{List, [], ◌∷◌}
use native.Mathlib.Omega.{arith}
use lib.ListN.{length, take, drop}
use Rattle.segment.specs.Constants.{limit}
use Rattle.machine.specs.Faults.{unless}
use Rattle.machine.specs.Run.{Sub, go, done, bad, Res, okay, fail, cut, cont_by, cont, lift}
use Rattle.machine.specs.Run.{run as runs}
use Rattle.machine.proofs.Runs.{shrink, consumed}
use Rattle.machine.specs.declared.Refusal.{Refusal}
use Rattle.state.specs.declared.Stage.{Stage}
use Rattle.state.specs.declared.Top.{Top}
use Rattle.state.specs.Flow.{Flow, Left, left}
use Rattle.state.specs.Stages.{step_stage}
use Rattle.state.specs.Step.{World, reading, settle, step, step_all}
use Rattle.state.proofs.Jump.{past_none}
use Rattle.law_leap.specs.Over.{on_by, over}

-- below the limit a byte is the stage's
pub step_below : (s : Stage) (f : Flow) (n b : ℕ) → n < limit → step (reading n s f) b ≡ settle (suc n) (step_stage s f n b)
unfolding step unless
step_below s f n b low = rw (past_none n low)

-- the first of the bytes between two counts, and the rest
pub first_taken : (n m b : ℕ) (bs : List ℕ) → suc n ≤ m → take (m - n) (b ∷ bs) ≡ b ∷ take (m - suc n) bs
unfolding take
first_taken n m b bs h = let e : m - n ≡ suc (m - suc n) = omega arith in rw e

none_taken : (n : ℕ) (bs : List ℕ) → take (n - n) bs ≡ []
unfolding take
none_taken n bs = let e : n - n ≡ 0 = omega arith in rw e

-- a refusal comes with a byte that was read
module _ {S R : Type 0} (stepS : S → Flow → ℕ → ℕ → Sub S R Flow Left) where
  fails_from : (n : ℕ) (bs : List ℕ) → ((s : S) (f : Flow) (x : Refusal) (l : Left) (m : ℕ) → runs left stepS s f n bs ≡ fail x l m → n < m) →
      (q : Sub S R Flow Left) (x : Refusal) (l : Left) (m : ℕ) → cont left stepS n bs q ≡ fail x l m → n ≤ m
  unfolding cont_by
  fails_from n bs h (go s f) x l m e = let z : n < m = h s f x l m e in omega (arith, z)
  fails_from n bs h (done p f) x l m e = let z : ◌≡◌ {A = ℕ} 0 1 = cc in absurd (omega arith)
  fails_from n bs h (bad y k) x l m e = let c : n ≡ m = cc in omega (arith, c)

  pub fails_later : (bs : List ℕ) (s : S) (f : Flow) (n : ℕ) (x : Refusal) (l : Left) (m : ℕ) → runs left stepS s f n bs ≡ fail x l m → n < m
  unfolding runs
  fails_later [] s f n x l m e = let z : ◌≡◌ {A = ℕ} 0 1 = cc in absurd (omega arith)
  fails_later (b ∷ bs) s f n x l m e =
      let z : suc n ≤ m = fails_from (suc n) bs (λ s' f' x' l' m' e'. fails_later bs s' f' (suc n) x' l' m' e') (stepS s f n b) x l m e in omega (arith, z)

-- what is left after a result are the bytes from its count on
module _ {S R : Type 0} (stepS : S → Flow → ℕ → ℕ → Sub S R Flow Left) where
  left_from : (n : ℕ) (bs : List ℕ) →
      ((s : S) (f : Flow) (r : R) (g : Flow) (m : ℕ) (cs : List ℕ) → runs left stepS s f n bs ≡ okay r g m cs → cs ≡ drop (m - n) bs) →
      (q : Sub S R Flow Left) (r : R) (g : Flow) (m : ℕ) (cs : List ℕ) → cont left stepS n bs q ≡ okay r g m cs → cs ≡ drop (m - n) bs
  unfolding cont_by drop
  left_from n bs h (go s f) r g m cs e = h s f r g m cs e
  left_from n bs h (done p f) r g m cs e = let c : n ≡ m = cc in let d : bs ≡ cs = cc in let z : m - m ≡ 0 = omega arith in rw (c, z) (sym d)
  left_from n bs h (bad x l) r g m cs e = let z : ◌≡◌ {A = ℕ} 0 1 = cc in absurd (omega arith)

  pub left_over : (bs : List ℕ) (s : S) (f : Flow) (n : ℕ) (r : R) (g : Flow) (m : ℕ) (cs : List ℕ) → runs left stepS s f n bs ≡ okay r g m cs → cs ≡ drop (m - n) bs
  unfolding runs drop
  left_over [] s f n r g m cs e = let z : ◌≡◌ {A = ℕ} 0 1 = cc in absurd (omega arith)
  left_over (b ∷ bs) s f n r g m cs e =
      let x = consumed left stepS (suc n) bs (stepS s f n b) r g m cs e in
      let y = shrink left stepS (suc n) bs (stepS s f n b) r g m cs e in
      let z : m - n ≡ suc (m - suc n) = omega (arith, x, y) in
      rw z (left_from (suc n) bs (λ s' f' r' g' m' cs' e'. left_over bs s' f' (suc n) r' g' m' cs' e') (stepS s f n b) r g m cs e)

module _ {S R : Type 0} (stepS : S → Flow → ℕ → ℕ → Sub S R Flow Left) (wrap : S → Stage) (out : ℕ → R → Flow → Sub Stage Top Flow Left)
    (worse : ℕ → Refusal → Left → Sub Stage Top Flow Left)
    (steps : (s : S) (f : Flow) (n b : ℕ) → step_stage (wrap s) f n b ≡ lift wrap (out (suc n)) (worse (suc n)) (stepS s f n b)) where
  -- one byte, and then others
  first : (s : S) (f : Flow) (n b : ℕ) (bs : List ℕ) → n < limit →
      step_all (reading n (wrap s) f) (b ∷ bs) ≡ step_all (settle (suc n) (lift wrap (out (suc n)) (worse (suc n)) (stepS s f n b))) bs
  unfolding step_all
  first s f n b bs low = rw (step_below (wrap s) f n b low, steps s f n b)

  -- Up to a result.
  result_from : (n : ℕ) (bs : List ℕ) →
      ((s : S) (f : Flow) (r : R) (g : Flow) (m : ℕ) (cs : List ℕ) → runs left stepS s f n bs ≡ okay r g m cs → m ≤ limit →
      step_all (reading n (wrap s) f) (take (m - n) bs) ≡ settle m (out m r g)) →
      (q : Sub S R Flow Left) (r : R) (g : Flow) (m : ℕ) (cs : List ℕ) → cont left stepS n bs q ≡ okay r g m cs → m ≤ limit →
      step_all (settle n (lift wrap (out n) (worse n) q)) (take (m - n) bs) ≡ settle m (out m r g)
  unfolding cont_by lift settle step_all
  result_from n bs h (go s f) r g m cs e low = h s f r g m cs e low
  result_from n bs h (done p f) r g m cs e low =
      let a : p ≡ r = cc in let b : f ≡ g = cc in let c : n ≡ m = cc in rw (a, b, c, none_taken m bs)
  result_from n bs h (bad x l) r g m cs e low = let z : ◌≡◌ {A = ℕ} 0 1 = cc in absurd (omega arith)

  pub to_result : (bs : List ℕ) (s : S) (f : Flow) (n : ℕ) (r : R) (g : Flow) (m : ℕ) (cs : List ℕ) → runs left stepS s f n bs ≡ okay r g m cs → m ≤ limit →
      step_all (reading n (wrap s) f) (take (m - n) bs) ≡ settle m (out m r g)
  unfolding runs
  to_result [] s f n r g m cs e low = let z : ◌≡◌ {A = ℕ} 0 1 = cc in absurd (omega arith)
  to_result (b ∷ bs) s f n r g m cs e low =
      let x = consumed left stepS (suc n) bs (stepS s f n b) r g m cs e in
      let y = shrink left stepS (suc n) bs (stepS s f n b) r g m cs e in
      let later : suc n ≤ m = omega (arith, x, y) in
      rw (first_taken n m b bs later) (first s f n b (take (m - suc n) bs) (omega (arith, later, low))
      ∙ result_from (suc n) bs (λ s' f' r' g' m' cs' e' low'. to_result bs s' f' (suc n) r' g' m' cs' e' low') (stepS s f n b) r g m cs e low)

  -- As far as it goes.
  goes_from : (n : ℕ) (bs : List ℕ) →
      ((s : S) (f : Flow) (t : S) (g : Flow) → over stepS s f n bs ≡ go t g → n + length bs ≤ limit →
      step_all (reading n (wrap s) f) bs ≡ reading (n + length bs) (wrap t) g) →
      (q : Sub S R Flow Left) (t : S) (g : Flow) → on_by (λ s f. over stepS s f n bs) q ≡ go t g → n + length bs ≤ limit →
      step_all (settle n (lift wrap (out n) (worse n) q)) bs ≡ reading (n + length bs) (wrap t) g
  unfolding on_by lift settle
  goes_from n bs h (go s f) t g e low = h s f t g e low
  goes_from n bs h (done p f) t g e low = let z : ◌≡◌ {A = ℕ} 0 1 = cc in absurd (omega arith)
  goes_from n bs h (bad x l) t g e low = let z : ◌≡◌ {A = ℕ} 0 1 = cc in absurd (omega arith)

  pub goes : (bs : List ℕ) (s : S) (f : Flow) (n : ℕ) (t : S) (g : Flow) → over stepS s f n bs ≡ go t g → n + length bs ≤ limit →
      step_all (reading n (wrap s) f) bs ≡ reading (n + length bs) (wrap t) g
  unfolding over step_all
  goes [] s f n t g e low = let a : s ≡ t = cc in let b : f ≡ g = cc in let c : n + 0 ≡ n = omega arith in rw (a, b, c)
  goes (b ∷ bs) s f n t g e low =
      let c : n + suc (length bs) ≡ suc n + length bs = omega arith in
      rw c (first s f n b bs (omega (arith, low))
      ∙ goes_from (suc n) bs (λ s' f' t' g' e' low'. goes bs s' f' (suc n) t' g' e' low') (stepS s f n b) t g e (omega (arith, low)))

  -- Up to a refusal.
  refusal_from : (n : ℕ) (bs : List ℕ) →
      ((s : S) (f : Flow) (x : Refusal) (l : Left) (m : ℕ) → runs left stepS s f n bs ≡ fail x l m → m ≤ limit →
      step_all (reading n (wrap s) f) (take (m - n) bs) ≡ settle m (worse m x l)) →
      (q : Sub S R Flow Left) (x : Refusal) (l : Left) (m : ℕ) → cont left stepS n bs q ≡ fail x l m → m ≤ limit →
      step_all (settle n (lift wrap (out n) (worse n) q)) (take (m - n) bs) ≡ settle m (worse m x l)
  unfolding cont_by lift settle step_all
  refusal_from n bs h (go s f) x l m e low = h s f x l m e low
  refusal_from n bs h (done p f) x l m e low = let z : ◌≡◌ {A = ℕ} 0 1 = cc in absurd (omega arith)
  refusal_from n bs h (bad y k) x l m e low = let a : y ≡ x = cc in let b : k ≡ l = cc in let c : n ≡ m = cc in rw (a, b, c, none_taken m bs)

  pub to_refusal : (bs : List ℕ) (s : S) (f : Flow) (n : ℕ) (x : Refusal) (l : Left) (m : ℕ) → runs left stepS s f n bs ≡ fail x l m → m ≤ limit →
      step_all (reading n (wrap s) f) (take (m - n) bs) ≡ settle m (worse m x l)
  unfolding runs
  to_refusal [] s f n x l m e low = let z : ◌≡◌ {A = ℕ} 0 1 = cc in absurd (omega arith)
  to_refusal (b ∷ bs) s f n x l m e low =
      let later : suc n ≤ m = fails_from stepS (suc n) bs (λ s' f' x' l' m' e'. fails_later stepS bs s' f' (suc n) x' l' m' e') (stepS s f n b) x l m e in
      rw (first_taken n m b bs later) (first s f n b (take (m - suc n) bs) (omega (arith, later, low))
      ∙ refusal_from (suc n) bs (λ s' f' x' l' m' e' low'. to_refusal bs s' f' (suc n) x' l' m' e' low') (stepS s f n b) x l m e low)
