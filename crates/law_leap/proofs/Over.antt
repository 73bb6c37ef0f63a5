-- Laws of a machine over bytes: over some and then others, over bytes that leave it as it is, and of a machine inside another.
use Prim.Native.Nat.{ℕ, suc, ◌+◌, ◌-◌, ◌≤◌, ◌<◌}
use mathlib.Core.Path.{◌≡◌, refl, ap, ◌∙◌}
use mathlib.Core.List.{List, [], ◌∷◌, ◌++◌}
use native.Mathlib.Omega.{arith}
use lib.ListN.{length}
use Rattle.machine.specs.Run.{Sub, go, done, bad, lift}
use Rattle.machine.specs.declared.Refusal.{Refusal}
use Rattle.law_leap.specs.Over.{on_by, over}

module _ {S R F L : Type 0} (step : S → F → ℕ → ℕ → Sub S R F L) where
  -- some bytes, and then others
  append_from : (n : ℕ) (xs ys : List ℕ) →
      ((s : S) (f : F) → over step s f n (xs ++ ys) ≡ on_by (λ s' f'. over step s' f' (n + length xs) ys) (over step s f n xs)) →
      (q : Sub S R F L) →
      on_by (λ s f. over step s f n (xs ++ ys)) q ≡ on_by (λ s f. over step s f (n + length xs) ys) (on_by (λ s f. over step s f n xs) q)
  unfolding on_by
  append_from n xs ys h (go s f) = h s f
  append_from n xs ys h (done r f) = refl
  append_from n xs ys h (bad x l) = refl

  pub over_append : (xs : List ℕ) (s : S) (f : F) (n : ℕ) (ys : List ℕ) →
      over step s f n (xs ++ ys) ≡ on_by (λ s' f'. over step s' f' (n + length xs) ys) (over step s f n xs)
  unfolding over on_by
  over_append [] s f n ys = let e : n + 0 ≡ n = omega arith in rw e
  over_append (b ∷ xs) s f n ys =
      let e : n + suc (length xs) ≡ suc n + length xs = omega arith in
      rw e (append_from (suc n) xs ys (λ s' f'. over_append xs s' f' (suc n) ys) (step s f n b))

  -- where it goes on with the first of them
  pub over_then : (xs : List ℕ) (s : S) (f : F) (n : ℕ) (ys : List ℕ) (t : S) (g : F) → over step s f n xs ≡ go t g →
      over step s f n (xs ++ ys) ≡ over step t g (n + length xs) ys
  unfolding on_by
  over_then xs s f n ys t g e = over_append xs s f n ys ∙ ap (on_by (λ s' f'. over step s' f' (n + length xs) ys)) e

  -- bytes before the last of a body, each of which leaves the machine as it is
  pub over_still : (s : S) (f : F) (stop : ℕ) → ((n b : ℕ) → suc n < stop → step s f n b ≡ go s f) →
      (bs : List ℕ) (n : ℕ) → length bs ≤ stop - suc n → over step s f n bs ≡ go s f
  unfolding over on_by
  over_still s f stop stays [] n h = refl
  over_still s f stop stays (b ∷ bs) n h = rw (stays n b (omega (arith, h))) (over_still s f stop stays bs (suc n) (omega (arith, h)))

-- A machine inside another, which goes on as the one inside does: so it goes on with bytes.
module _ {S T R Q F L : Type 0} (inner : S → F → ℕ → ℕ → Sub S R F L) (step : T → F → ℕ → ℕ → Sub T Q F L) (wrap : S → T)
    (moves : (s s' : S) (f g : F) (n b : ℕ) → inner s f n b ≡ go s' g → step (wrap s) f n b ≡ go (wrap s') g) where
  inside_from : (n : ℕ) (b : ℕ) (bs : List ℕ) →
      ((s : S) (f : F) (t : S) (g : F) → over inner s f (suc n) bs ≡ go t g → over step (wrap s) f (suc n) bs ≡ go (wrap t) g) →
      (s : S) (f : F) (q : Sub S R F L) → inner s f n b ≡ q → (t : S) (g : F) → on_by (λ s' f'. over inner s' f' (suc n) bs) q ≡ go t g →
      on_by (λ s' f'. over step s' f' (suc n) bs) (step (wrap s) f n b) ≡ go (wrap t) g
  unfolding on_by
  inside_from n b bs h s f (go s' f') one t g e = rw (moves s s' f f' n b one) (h s' f' t g e)
  inside_from n b bs h s f (done r f') one t g e = let z : ◌≡◌ {A = ℕ} 0 1 = cc in absurd (omega arith)
  inside_from n b bs h s f (bad x l) one t g e = let z : ◌≡◌ {A = ℕ} 0 1 = cc in absurd (omega arith)

  pub over_moves : (bs : List ℕ) (s : S) (f : F) (n : ℕ) (t : S) (g : F) → over inner s f n bs ≡ go t g → over step (wrap s) f n bs ≡ go (wrap t) g
  unfolding over
  over_moves [] s f n t g e = let a : s ≡ t = cc in let b : f ≡ g = cc in rw (a, b)
  over_moves (b ∷ bs) s f n t g e = inside_from n b bs (λ s' f' t' g' e'. over_moves bs s' f' (suc n) t' g' e') s f (inner s f n b) refl t g e

-- the same where the one around lifts each answer of the one inside
pub over_inside : {S T R Q F L : Type 0} (inner : S → F → ℕ → ℕ → Sub S R F L) (step : T → F → ℕ → ℕ → Sub T Q F L) (wrap : S → T)
    (out : ℕ → R → F → Sub T Q F L) (worse : ℕ → Refusal → L → Sub T Q F L) →
    ((s : S) (f : F) (n b : ℕ) → step (wrap s) f n b ≡ lift wrap (out (suc n)) (worse (suc n)) (inner s f n b)) →
    (bs : List ℕ) (s : S) (f : F) (n : ℕ) (t : S) (g : F) → over inner s f n bs ≡ go t g → over step (wrap s) f n bs ≡ go (wrap t) g
unfolding lift
over_inside inner step wrap out worse steps =
    over_moves inner step wrap (λ s s' f g n b e. steps s f n b ∙ ap (lift wrap (out (suc n)) (worse (suc n))) e)
