-- A limit on all bytes: within it nothing changes; past it the bytes within tell, and else the limit's refusal.
use Prim.Native.Nat.{ℕ, suc, ◌+◌, ◌-◌, ◌≤◌, ◌<◌, min}
use mathlib.Core.Path.{◌≡◌, refl, ap, sym, ◌∙◌}
use mathlib.Core.List.{List, [], ◌∷◌, ◌++◌, append-nil}
use mathlib.Core.Logic.{◌⊎◌, inl, inr}
use native.Mathlib.Omega.{arith}
use lib.ListN.{length, take, drop, take-append-drop, length-take, drop_of_length-le}
use lib.Seq.{take_all}
use borrow.Author.Tests.{eq-eqb, ne_eqb}
use Rattle.basics.specs.Choose.{pick}
use Rattle.basics.proofs.Picks.{lt_or_ge}
use Rattle.machine.specs.Run.{Sub, go, done, bad, Res, okay, fail, cut, cont_by, run, cont}
use Rattle.machine.specs.Limit.{limited, beyond}
use Rattle.machine.specs.declared.Refusal.{Refusal}
use Rattle.machine.proofs.Kept.{Unrefused}

-- no bytes past the limit
pub beyond_none : {R F L : Type 0} (x : Refusal) (r : Res R F L) → beyond x r [] ≡ r
unfolding beyond
beyond_none x (okay q f n bs) = ap (okay q f n) (append-nil bs)
beyond_none x (fail y l n) = refl
beyond_none x (cut l n) = refl

module _ {S R F L : Type 0} (left : F → L) (N : ℕ) (over : S → F → ℕ → Sub S R F L) (step : S → F → ℕ → ℕ → Sub S R F L) where
  abbrev within : S → F → ℕ → ℕ → Sub S R F L
  within = limited N over step

  fits_cont : (n : ℕ) (bs : List ℕ) → ((s : S) (f : F) → run left within s f n bs ≡ run left step s f n bs) → (r : Sub S R F L) →
      cont left within n bs r ≡ cont left step n bs r
  unfolding cont_by
  fits_cont n bs h (go s f) = h s f
  fits_cont n bs h (done q f) = refl
  fits_cont n bs h (bad y l) = refl

  -- within the limit nothing changes
  pub fits_limit : (bs : List ℕ) (s : S) (f : F) (n : ℕ) → n + length bs ≤ N → run left within s f n bs ≡ run left step s f n bs
  unfolding run limited pick
  fits_limit [] s f n h = refl
  fits_limit (b ∷ bs) s f n h = rw (ne_eqb n N (λ q. omega arith)) (fits_cont (suc n) bs (λ s' f'. fits_limit bs s' f' (suc n) (omega arith)) (step s f n b))

  -- Where the byte after the limit finds the machine, it gives the refusal `x` and leaves what flowed: what is known of the machine after
  -- n bytes, which each byte keeps, says so.
  module _ (x : Refusal) (Known : ℕ → S → F → Type 0) (keeps : (s : S) (f : F) (n b : ℕ) → Known n s f → Unrefused (Known (suc n)) (λ r g. Unit {0}) (step s f n b))
      (found : (s : S) (f : F) (b : ℕ) → Known N s f → over s f b ≡ bad x (left f)) where
    over_cont : (n : ℕ) (bs ys : List ℕ) → ((s : S) (f : F) → Known n s f → run left within s f n (bs ++ ys) ≡ beyond x (run left step s f n bs) ys) → (r : Sub S R F L) →
        Unrefused (Known n) (λ q g. Unit {0}) r → cont left within n (bs ++ ys) r ≡ beyond x (cont left step n bs r) ys
    unfolding cont_by beyond
    over_cont n bs ys h (go s f) k = h s f k
    over_cont n bs ys h (done q f) k = refl
    over_cont n bs ys h (bad y l) k = refl

    -- bytes up to the limit, and then more
    pub over_limit : (bs ys : List ℕ) (s : S) (f : F) (n : ℕ) → n + length bs ≡ N → Known n s f → run left within s f n (bs ++ ys) ≡ beyond x (run left step s f n bs) ys
    unfolding run limited pick beyond cont_by
    over_limit [] [] s f n h k = refl
    over_limit [] (y ∷ ys) s f n h k = let e : n ≡ N = omega arith in rw (eq-eqb n N e, found s f y (rw e at k)) refl
    over_limit (b ∷ bs) ys s f n h k =
        rw (ne_eqb n N (λ q. omega arith)) (over_cont (suc n) bs ys (λ s' f' k'. over_limit bs ys s' f' (suc n) (omega arith) k') (step s f n b) (keeps s f n b k))

    -- any bytes, from within the limit: those up to it tell, and the rest lie past it
    pub limit_run : (zs : List ℕ) (s : S) (f : F) (n : ℕ) → n ≤ N → Known n s f → run left within s f n zs ≡ beyond x (run left step s f n (take (N - n) zs)) (drop (N - n) zs)
    limit_run zs s f n h k = at (lt_or_ge (length zs) (N - n))
      where
        at : (length zs < N - n) ⊎ (N - n ≤ length zs) → run left within s f n zs ≡ beyond x (run left step s f n (take (N - n) zs)) (drop (N - n) zs)
        at (inl lt) = rw (take_all (N - n) zs (omega arith), drop_of_length-le zs {i = N - n} (omega arith)) (fits_limit zs s f n (omega arith) ∙ sym (beyond_none x (run left step s f n zs)))
        at (inr ge) =
            ap (run left within s f n) (sym (take-append-drop (N - n) zs))
            ∙ over_limit (take (N - n) zs) (drop (N - n) zs) s f n (let e : length (take (N - n) zs) ≡ min (N - n) (length zs) = length-take (N - n) zs in omega arith) k
