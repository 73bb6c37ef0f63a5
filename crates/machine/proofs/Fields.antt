-- A number of bytes, once over its width, and bytes that are skipped: byte by byte, by structure, and of a list.
use Prim.Native.Nat.{ℕ, zero, suc, ◌+◌, ◌-◌, ◌*◌, ◌≤◌, ◌<◌}
use mathlib.Core.Path.{◌≡◌, refl, ap, sym, ◌∙◌}
use mathlib.Core.List.{List, [], ◌∷◌, ◌++◌}
use native.Mathlib.Omega.{arith}
use lib.ListN.{length, take, drop}
use lib.Dec.{leb}
use borrow.Author.Tests.{le-leb, lt-leb}
use Rattle.basics.specs.Choose.{pick}
use Rattle.basics.specs.Bytes.{number_from}
use Rattle.basics.proofs.Picks.{pick_yes, pick_no}
use Rattle.machine.specs.declared.Refusal.{Refusal}
use Rattle.machine.specs.Run.{Sub, go, done, Res, okay, cut, either, after, cont_by, run, cont, field_d, plain, skip_d}

-- Any machine with a phase that reads a number: `fld m acc` is the phase with `m` bytes after the next one and `acc` read, `fin` what
-- the last byte makes of the number, and `k` the reading by structure that it begins, which is known where fewer bytes are left.
module _ {S R F L : Type 0} (left : F → L) (step : S → F → ℕ → ℕ → Sub S R F L) (keep : F → ℕ → ℕ → F) (fld : ℕ → ℕ → S) (fin : ℕ → F → ℕ → Sub S R F L)
    (last : (acc : ℕ) (f : F) (n b : ℕ) → step (fld 0 acc) f n b ≡ fin (acc * 256 + b) (keep f 0 b) (suc n))
    (more : (m acc : ℕ) (f : F) (n b : ℕ) → step (fld (suc m) acc) f n b ≡ go (fld m (acc * 256 + b)) (keep f (suc m) b))
    (k : ℕ → F → ℕ → List ℕ → Res R F L) where
  pub field_within : (N : ℕ) → ((v : ℕ) (f : F) (n : ℕ) (bs : List ℕ) → length bs < N → k v f n bs ≡ cont left step n bs (fin v f n)) →
      (m acc : ℕ) (f : F) (n : ℕ) (bs : List ℕ) → length bs ≤ N → field_d left keep k (suc m) acc f n bs ≡ run left step (fld m acc) f n bs
  unfolding field_d run cont_by
  field_within N ends zero acc f n [] h = refl
  field_within N ends zero acc f n (b ∷ bs) h = ends (acc * 256 + b) (keep f 0 b) (suc n) bs (omega arith) ∙ ap (cont left step (suc n) bs) (sym (last acc f n b))
  field_within N ends (suc m) acc f n [] h = refl
  field_within N ends (suc m) acc f n (b ∷ bs) h =
      field_within N ends m (acc * 256 + b) (keep f (suc m) b) (suc n) bs (omega arith) ∙ ap (cont left step (suc n) bs) (sym (more m acc f n b))

  -- the number by structure is the phase's run
  pub field_run : ((v : ℕ) (f : F) (n : ℕ) (bs : List ℕ) → k v f n bs ≡ cont left step n bs (fin v f n)) →
      (m acc : ℕ) (f : F) (n : ℕ) (bs : List ℕ) → field_d left keep k (suc m) acc f n bs ≡ run left step (fld m acc) f n bs
  field_run ends m acc f n bs = field_within (length bs) (λ v g n' cs h. ends v g n' cs) m acc f n bs (omega arith)

-- Any machine with a phase that skips up to a place, whatever follows there.
module _ {S R F L : Type 0} (left : F → L) (step : S → F → ℕ → ℕ → Sub S R F L) (stop : ℕ) (sk : S) (fin : F → ℕ → Sub S R F L)
    (skips : (f : F) (n b : ℕ) → step sk f n b ≡ pick (leb stop (suc n)) (fin f (suc n)) (go sk f)) where
  skip_by : (m : ℕ) (f : F) (n : ℕ) (bs : List ℕ) → stop - n ≡ m →
      after (skip_d left m f n bs) (λ u g m' cs. cont left step m' cs (fin g m')) ≡ cont left step n bs (pick (leb stop n) (fin f n) (go sk f))
  unfolding skip_d run cont_by either
  skip_by zero f n bs e = ap (cont left step n bs) (sym (pick_yes (leb stop n) (fin f n) (go sk f) (le-leb stop n (omega arith))))
  skip_by (suc m) f n [] e = ap (cont left step n []) (sym (pick_no (leb stop n) (fin f n) (go sk f) (lt-leb stop n (omega arith))))
  skip_by (suc m) f n (b ∷ bs) e =
      skip_by m f (suc n) bs (omega arith)
      ∙ ap (cont left step (suc n) bs) (sym (skips f n b))
      ∙ ap (cont left step n (b ∷ bs)) (sym (pick_no (leb stop n) (fin f n) (go sk f) (lt-leb stop n (omega arith))))

  -- the bytes skipped by structure, and what follows, are the phase's run; at the place already, nothing is skipped
  pub skip_then : (f : F) (n : ℕ) (bs : List ℕ) →
      after (skip_d left (stop - n) f n bs) (λ u g m cs. cont left step m cs (fin g m)) ≡ cont left step n bs (pick (leb stop n) (fin f n) (go sk f))
  skip_then f n bs = skip_by (stop - n) f n bs refl

-- the same where the machine is done there
pub skip_run : {S R F L : Type 0} (left : F → L) (step : S → F → ℕ → ℕ → Sub S R F L) (stop : ℕ) (sk : S) (r : R) →
    ((f : F) (n b : ℕ) → step sk f n b ≡ pick (leb stop (suc n)) (done r f) (go sk f)) → (f : F) (n : ℕ) (bs : List ℕ) →
    after (skip_d left (stop - n) f n bs) (λ u g m cs. okay r g m cs) ≡ cont left step n bs (pick (leb stop n) (done r f) (go sk f))
unfolding cont_by
skip_run left step stop sk r skips f n bs = skip_then left step stop sk (λ g m. done r g) skips f n bs

-- What follows a number may be replaced by what is alike.
pub field_cong : {R F L : Type 0} (left : F → L) (keep : F → ℕ → ℕ → F) (k k' : ℕ → F → ℕ → List ℕ → Res R F L) →
    ((v : ℕ) (f : F) (n : ℕ) (bs : List ℕ) → k v f n bs ≡ k' v f n bs) → (m acc : ℕ) (f : F) (n : ℕ) (bs : List ℕ) → field_d left keep k m acc f n bs ≡ field_d left keep k' m acc f n bs
unfolding field_d
field_cong left keep k k' e zero acc f n bs = e acc f n bs
field_cong left keep k k' e (suc m) acc f n [] = refl
field_cong left keep k k' e (suc m) acc f n (b ∷ bs) = field_cong left keep k k' e m (acc * 256 + b) (keep f m b) (suc n) bs

-- What follows a reading that begins with a number follows what follows the number.
pub field_either : {R Q F L : Type 0} (left : F → L) (keep : F → ℕ → ℕ → F) (k : ℕ → F → ℕ → List ℕ → Res R F L) (h : R → F → ℕ → List ℕ → Res Q F L) (worse : Refusal → L → ℕ → Res Q F L)
    (m acc : ℕ) (f : F) (n : ℕ) (bs : List ℕ) → either (field_d left keep k m acc f n bs) h worse ≡ field_d left keep (λ v g n' cs. either (k v g n' cs) h worse) m acc f n bs
unfolding field_d either
field_either left keep k h worse zero acc f n bs = refl
field_either left keep k h worse (suc m) acc f n [] = refl
field_either left keep k h worse (suc m) acc f n (b ∷ bs) = field_either left keep k h worse m (acc * 256 + b) (keep f m b) (suc n) bs

-- Of a list: the number that the bytes spell, and what is left; cut off where the bytes are too few.
module _ {R F L : Type 0} (left : F → L) (k : ℕ → F → ℕ → List ℕ → Res R F L) where
  -- just as many bytes, and then more
  pub field_whole : (m acc : ℕ) (f : F) (n : ℕ) (xs ys : List ℕ) → length xs ≡ m → field_d left plain k m acc f n (xs ++ ys) ≡ k (number_from acc xs) f (n + m) ys
  unfolding field_d number_from
  field_whole zero acc f n [] ys e = let q : n + 0 ≡ n = omega arith in rw q
  field_whole zero acc f n (x ∷ xs) ys e = absurd (omega arith)
  field_whole (suc m) acc f n [] ys e = absurd (omega arith)
  field_whole (suc m) acc f n (x ∷ xs) ys e = let q : n + suc m ≡ suc n + m = omega arith in rw q (field_whole m (acc * 256 + x) f (suc n) xs ys (omega arith))

  -- enough bytes
  pub field_take : (m acc : ℕ) (f : F) (n : ℕ) (bs : List ℕ) → m ≤ length bs → field_d left plain k m acc f n bs ≡ k (number_from acc (take m bs)) f (n + m) (drop m bs)
  unfolding field_d number_from
  field_take zero acc f n [] e = let q : n + 0 ≡ n = omega arith in rw q
  field_take zero acc f n (b ∷ bs) e = let q : n + 0 ≡ n = omega arith in rw q
  field_take (suc m) acc f n [] e = absurd (omega arith)
  field_take (suc m) acc f n (b ∷ bs) e = let q : n + suc m ≡ suc n + m = omega arith in rw q (field_take m (acc * 256 + b) f (suc n) bs (omega arith))

  -- too few
  pub field_short : (m acc : ℕ) (f : F) (n : ℕ) (bs : List ℕ) → length bs < m → field_d left plain k m acc f n bs ≡ cut (left f) (n + length bs)
  unfolding field_d
  field_short zero acc f n bs e = absurd (omega arith)
  field_short (suc m) acc f n [] e = let q : n + 0 ≡ n = omega arith in rw q
  field_short (suc m) acc f n (b ∷ bs) e = let q : n + suc (length bs) ≡ suc n + length bs = omega arith in rw q (field_short m (acc * 256 + b) f (suc n) bs (omega arith))

-- The same of bytes that are skipped.
module _ {F L : Type 0} (left : F → L) where
  -- just as many bytes, and then more
  pub skip_whole : (m : ℕ) (f : F) (n : ℕ) (xs ys : List ℕ) → length xs ≡ m → skip_d left m f n (xs ++ ys) ≡ okay tt f (n + m) ys
  unfolding skip_d
  skip_whole zero f n [] ys e = let q : n + 0 ≡ n = omega arith in rw q
  skip_whole zero f n (x ∷ xs) ys e = absurd (omega arith)
  skip_whole (suc m) f n [] ys e = absurd (omega arith)
  skip_whole (suc m) f n (x ∷ xs) ys e = let q : n + suc m ≡ suc n + m = omega arith in rw q (skip_whole m f (suc n) xs ys (omega arith))

  -- enough bytes
  pub skip_take : (m : ℕ) (f : F) (n : ℕ) (bs : List ℕ) → m ≤ length bs → skip_d left m f n bs ≡ okay tt f (n + m) (drop m bs)
  unfolding skip_d
  skip_take zero f n [] e = let q : n + 0 ≡ n = omega arith in rw q
  skip_take zero f n (b ∷ bs) e = let q : n + 0 ≡ n = omega arith in rw q
  skip_take (suc m) f n [] e = absurd (omega arith)
  skip_take (suc m) f n (b ∷ bs) e = let q : n + suc m ≡ suc n + m = omega arith in rw q (skip_take m f (suc n) bs (omega arith))

  -- too few
  pub skip_short : (m : ℕ) (f : F) (n : ℕ) (bs : List ℕ) → length bs < m → skip_d left m f n bs ≡ cut (left f) (n + length bs)
  unfolding skip_d
  skip_short zero f n bs e = absurd (omega arith)
  skip_short (suc m) f n [] e = let q : n + 0 ≡ n = omega arith in rw q
  skip_short (suc m) f n (b ∷ bs) e = let q : n + suc (length bs) ≡ suc n + length bs = omega arith in rw q (skip_short m f (suc n) bs (omega arith))
