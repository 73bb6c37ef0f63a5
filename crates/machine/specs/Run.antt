-- Machines that read byte by byte, their run, a machine inside another; and a reading by structure. `F` is what flows through a
-- reading, `L` what a refusal leaves of it. The run counts the bytes, no machine does: `n` bytes were read before the one at hand.
use Rattle.std.specs.Prelude.{ℕ, zero, suc, ◌+◌, ◌*◌}
use mathlib.Core.List.{List, [], ◌∷◌}
use Rattle.machine.specs.declared.Refusal.{Refusal}

-- what one byte makes of a machine: it goes on, it is done with a result, or it refuses
pub data Sub (S R F L : Type 0) : Type 0 where
  go : S → F → Sub S R F L
  done : R → F → Sub S R F L
  bad : Refusal → L → Sub S R F L

-- what a reading gives: a result with the bytes left, a refusal, or the bytes were cut off before either
pub data Res (R F L : Type 0) : Type 0 where
  okay : R → F → ℕ → List ℕ → Res R F L
  fail : Refusal → L → ℕ → Res R F L
  cut : L → ℕ → Res R F L

-- what a reading gives next, from a result and from a refusal; cut off stays cut off
unfoldable pub either : {R Q F L : Type 0} → Res R F L → (R → F → ℕ → List ℕ → Res Q F L) → (Refusal → L → ℕ → Res Q F L) → Res Q F L
either (okay r f n bs) k worse = k r f n bs
either (fail x l n) k worse = worse x l n
either (cut l n) k worse = cut l n

abbrev pub after : {R Q F L : Type 0} → Res R F L → (R → F → ℕ → List ℕ → Res Q F L) → Res Q F L
after r k = either r k fail

-- what is made of a machine's answer when the bytes `bs` follow, of which none was read yet
unfoldable pub cont_by : {S R F L : Type 0} → (S → F → Res R F L) → ℕ → List ℕ → Sub S R F L → Res R F L
cont_by more n bs (go s f) = more s f
cont_by more n bs (done r f) = okay r f n bs
cont_by more n bs (bad x l) = fail x l n

module _ {S R F L : Type 0} (left : F → L) (step : S → F → ℕ → ℕ → Sub S R F L) where
  -- a machine run until it is done
  unfoldable pub run : S → F → ℕ → List ℕ → Res R F L
  unfolding cont_by
  run s f n [] = cut (left f) n
  run s f n (b ∷ bs) = cont_by (λ s' f'. run s' f' (suc n) bs) (suc n) bs (step s f n b)

  abbrev pub cont : ℕ → List ℕ → Sub S R F L → Res R F L
  cont n bs r = cont_by (λ s f. run s f n bs) n bs r

-- A machine inside another: its states wrapped, what follows when it is done, and what its refusal becomes.
unfoldable pub lift : {S T R Q F L : Type 0} → (S → T) → (R → F → Sub T Q F L) → (Refusal → L → Sub T Q F L) → Sub S R F L → Sub T Q F L
lift wrap out worse (go s f) = go (wrap s) f
lift wrap out worse (done r f) = out r f
lift wrap out worse (bad x l) = worse x l

-- A byte of a number: with bytes to follow it goes on, told how many and what is spelled so far; the last one ends it with what is spelled.
abbrev pub number_byte : {X : Type 0} → (ℕ → ℕ → X) → (ℕ → X) → ℕ → ℕ → ℕ → X
number_byte on ends zero acc b = ends (acc * 256 + b)
number_byte on ends (suc m) acc b = on m (acc * 256 + b)

-- A number of bytes, by structure: `keep` is what a byte leaves in what flows, told how many bytes of the number follow it.
module _ {R F L : Type 0} (left : F → L) (keep : F → ℕ → ℕ → F) (k : ℕ → F → ℕ → List ℕ → Res R F L) where
  unfoldable pub field_d : ℕ → ℕ → F → ℕ → List ℕ → Res R F L
  field_d zero acc f n bs = k acc f n bs
  field_d (suc m) acc f n [] = cut (left f) n
  field_d (suc m) acc f n (b ∷ bs) = field_d m (acc * 256 + b) (keep f m b) (suc n) bs

-- a byte leaves nothing
abbrev pub plain : {F : Type 0} → F → ℕ → ℕ → F
plain f m b = f

-- so many bytes that are not looked at
unfoldable pub skip_d : {F L : Type 0} → (F → L) → ℕ → F → ℕ → List ℕ → Res (Unit {0}) F L
skip_d left zero f n bs = okay tt f n bs
skip_d left (suc m) f n [] = cut (left f) n
skip_d left (suc m) f n (b ∷ bs) = skip_d left m f (suc n) bs
