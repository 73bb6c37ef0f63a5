-- The header of a box: a 32-bit size and a type; size 1 means that a 64-bit size follows the type.
use Rattle.std.specs.Prelude.{ℕ, suc, ◌+◌, List, [], ◌∷◌, ◌++◌, eqb, ltb}
use Rattle.basics.specs.Choose.{pick}
use Rattle.basics.specs.Headers.{short_header, long_header}
use Rattle.machine.specs.Faults.{shows, unless}
use Rattle.machine.specs.Run.{Sub, go, done, bad, Res, okay, fail, cut, number_byte, field_d, plain}
use Rattle.machine.specs.declared.Refusal.{Refusal}
use Rattle.machine.specs.declared.Header.{Header}
use Rattle.machine.specs.declared.Head.{Head}
use Rattle.machine.specs.declared.Head.TheVariants as at

-- row 5: under 8 bytes remain for a box (its first byte)
abbrev pub under_eight : ℕ → ℕ → List Refusal
under_eight end pos = shows (ltb end (pos + short_header)) 5 pos

-- row 5: size 1 with under 16 remaining (byte 8)
abbrev pub under_sixteen : ℕ → ℕ → List Refusal
under_sixteen end pos = shows (ltb end (pos + long_header)) 5 pos

-- rows 4 and 5, at H: a size under the header's own length; a box that ends past its container
abbrev pub size_faults : ℕ → Header → List Refusal
size_faults end h = shows (ltb h.size h.head) 4 h.pos ++ shows (ltb end (h.pos + h.size)) 5 h.pos

abbrev pub header : ℕ → ℕ → ℕ → ℕ → Header
header pos kind size head = record { pos = pos; kind = kind; size = size; head = head }

-- where a box ends: the place after its last byte
abbrev pub box_end : Header → ℕ
box_end h = h.pos + h.size

module _ {F L : Type 0} (left : F → L) (end : ℕ) where
  -- size and type are read
  unfoldable pub sized : ℕ → ℕ → ℕ → F → Sub Head Header F L
  sized pos size kind f =
      pick (eqb size 1)
      (unless (under_sixteen end pos) (λ x. bad x (left f)) (go (at.Large pos kind 7 0) f))
      (done (header pos kind size short_header) f)

  unfoldable pub step_head : Head → F → ℕ → ℕ → Sub Head Header F L
  step_head at.First f n b = unless (under_eight end n) (λ x. bad x (left f)) (go (at.Size n 2 b) f)
  step_head (at.Size pos more acc) f n b = number_byte (λ m v. go (at.Size pos m v) f) (λ size. go (at.Kind pos size 3 0) f) more acc b
  step_head (at.Kind pos size more acc) f n b = number_byte (λ m v. go (at.Kind pos size m v) f) (λ kind. sized pos size kind f) more acc b
  step_head (at.Large pos kind more acc) f n b =
      number_byte (λ m v. go (at.Large pos kind m v) f) (λ size. done (header pos kind size long_header) f) more acc b

  -- by structure
  unfoldable pub sized_d : ℕ → ℕ → ℕ → F → ℕ → List ℕ → Res Header F L
  sized_d pos size kind f n bs =
      pick (eqb size 1)
      (unless (under_sixteen end pos) (λ x. fail x (left f) n)
      (field_d left plain (λ large g m cs. okay (header pos kind large long_header) g m cs) 8 0 f n bs))
      (okay (header pos kind size short_header) f n bs)

  unfoldable pub head_d : F → ℕ → List ℕ → Res Header F L
  head_d f n [] = cut (left f) n
  head_d f n (b ∷ bs) =
      unless (under_eight end n) (λ x. fail x (left f) (suc n))
      (field_d left plain (λ size g m cs. field_d left plain (λ kind g' m' cs'. sized_d n size kind g' m' cs') 4 0 g m cs) 3 b f (suc n) bs)
