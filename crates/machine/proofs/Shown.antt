-- Which numbers are among the faults that one byte shows, and at which place; and the faults that a header shows, by the rows.
use Prim.Native.Nat.{ℕ, ◌+◌, ◌≤◌, ◌<◌}
use mathlib.Core.Path.{◌≡◌, refl, ap, ◌∙◌}
use mathlib.Core.List.{List, [], ◌∷◌, ◌++◌}
use mathlib.Core.Bool.{Bool, true, false, ◌&&◌, ◌||◌, or-false}
use mathlib.Core.Logic.{◌≢◌}
use lib.Dec.{eqb, ltb}
use borrow.Author.Tests.{lt-ltb, le-ltb, ne_eqb}
use Rattle.basics.specs.Choose.{pick}
use Rattle.machine.specs.Faults.{refusal, shows, lowest, unless}
use Rattle.machine.specs.Run.{go, done, bad}
use Rattle.machine.specs.Heads.{size_faults, header, sized, step_head}
use Rattle.machine.specs.declared.Refusal.{Refusal}
use Rattle.machine.specs.declared.Header.{Header}
use Rattle.machine.specs.declared.Head.TheVariants as at

-- a number is among those of the faults
unfoldable pub has : ℕ → List Refusal → Bool
has n [] = false
has n (x ∷ xs) = eqb n x.number || has n xs

pub has_both : (n : ℕ) (xs ys : List Refusal) → has n (xs ++ ys) ≡ has n xs || has n ys
unfolding has
has_both n [] ys = refl
has_both n (x ∷ xs) ys = ap (λ (t : Bool). eqb n x.number || t) (has_both n xs ys) ∙ or_assoc_back (eqb n x.number) (has n xs) (has n ys)
  where
    or_assoc_back : (a b c : Bool) → (a || (b || c)) ≡ (a || b || c)
    or_assoc_back true b c = refl
    or_assoc_back false b c = refl

pub has_shows : (n : ℕ) (t : Bool) (m p : ℕ) → has n (shows t m p) ≡ eqb n m && t
unfolding has shows
has_shows n true m p = or-false (eqb n m) ∙ sym_and (eqb n m)
  where
    sym_and : (a : Bool) → a ≡ a && true
    sym_and true = refl
    sym_and false = refl
has_shows n false m p = none (eqb n m)
  where
    none : (a : Bool) → false ≡ a && false
    none true = refl
    none false = refl

-- all faults are at one place
abbrev pub AllAt : ℕ → List Refusal → Type 0
AllAt p [] = Unit {0}
AllAt p (x ∷ xs) = (x.place ≡ p) × AllAt p xs

pub shows_at : (t : Bool) (n p : ℕ) → AllAt p (shows t n p)
unfolding shows
shows_at true n p = (refl, tt)
shows_at false n p = tt

pub both_at : (p : ℕ) (xs ys : List Refusal) → AllAt p xs → AllAt p ys → AllAt p (xs ++ ys)
both_at p [] ys a b = b
both_at p (x ∷ xs) ys a b = (a.0, both_at p xs ys a.1 b)

module _ {F L : Type 0} (left : F → L) (end : ℕ) where
  -- Row 5, at a box's first byte: under 8 bytes remain.
  pub first_byte : (f : F) (n b : ℕ) →
      (end < n + 8 → step_head left end at.First f n b ≡ bad (refusal 5 n) (left f)) × (n + 8 ≤ end → step_head left end at.First f n b ≡ go (at.Size n 2 b) f)
  unfolding step_head unless shows lowest
  first_byte f n b = (λ short. rw (lt-ltb end (n + 8) short), λ long. rw (le-ltb end (n + 8) long))

  -- Row 5, at byte 8: size 1 with under 16 remaining. Any other size is the box's.
  pub eighth_byte : (pos kind : ℕ) (f : F) →
      (end < pos + 16 → sized left end pos 1 kind f ≡ bad (refusal 5 pos) (left f)) × (pos + 16 ≤ end → sized left end pos 1 kind f ≡ go (at.Large pos kind 7 0) f)
      × ((size : ℕ) → size ≢ 1 → sized left end pos size kind f ≡ done (header pos kind size 8) f)
  unfolding sized unless shows lowest pick
  eighth_byte pos kind f = (λ short. rw (lt-ltb end (pos + 16) short), λ long. rw (le-ltb end (pos + 16) long), λ size other. rw (ne_eqb size 1 other))

-- Row 4: a size from 0 to 7, where it is not 1, and a 64-bit size under 16.
pub sizes_under : (end pos kind size : ℕ) →
    (size < 8 → has 4 (size_faults end (header pos kind size 8)) ≡ true) × (8 ≤ size → has 4 (size_faults end (header pos kind size 8)) ≡ false)
    × (size < 16 → has 4 (size_faults end (header pos kind size 16)) ≡ true) × (16 ≤ size → has 4 (size_faults end (header pos kind size 16)) ≡ false)
sizes_under end pos kind size = (
  λ low. simp (has_both, has_shows, lt-ltb size 8 low),
  λ high. simp (has_both, has_shows, le-ltb size 8 high),
  λ low. simp (has_both, has_shows, lt-ltb size 16 low),
  λ high. simp (has_both, has_shows, le-ltb size 16 high),
)

-- Row 5, at H: a box that ends past its container; one that ends with it does not.
pub ends_past : (end : ℕ) (h : Header) → (end < h.pos + h.size → has 5 (size_faults end h) ≡ true) × (h.pos + h.size ≤ end → has 5 (size_faults end h) ≡ false)
ends_past end h =
    (λ past. simp (has_both, has_shows, lt-ltb end (h.pos + h.size) past), λ within. simp (has_both, has_shows, le-ltb end (h.pos + h.size) within))

-- both are at the box's first byte
pub sizes_at : (end : ℕ) (h : Header) → AllAt h.pos (size_faults end h)
sizes_at end h =
    let under = ltb h.size h.head in
    let past = ltb end (h.pos + h.size) in
    both_at h.pos (shows under 4 h.pos) (shows past 5 h.pos) (shows_at under 4 h.pos) (shows_at past 5 h.pos)
