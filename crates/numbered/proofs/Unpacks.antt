-- Numbers are read back as a state exactly where they are the numbers of one inside the ranges, and then as that one (`unpacks_exactly`).
use Prim.Native.Nat.{ℕ}
use mathlib.Core.Path.{◌≡◌, refl, sym, ap, ◌∙◌}
use mathlib.Core.List.{List, [], ◌∷◌}
use mathlib.Core.Bool.{Bool, true, false, ◌&&◌, false≢true}
use mathlib.Core.Option.{Option, some, none, some-injective}
use mathlib.Core.Logic.{◌↔◌}
use lib.Dec.{eqb}
use lib.ListN.{length}
use borrow.Author.Tests.{eqb-true, eq-eqb}
use Rattle.basics.proofs.Tests.{and_both}
use Rattle.basics.proofs.Options.{pick_some}
use Rattle.basics.specs.Choose.{pick}
use Rattle.state.specs.declared.State.{State}
use Rattle.state.specs.Ranges.{in_range}
use Rattle.numbered.specs.Numbers.{numbers_of, state_numbers}
use Rattle.numbered.specs.Blocks.{state_of}
use Rattle.numbered.specs.Unpacked.{same_numbers, unpack_of}
use Rattle.numbered.proofs.RoundTrip.{state_back}
use Rattle.numbered.proofs.Lengths.{numbers_length}

-- lists that hold the same numbers are one
pub same_equal : (xs ys : List ℕ) → same_numbers xs ys ≡ true → xs ≡ ys
unfolding same_numbers
same_equal [] [] h = refl
same_equal [] (y ∷ ys) h = absurd (false≢true h)
same_equal (x ∷ xs) [] h = absurd (false≢true h)
same_equal (x ∷ xs) (y ∷ ys) h =
    let both = and_both (eqb x y) (same_numbers xs ys) h in
    ap (λ n. n ∷ xs) (eqb-true x y both.0) ∙ ap (λ l. y ∷ l) (same_equal xs ys both.1)

pub same_self : (xs : List ℕ) → same_numbers xs xs ≡ true
unfolding same_numbers
same_self [] = refl
same_self (x ∷ xs) = rw (eq-eqb x x refl, same_self xs)

-- unpacking what was packed gives the state
pub unpack_packed : (s : State) → in_range s ≡ true → unpack_of (numbers_of s) ≡ some s
unfolding unpack_of pick
unpack_packed s h = rw (state_back s, same_self (numbers_of s), h)

-- what is unpacked is a state inside the ranges, and the numbers are its own
pub unpacked_is : (ns : List ℕ) (s : State) → unpack_of ns ≡ some s → (ns ≡ numbers_of s) × (in_range s ≡ true)
unfolding unpack_of
unpacked_is ns s h =
    let holds = pick_some (same_numbers (numbers_of (state_of ns)) ns && in_range (state_of ns)) (some (state_of ns)) s h in
    let both = and_both (same_numbers (numbers_of (state_of ns)) ns) (in_range (state_of ns)) holds.0 in
    let e : state_of ns ≡ s = some-injective _ _ holds.1 in
    (sym (same_equal (numbers_of (state_of ns)) ns both.0) ∙ ap numbers_of e, sym (ap in_range e) ∙ both.1)

-- numbers are unpacked to a state exactly where they are that state's, and it is inside the ranges
pub unpacks_exactly : (ns : List ℕ) (s : State) → (unpack_of ns ≡ some s) ↔ ((ns ≡ numbers_of s) × (in_range s ≡ true))
unpacks_exactly ns s = (unpacked_is ns s, λ h. ap unpack_of h.0 ∙ unpack_packed s h.1)

-- two states have the same numbers only where they are one
pub numbers_injective : (s s' : State) → numbers_of s ≡ numbers_of s' → s ≡ s'
numbers_injective s s' h = sym (state_back s) ∙ ap state_of h ∙ state_back s'

-- what has another length than a state is none
pub unpack_length : (ns : List ℕ) → (length ns ≡ state_numbers → ⊥) → unpack_of ns ≡ none
unfolding unpack_of pick
unpack_length ns h = by (same_numbers (numbers_of (state_of ns)) ns) refl
  where
    by : (t : Bool) → same_numbers (numbers_of (state_of ns)) ns ≡ t → unpack_of ns ≡ none
    by true e = absurd (h (ap length (sym (same_equal (numbers_of (state_of ns)) ns e)) ∙ numbers_length (state_of ns)))
    by false e = rw e
