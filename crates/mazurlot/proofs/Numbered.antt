-- Numbers that are an accepted state's, told by its tag and the zeros behind it; and a lookup over the numbers of a state.
use Rattle.std.specs.Prelude.{Err}
use native.Mathlib.Omega.{arith}
use Prim.Native.Nat.{ℕ, suc, ◌+◌, ◌≤◌, ◌<◌}
use mathlib.Core.Path.{◌≡◌, refl, sym, ap, ◌∙◌}
use mathlib.Core.List.{List, [], ◌∷◌}
use mathlib.Core.Bool.{Bool, true, false, ◌&&◌, false≢true, and-true, and_assoc}
use mathlib.Core.Option.{Option, some, none}
use lib.Dec.{eqb}
use lib.ListN.{length, drop, replicate, get_or, length-replicate, get_or-replicate, drop_of_length-le}
use lib.Seq.{drop-cons}
use borrow.Author.Tests.{eqb-true}
use Rattle.basics.specs.Choose.{pick}
use Rattle.basics.proofs.Tests.{and_both}
use Rattle.machine.specs.Faults.{refusal}
use Rattle.moment.specs.declared.Request.{Request}
use Rattle.state.specs.declared.Top.{Top}
use Rattle.state.specs.declared.State.{State}
use Rattle.state.specs.declared.State.TheVariants as state
use Rattle.state.specs.Ranges.{in_range}
use Rattle.numbered.specs.Numbers.{numbers_of, used_numbers, padded, state_numbers}
use Rattle.numbered.specs.Unpacked.{same_numbers, unpack_of}
use Rattle.numbered.proofs.RoundTrip.{state_back}
use Rattle.numbered.proofs.Unpacks.{same_equal, same_self, unpack_packed, unpacked_is}
use Rattle.covering.specs.Lookup.{lookup_state, lookup_of}
use Rattle.mazurlot.specs.Accepted.{zeros_behind, accepted_numbers, refused_with}
use Rattle.mazurlot.specs.Calls.{look_from}

-- numbers compared from a place on: one more, where both have it; none left
module _ (a b : List ℕ) (i : ℕ) where
  same_more : i < length a → i < length b → same_numbers (drop i a) (drop i b) ≡ (eqb (get_or a i 0) (get_or b i 0) && same_numbers (drop (i + 1) a) (drop (i + 1) b))
  unfolding same_numbers
  same_more h k = let e : i + 1 ≡ suc i = omega arith in rw (e, drop-cons a i 0 h, drop-cons b i 0 k)

  same_over : length a ≤ i → length b ≤ i → same_numbers (drop i a) (drop i b) ≡ true
  unfolding same_numbers
  same_over h k = rw (drop_of_length-le a h, drop_of_length-le b k)

-- A pass over the places behind: those from the i-th on, with what is known of the ones before it, come to what all come to.
abbrev pub Rest : List ℕ → Bool → ℕ → Type 0
Rest ns z i = zeros_behind ns ≡ (z && same_numbers (drop i (replicate state_numbers 0)) (drop i ns))

module _ (ns : List ℕ) (z : Bool) (i : ℕ) (rest : Rest ns z i) (long : length ns ≡ state_numbers) where
  pub next_place : i < state_numbers → Rest ns (z && eqb 0 (get_or ns i 0)) (i + 1)
  next_place h =
      let more = same_more (replicate state_numbers 0) ns i (rw (length-replicate {A = ℕ} state_numbers 0) h) (rw long h) in
      let zero-here : ◌≡◌ {A = ℕ} (get_or (replicate state_numbers 0) i 0) 0 = get_or-replicate state_numbers i 0 0 h in
      rest ∙ ap (λ (b : Bool). z && b) (more ∙ ap (λ (n : ℕ). eqb n (get_or ns i 0) && same_numbers (drop (i + 1) (replicate state_numbers 0)) (drop (i + 1) ns)) zero-here)
      ∙ sym (and_assoc z (eqb 0 (get_or ns i 0)) _)

  pub last_place : state_numbers ≤ i → z ≡ zeros_behind ns
  last_place h =
      let over = same_over (replicate state_numbers 0) ns i (rw (length-replicate {A = ℕ} state_numbers 0) h) (rw long h) in
      sym (rest ∙ ap (λ (b : Bool). z && b) over ∙ and-true z)

-- the accepted state that stands in numbers, if one does
abbrev pub accepted_in : List ℕ → State
accepted_in ns =
    let top : Top = record { id = get_or ns 3 0; scale = get_or ns 4 0; start = get_or ns 5 0; durations = get_or ns 6 0 } in
    state.Accepted (get_or ns 1 0) (get_or ns 2 0) top

pub accepted_long : (ns : List ℕ) → accepted_numbers ns ≡ true → length ns ≡ state_numbers
unfolding accepted_numbers
accepted_long ns h = eqb-true (length ns) state_numbers (and_both (eqb (length ns) state_numbers) _ h).0

-- seven numbers with zeros behind them are that state's
accepted_is : (ns : List ℕ) → accepted_numbers ns ≡ true → ns ≡ numbers_of (accepted_in ns)
unfolding accepted_numbers used_numbers padded
accepted_is (a ∷ b ∷ c ∷ d ∷ e ∷ f ∷ g ∷ rest) h =
    let long = and_both (eqb (length (a ∷ b ∷ c ∷ d ∷ e ∷ f ∷ g ∷ rest)) state_numbers) _ h in
    let tagged = and_both (eqb a 4) _ long.1 in
    let zeros = same_equal (replicate 50 0) rest tagged.1 in
    ap (λ (n : ℕ). n ∷ b ∷ c ∷ d ∷ e ∷ f ∷ g ∷ rest) (eqb-true a 4 tagged.0) ∙ ap (λ (l : List ℕ). 4 ∷ b ∷ c ∷ d ∷ e ∷ f ∷ g ∷ l) (sym zeros)
accepted_is (a ∷ b ∷ c ∷ d ∷ e ∷ f ∷ []) h = absurd (false≢true h)
accepted_is (a ∷ b ∷ c ∷ d ∷ e ∷ []) h = absurd (false≢true h)
accepted_is (a ∷ b ∷ c ∷ d ∷ []) h = absurd (false≢true h)
accepted_is (a ∷ b ∷ c ∷ []) h = absurd (false≢true h)
accepted_is (a ∷ b ∷ []) h = absurd (false≢true h)
accepted_is (a ∷ []) h = absurd (false≢true h)
accepted_is [] h = absurd (false≢true h)

-- the numbers of an accepted state are told as such
accepted_told : (n leaves : ℕ) (top : Top) → accepted_numbers (numbers_of (state.Accepted n leaves top)) ≡ true
unfolding accepted_numbers used_numbers padded same_numbers
accepted_told n leaves top = refl

-- an accepted state is looked up in as it stands: outside the ranges it is none
pub accepted_looked_up : (ns table : List ℕ) (r : Request) → accepted_numbers ns ≡ true → lookup_of (accepted_in ns) table r ≡ look_from (unpack_of ns) table r
unfolding look_from lookup_of unpack_of pick
accepted_looked_up ns table r h = by (in_range s) refl
  where
    s : State
    s = accepted_in ns

    by : (b : Bool) → in_range s ≡ b → lookup_of s table r ≡ look_from (unpack_of ns) table r
    by true e = ap (λ (o : Option State). look_from o table r) (sym (unpack_packed s e) ∙ ap unpack_of (sym (accepted_is ns h)))
    by false e =
        let numbered = accepted_is ns h in
        let other : unpack_of (numbers_of s) ≡ none = rw (state_back s, same_self (numbers_of s), e) in
        rw e (ap (λ (o : Option State). look_from o table r) (sym other ∙ ap unpack_of (sym numbered)))

-- any other state is refused with 22, and what is none with 2
pub others_refused : (ns table : List ℕ) (r : Request) → accepted_numbers ns ≡ false → Err (refusal (refused_with (unpack_of ns)) 0) ≡ look_from (unpack_of ns) table r
unfolding lookup_of lookup_state pick look_from refused_with
others_refused ns table r h = by (unpack_of ns) refl
  where
    of : (s : State) → ns ≡ numbers_of s → in_range s ≡ true → Err (refusal 22 0) ≡ lookup_of s table r
    of (state.Reading n leaves now last s) e inside = rw inside
    of (state.Ended n leaves top) e inside = rw inside
    of (state.Refused n leaves x) e inside = rw inside
    of (state.Accepted n leaves top) e inside = absurd (false≢true (sym h ∙ ap accepted_numbers e ∙ accepted_told n leaves top))

    by : (o : Option State) → unpack_of ns ≡ o → Err (refusal (refused_with o) 0) ≡ look_from o table r
    by none e = refl
    by (some s) e = let is = unpacked_is ns s e in of s is.0 is.1
