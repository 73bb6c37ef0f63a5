-- Laws of the lowest number: of tests in the order of the numbers that they show, all at one place, it is that of the first one that holds.
use Prim.Native.Nat.{ℕ, ◌+◌, ◌≤◌, ◌%◌}
use mathlib.Core.Path.{◌≡◌, refl, ap, sym, ◌∙◌}
use mathlib.Core.List.{List, [], ◌∷◌, ◌++◌, append-nil, append_assoc}
use mathlib.Core.Bool.{Bool, true, false, not, ◌&&◌, ◌||◌}
use native.Mathlib.Omega.{arith}
use lib.Dec.{eqb, ltb}
use borrow.Author.Tests.{ltb-false, eqb-true, ne_eqb, le-ltb}
use Rattle.basics.specs.Choose.{pick}
use Rattle.basics.proofs.Picks.{pick_no, pick_if}
use Rattle.machine.specs.Faults.{refusal, shows, lowest, unless}
use Rattle.machine.specs.Heads.{size_faults}
use Rattle.machine.specs.declared.Refusal.{Refusal}
use Rattle.machine.specs.declared.Header.{Header}
use Rattle.machine.proofs.Faults.{none_first, none_second, shows_none}
use Rattle.machine.proofs.Kept.{Each, each_none, each_shows, each_append, each_lowest}
use Rattle.segment.specs.Constants.{styp, sidx}
use Rattle.state.specs.Rows.{is, body_length, top_lengths}
use Rattle.flaws.specs.Flaws.{flaw_of}

-- a test, and the number that it shows where it holds
abbrev pub Test : Type 0
Test = Bool × ℕ

-- what tests show at one place
abbrev pub shown : ℕ → Test → List Test → List Refusal
shown p t [] = shows t.0 t.1 p
shown p t (u ∷ us) = shows t.0 t.1 p ++ shown p u us

-- the number of the first test that holds; 0 where none does
abbrev pub first : Test → List Test → ℕ
first t [] = pick t.0 t.1 0
first t (u ∷ us) = pick t.0 t.1 (first u us)

-- numbers in their order, from `m` to `n`
abbrev pub Rising : ℕ → ℕ → Test → List Test → Type 0
Rising m n t [] = (m ≤ t.1) × (t.1 ≤ n)
Rising m n t (u ∷ us) = (m ≤ t.1) × (t.1 ≤ n) × Rising t.1 n u us

-- faults with one place, each with a number
abbrev pub Placed : ℕ → Refusal → Type 0
Placed p x = (x.place ≡ p) × (1 ≤ x.number)

-- the same of what a header shows beyond its size
abbrev pub Beyond : ℕ → Refusal → Type 0
Beyond p x = (x.place ≡ p) × (6 ≤ x.number) × (x.number ≤ 17)

-- no lower number
abbrev From : ℕ → Refusal → Type 0
From n x = n ≤ x.number

-- what each has gives what each has
pub each_so : (G H : Refusal → Type 0) → ((x : Refusal) → G x → H x) → (xs : List Refusal) → Each G xs → Each H xs
unfolding Each
each_so G H k [] g = tt
each_so G H k (x ∷ xs) g = (k x g.0, each_so G H k xs g.1)

-- the first of faults none of which has a lower number
lowest_first : (x : Refusal) (ys : List Refusal) → Each (From x.number) ys → lowest x ys ≡ x
unfolding lowest Each
lowest_first x [] h = refl
lowest_first x (y ∷ ys) h = pick_no (ltb y.number x.number) _ _ (le-ltb _ _ h.0) ∙ lowest_first x ys h.1

-- a fault before others none of which has a lower number
flaw_shows : (t : Bool) (n p : ℕ) (ys : List Refusal) → Each (From n) ys → flaw_of (shows t n p ++ ys) ≡ pick t n (flaw_of ys)
unfolding flaw_of shows pick
flaw_shows true n p ys h = ap (λ (x : Refusal). x.number) (lowest_first (refusal n p) ys h)
flaw_shows false n p ys h = refl

-- a number before others, and else what goes on after them
before : (b : Bool) (n y z w : ℕ) → 1 ≤ n → z ≡ pick (eqb y 0) w y → pick b n z ≡ pick (eqb (pick b n y) 0) w (pick b n y)
unfolding pick
before true n y z w h e = sym (pick_no (eqb n 0) _ n (ne_eqb n 0 (λ k. omega arith)))
before false n y z w h e = e

or_none : (n : ℕ) → pick (eqb n 0) 0 n ≡ n
or_none n = pick_if (eqb n 0) (λ q. q) 0 n n (λ e. sym (eqb-true n 0 e)) (λ e. refl)

module _ (p : ℕ) where
  -- what holds of every number from `m` to `n` at the place
  pub shown_each : (G : Refusal → Type 0) (m n : ℕ) (t : Test) (us : List Test) → ((k : ℕ) → m ≤ k → k ≤ n → G (refusal k p)) → Rising m n t us → Each G (shown p t us)
  shown_each G m n t [] g r = each_shows G t.0 t.1 p (g t.1 r.0 r.1)
  shown_each G m n t (u ∷ us) g r =
      each_append G _ _ (each_shows G t.0 t.1 p (g t.1 r.0 r.1))
      (shown_each G t.1 n u us (λ k a b. g k (omega (arith, r.0)) b) r.2)

  -- the number of the first test that holds, and else what other faults show, none of which has a lower number
  pub flaw_then : (m n : ℕ) (t : Test) (us : List Test) (ys : List Refusal) → 1 ≤ m → Rising m n t us → Each (From n) ys →
      flaw_of (shown p t us ++ ys) ≡ pick (eqb (first t us) 0) (flaw_of ys) (first t us)
  unfolding pick
  flaw_then m n t [] ys l r g =
      flaw_shows t.0 t.1 p ys (each_so _ _ (λ x k. omega (arith, r.1)) ys g)
      ∙ before t.0 t.1 0 (flaw_of ys) (flaw_of ys) (omega arith) refl
  flaw_then m n t (u ∷ us) ys l r g =
      let from_First = each_append (From t.1) _ _ (shown_each (From t.1) t.1 n u us (λ k a b. a) r.2) (each_so _ _ (λ x k. omega (arith, r.1)) ys g) in
      ap flaw_of (append_assoc (shows t.0 t.1 p) (shown p u us) ys)
      ∙ flaw_shows t.0 t.1 p _ from_First
      ∙ before t.0 t.1 (first u us) _ (flaw_of ys) (omega (arith, r.0)) (flaw_then t.1 n u us ys (omega (arith, r.0)) r.2 g)

  -- the lowest number is that of the first test that holds
  pub flaw_first : (m n : ℕ) (t : Test) (us : List Test) → 1 ≤ m → Rising m n t us → flaw_of (shown p t us) ≡ first t us
  unfolding flaw_of
  flaw_first m n t us l r = ap flaw_of (sym (append-nil (shown p t us))) ∙ flaw_then m n t us [] l r (each_none (From n)) ∙ or_none (first t us)

-- where no number is shown there is no fault; else the lowest fault is that number at that place
module _ {X : Type 0} (p : ℕ) (worse : Refusal → X) (x : X) where
  pub flaw_none : (xs : List Refusal) → Each (Placed p) xs → flaw_of xs ≡ 0 → unless xs worse x ≡ x
  unfolding flaw_of unless Each
  flaw_none [] g e = refl
  flaw_none (y ∷ ys) g e = let h = each_lowest (Placed p) ys y g.0 g.1 in absurd (omega (arith, h.1))

  pub flaw_some : (xs : List Refusal) → Each (Placed p) xs → (flaw_of xs ≡ 0 → ⊥) → unless xs worse x ≡ worse (refusal (flaw_of xs) p)
  unfolding flaw_of unless Each
  flaw_some [] g e = absurd (e refl)
  flaw_some (y ∷ ys) g e = let h = each_lowest (Placed p) ys y g.0 g.1 in ap (λ (q : ℕ). worse (refusal (lowest y ys).number q)) h.0

flaw_empty : (p : ℕ) (xs : List Refusal) → Each (Placed p) xs → flaw_of xs ≡ 0 → xs ≡ []
unfolding flaw_of Each
flaw_empty p [] g e = refl
flaw_empty p (y ∷ ys) g e = let h = each_lowest (Placed p) ys y g.0 g.1 in absurd (omega (arith, h.1))

-- what is beyond a header's size has a place and a number
pub beyond_placed : (p : ℕ) (xs : List Refusal) → Each (Beyond p) xs → Each (Placed p) xs
beyond_placed p xs g = each_so (Beyond p) (Placed p) (λ x b. (b.0, omega (arith, b.1))) xs g

-- what a header's size shows, as tests: under its own header, past its container
module _ (end : ℕ) (h : Header) where
  abbrev under : Test
  under = (ltb h.size h.head, 4)

  abbrev past : Test
  past = (ltb end (h.pos + h.size), 5)

  pub size_tests : flaw_of (size_faults end h) ≡ first under (past ∷ [])
  size_tests = flaw_first h.pos 4 5 under (past ∷ []) (omega arith) (omega arith)

  -- it is shown before all that is beyond it
  module _ (ys : List Refusal) (g : Each (Beyond h.pos) ys) where
    pub all_placed : Each (Placed h.pos) (size_faults end h ++ ys)
    all_placed =
        each_append (Placed h.pos) _ _ (shown_each h.pos (Placed h.pos) 4 5 under (past ∷ []) (λ k a b. (refl, omega arith)) (omega arith))
        (beyond_placed h.pos ys g)

    pub all_flaws : flaw_of (size_faults end h ++ ys) ≡ pick (eqb (flaw_of (size_faults end h)) 0) (flaw_of ys) (flaw_of (size_faults end h))
    all_flaws = rw size_tests (flaw_then h.pos 4 5 under (past ∷ []) ys (omega arith) (omega arith) (each_so _ _ (λ x b. omega (arith, b.1)) ys g))

    -- a header that shows no number ends within its container, and is no shorter than its own header
    pub flawless : flaw_of (size_faults end h ++ ys) ≡ 0 → (h.head ≤ h.size) × (h.pos + h.size ≤ end)
    flawless e =
        let z = none_first (size_faults end h) ys (flaw_empty h.pos _ all_placed e) in (
          ltb-false _ _ (shows_none under.0 4 h.pos (none_first _ _ z)),
          ltb-false _ _ (shows_none past.0 5 h.pos (none_second (shows under.0 4 h.pos) _ z)),
        )

  pub size_clean : flaw_of (size_faults end h) ≡ 0 → (h.head ≤ h.size) × (h.pos + h.size ≤ end)
  size_clean e = flawless [] (each_none (Beyond h.pos)) (rw append-nil e)

-- what its length shows: a `styp`, and a `sidx`, with a length that it may not have
module _ (h : Header) where
  abbrev styp_off : Test
  styp_off = (is h styp && (ltb (body_length h) 8 || not (eqb (body_length h % 4) 0)), 6)

  abbrev sidx_off : Test
  sidx_off = (is h sidx && ltb (body_length h) 24, 6)

  pub length_tests : flaw_of (top_lengths h) ≡ first styp_off (sidx_off ∷ [])
  unfolding top_lengths
  length_tests = flaw_first h.pos 6 6 styp_off (sidx_off ∷ []) (omega arith) (omega arith)

  pub length_beyond : Each (Beyond h.pos) (top_lengths h)
  unfolding top_lengths
  length_beyond = shown_each h.pos (Beyond h.pos) 6 6 styp_off (sidx_off ∷ []) (λ k a b. (refl, omega arith, omega arith)) (omega arith)

  -- what its length shows, and else another number
  abbrev pub length_or : ℕ → ℕ
  length_or other = pick (eqb (flaw_of (top_lengths h)) 0) other (flaw_of (top_lengths h))

  -- what its length shows, and else its type by tests with numbers from 6 to 17
  module _ (v : Test) (vs : List Test) (r : Rising 6 17 v vs) where
    pub kind_flaws : flaw_of (top_lengths h ++ shown h.pos v vs) ≡ length_or (first v vs)
    unfolding top_lengths
    kind_flaws =
        rw (length_tests, ← flaw_first h.pos 6 17 v vs (omega arith) r)
        (flaw_then h.pos 6 6 styp_off (sidx_off ∷ []) (shown h.pos v vs) (omega arith) (omega arith) (shown_each h.pos (From 6) 6 17 v vs (λ k a b. a) r))

    pub kind_beyond : Each (Beyond h.pos) (top_lengths h ++ shown h.pos v vs)
    kind_beyond = each_append (Beyond h.pos) _ _ length_beyond (shown_each h.pos (Beyond h.pos) 6 17 v vs (λ k a b. (refl, a, b)) r)

-- by its size, by its length, and else another number
after_size : (s t other : ℕ) (none : Bool) → eqb s 0 ≡ none → pick none (pick (eqb t 0) other t) s ≡ pick (eqb (pick none t s) 0) other (pick none t s)
unfolding pick
after_size s t other true e = refl
after_size s t other false e = sym (pick_no (eqb s 0) other s e)

module _ (end : ℕ) (h : Header) where
  pub size_or_length : (other : ℕ) → pick (eqb (flaw_of (size_faults end h)) 0) (length_or h other) (flaw_of (size_faults end h))
      ≡ pick (eqb (flaw_of (size_faults end h ++ top_lengths h)) 0) other (flaw_of (size_faults end h ++ top_lengths h))
  size_or_length other = rw (all_flaws end h (top_lengths h) (length_beyond h)) (after_size (flaw_of (size_faults end h)) (flaw_of (top_lengths h)) other _ refl)

  pub header_flaws : (ys : List Refusal) (other : ℕ) → Each (Beyond h.pos) ys → flaw_of ys ≡ length_or h other →
      flaw_of (size_faults end h ++ ys) ≡ pick (eqb (flaw_of (size_faults end h ++ top_lengths h)) 0) other (flaw_of (size_faults end h ++ top_lengths h))
  header_flaws ys other g e = rw (all_flaws end h ys g, e) (size_or_length other)
