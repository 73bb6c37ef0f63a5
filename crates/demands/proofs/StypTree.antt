-- A `styp` by structure says what the tree's `styp` says.
use Prim.Native.Nat.{ℕ, zero, suc, ◌+◌, ◌-◌, ◌*◌, ◌/◌, ◌%◌, ◌≤◌, ◌<◌}
use mathlib.Core.Path.{◌≡◌, refl, ap, sym, ◌∙◌}
use mathlib.Core.List.{List, [], ◌∷◌, ◌++◌}
use mathlib.Core.Option.{Option, some, none}
use mathlib.Core.Bool.{Bool, true, false, not, ◌||◌}
use native.Mathlib.Omega.{arith}
use mathlib.Core.Logic.{◌⊎◌, inl, inr}
use lib.ListN.{length, take, drop, length-append, length-drop}
use lib.Dec.{eqb, ltb}
use borrow.Author.Tests.{eqb-true, eq-eqb, ne_eqb, ltb-true, ltb-false}
use Rattle.basics.specs.Choose.{pick, and_then}
use Rattle.basics.specs.Bytes.{number}
use Rattle.basics.proofs.Picks.{pick_yes, pick_no, pick_if, lt_or_ge}
use Rattle.basics.proofs.Tests.{same_test}
use Rattle.basics.proofs.Options.{then_cong, then_assoc}
use Rattle.segment.specs.Boxes.{among, Field, field, words, styp_brands}
use Rattle.machine.specs.Run.{Res, okay, field_d, plain}
use Rattle.state.specs.declared.Span.{Span}
use Rattle.state.specs.Flow.{Flow, Left, left}
use Rattle.state.specs.Opening.{OpeningGave, passed, unlisted}
use Rattle.descent.specs.Opening.{brands_d, styp_d}
use Rattle.demands.specs.Told.{upon, clean}
use Rattle.segment.proofs.Said.{then_goes, field_some, field_none}
use Rattle.demands.proofs.Upons.{upon_here, upon_unless, clean_shows, upon_field, upon_few}

-- which of two numbers is named first does not matter
eqb_sym : (a b : ℕ) → eqb a b ≡ eqb b a
eqb_sym a b = same_test a b b a sym sym

-- a brand found before, or here, or later
found_more : (found here : Bool) (more : Bool) → (found || here) || more ≡ found || pick here true more
unfolding pick
found_more true here more = refl
found_more false true more = refl
found_more false false more = refl

-- a number that is cut off, or after which nothing is accepted
pub field_cut : {R X : Type 0} (k : ℕ → Flow → ℕ → List ℕ → Res R Flow Left) (h : R → Flow → ℕ → List ℕ → Option X) (m : ℕ) (f : Flow) (n : ℕ) (bs : List ℕ) →
    ((v : ℕ) → m ≤ length bs → upon (k v f (n + m) (drop m bs)) h ≡ none) → upon (field_d left plain k m 0 f n bs) h ≡ none
field_cut k h m f n bs e = by (lt_or_ge (length bs) m)
  where
    by : (length bs < m) ⊎ (m ≤ length bs) → upon (field_d left plain k m 0 f n bs) h ≡ none
    by (inl s) = upon_few k h m f n bs s
    by (inr s) = upon_field k h m f n bs s ∙ e (number (take m bs)) s

-- the brands of a `styp` that has its two first numbers and is whole numbers
styp_words : (xs : List ℕ) → 8 ≤ length xs → length xs % 4 ≡ 0 → styp_brands xs ≡ words (length (drop 4 (drop 4 xs)) / 4) (drop 4 (drop 4 xs))
unfolding styp_brands and_then
styp_words xs l m =
    pick_yes (eqb (length xs % 4) 0) _ none (eq-eqb (length xs % 4) 0 m)
    ∙ then_goes (field 4 xs) _ _ (field_some 4 xs (omega arith)) ∙ then_goes (field 4 (drop 4 xs)) _ _ (field_some 4 (drop 4 xs) (omega (arith, length-drop 4 xs)))

-- a `styp` without its two first numbers says nothing
styp_few : (xs : List ℕ) → length xs < 8 → styp_brands xs ≡ none
unfolding styp_brands and_then
styp_few xs l = pick_if (eqb (length xs % 4) 0) (λ o. o) _ _ none (λ e. by (lt_or_ge (length xs) 4)) (λ e. refl)
  where
    by : (length xs < 4) ⊎ (4 ≤ length xs) →
        and_then (field 4 xs) (λ major. and_then (field 4 major.rest) (λ minor. words (length minor.rest / 4) minor.rest)) ≡ none
    by (inl s) = field_none 4 xs _ s
    by (inr s) = then_goes (field 4 xs) _ _ (field_some 4 xs s) ∙ field_none 4 (drop 4 xs) _ (omega (arith, length-drop 4 xs))

-- nor does one that is not whole numbers
styp_odd : (xs : List ℕ) → eqb (length xs % 4) 0 ≡ false → styp_brands xs ≡ none
unfolding styp_brands
styp_odd xs e = pick_no (eqb (length xs % 4) 0) _ none e

-- a body that no `styp` has
abbrev pub misfit : ℕ → Bool
misfit n = ltb n 8 || not (eqb (n % 4) 0)

module _ {X : Type 0} (brand : ℕ) (span : Span) (f : Flow) (k : OpeningGave → Flow → ℕ → List ℕ → Option X) where
  -- at the end of the `styp`: the brand must have been found
  at_end : (found : Bool) (n : ℕ) (ys : List ℕ) → n ≡ span.end → pick (clean (unlisted span found)) (k passed f n ys) none ≡ pick (found || false) (k passed f span.end ys) none
  unfolding pick
  at_end true n ys e = rw (clean_shows false 8 span.pos, e)
  at_end false n ys e = rw (clean_shows true 8 span.pos)

  -- so many compatible brands, to the end
  brands_tree : (c turns : ℕ) (found : Bool) (n : ℕ) (zs ys : List ℕ) → length zs ≡ 4 * c → n + length zs ≡ span.end → c < turns →
      upon (brands_d turns brand span found f n (zs ++ ys)) k ≡ and_then (words c zs) (λ ws. pick (found || among brand ws) (k passed f span.end ys) none)
  unfolding brands_d words and_then among upon
  brands_tree zero zero found n zs ys l e t = absurd (omega arith)
  brands_tree (suc c) zero found n zs ys l e t = absurd (omega arith)
  brands_tree zero (suc turns) found n [] ys l e t =
      ap (λ (r : Res OpeningGave Flow Left). upon r k) (pick_yes (eqb n span.end) _ _ (eq-eqb n span.end (omega arith)))
      ∙ upon_unless (unlisted span found) (left f) n (okay passed f n ys) k
      ∙ at_end found n ys (omega arith)
  brands_tree zero (suc turns) found n (z ∷ zs) ys l e t = absurd (omega arith)
  brands_tree (suc c) (suc turns) found n zs ys l e t =
      let v = number (take 4 zs) in
      ap (λ (r : Res OpeningGave Flow Left). upon r k) (pick_no (eqb n span.end) _ _ (ne_eqb n span.end (λ q. omega arith)))
      ∙ upon_here (λ v g m cs. brands_d turns brand span (found || eqb v brand) g m cs) k 4 f n zs ys (omega arith)
      ∙ brands_tree c turns (found || eqb v brand) (n + 4) (drop 4 zs) ys (omega (arith, length-drop 4 zs)) (omega (arith, length-drop 4 zs)) (omega arith)
      ∙ then_cong (words c (drop 4 zs)) _ _
      (λ ws q. ap (λ (b : Bool). pick b (k passed f span.end ys) none) (ap (λ b. (found || b) || among brand ws) (eqb_sym v brand) ∙ found_more found (eqb brand v) (among brand ws)))
      ∙ sym (then_assoc (words c (drop 4 zs)) (λ more. some (v ∷ more)) (λ ws. pick (found || among brand ws) (k passed f span.end ys) none))
      ∙ ap (λ (o : Option Field). and_then (and_then o (λ word. and_then (words c word.rest) (λ more. some (word.value ∷ more))))
      (λ ws. pick (found || among brand ws) (k passed f span.end ys) none))
      (sym (field_some 4 zs (omega arith)))

  -- a `styp` whose body is all there, has its two first numbers, and is whole numbers
  pub styp_tree : (n : ℕ) (xs ys : List ℕ) → n + length xs ≡ span.end → 8 ≤ length xs → length xs % 4 ≡ 0 →
      upon (styp_d brand span f n (xs ++ ys)) k ≡ and_then (styp_brands xs) (λ brands. pick (among brand brands) (k passed f span.end ys) none)
  unfolding styp_d styp_brands and_then
  styp_tree n xs ys e l m =
      let zs = drop 4 (drop 4 xs) in
      let lz : length zs ≡ length xs - 8 = omega (arith, length-drop 4 xs, length-drop 4 (drop 4 xs)) in
      upon_here (λ major g m cs. field_d left plain (λ minor h k ds. brands_d (suc (length ds)) brand span false h k ds) 4 0 g m cs) k 4 f n xs ys (omega arith)
      ∙ upon_here (λ minor h k ds. brands_d (suc (length ds)) brand span false h k ds) k 4 f (n + 4) (drop 4 xs) ys (omega (arith, length-drop 4 xs))
      ∙ brands_tree (length zs / 4) (suc (length (zs ++ ys))) false (n + 4 + 4) zs ys (omega arith) (omega arith) (omega (arith, length-append zs ys))
      ∙ ap (λ (o : Option (List ℕ)). and_then o (λ brands. pick (among brand brands) (k passed f span.end ys) none)) (sym (styp_words xs l m))

  -- a `styp` whose body is all there
  pub styp_checked : (n : ℕ) (xs ys : List ℕ) → n + length xs ≡ span.end →
      pick (not (misfit (length xs))) (upon (styp_d brand span f n (xs ++ ys)) k) none ≡ and_then (styp_brands xs) (λ brands. pick (among brand brands) (k passed f span.end ys) none)
  unfolding pick and_then
  styp_checked n xs ys e = by (ltb (length xs) 8) refl (eqb (length xs % 4) 0) refl
    where
      by : (s : Bool) → ltb (length xs) 8 ≡ s → (t : Bool) → eqb (length xs % 4) 0 ≡ t →
          pick (not (s || not t)) (upon (styp_d brand span f n (xs ++ ys)) k) none ≡ and_then (styp_brands xs) (λ brands. pick (among brand brands) (k passed f span.end ys) none)
      by true p t q = rw (styp_few xs (ltb-true (length xs) 8 p))
      by false p true q = styp_tree n xs ys e (ltb-false (length xs) 8 p) (eqb-true (length xs % 4) 0 q)
      by false p false q = rw (styp_odd xs q)

  -- compatible brands that are cut off
  brands_cut : (turns : ℕ) (found : Bool) (n : ℕ) (bs : List ℕ) → n + length bs < span.end → upon (brands_d turns brand span found f n bs) k ≡ none
  unfolding brands_d upon
  brands_cut zero found n bs l = refl
  brands_cut (suc turns) found n bs l =
      ap (λ (r : Res OpeningGave Flow Left). upon r k) (pick_no (eqb n span.end) _ _ (ne_eqb n span.end (λ q. omega arith)))
      ∙ field_cut (λ v g m cs. brands_d turns brand span (found || eqb v brand) g m cs) k 4 f n bs
      (λ v e. brands_cut turns (found || eqb v brand) (n + 4) (drop 4 bs) (omega (arith, length-drop 4 bs)))

  -- a `styp` that is cut off
  pub styp_cut : (n : ℕ) (bs : List ℕ) → n + length bs < span.end → upon (styp_d brand span f n bs) k ≡ none
  unfolding styp_d
  styp_cut n bs l =
      field_cut (λ major g m cs. field_d left plain (λ minor h k ds. brands_d (suc (length ds)) brand span false h k ds) 4 0 g m cs) k 4 f n bs
      (λ v e. field_cut (λ minor h k ds. brands_d (suc (length ds)) brand span false h k ds) k 4 f (n + 4) (drop 4 bs)
      (λ u e'. brands_cut (suc (length (drop 4 (drop 4 bs)))) false (n + 4 + 4) (drop 4 (drop 4 bs)) (omega (arith, length-drop 4 bs, length-drop 4 (drop 4 bs)))))
