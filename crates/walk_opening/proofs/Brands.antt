-- The brands of a `styp`: whether one is among them, brand by brand, and what the descent makes of them.
use Prim.Native.Nat.{ℕ, zero, suc, ◌+◌, ◌-◌, ◌*◌, ◌/◌, ◌%◌, ◌≤◌, ◌<◌}
use mathlib.Core.Path.{◌≡◌, refl, ap, sym, ◌∙◌}
use mathlib.Core.List.{List, []}
use mathlib.Core.Bool.{Bool, true, false, not, ◌||◌}
use mathlib.Core.Logic.{◌⊎◌, inl, inr}
use native.Mathlib.Omega.{arith}
use lib.Dec.{eqb}
use lib.ListN.{length, get_or, take, drop, length-drop}
use lib.Seq.{drop-drop, take-take}
use borrow.Author.Tests.{eq-eqb, ne_eqb}
use Rattle.std.specs.Simd.{first_chunks}
use Rattle.std.proofs.lemmas.List.{length-take-le, drop-take}
use Rattle.basics.specs.Bytes.{number}
use Rattle.basics.specs.Choose.{pick}
use Rattle.basics.proofs.Picks.{lt_or_ge, pick_yes, pick_no}
use Rattle.machine.specs.Faults.{refusal}
use Rattle.machine.specs.Run.{Res, okay, fail, field_d, plain}
use Rattle.machine.proofs.Lowest.{unless_one}
use Rattle.state.specs.declared.Span.{Span}
use Rattle.state.specs.Flow.{Flow, Left, left}
use Rattle.state.specs.Opening.{OpeningGave, passed}
use Rattle.descent.specs.Opening.{brands_d, styp_d}
use Rattle.fields.specs.Answers.{number_at}
use Rattle.fields.specs.Onward.{ended, from}
use Rattle.fields.proofs.Descents.{field_there, field_ends_lem}
use Rattle.walk_opening.specs.Steps.{lists_brand}

module _ (brand : ℕ) (s : List ℕ) where
  -- from a position to an end
  abbrev pub Among : ℕ → ℕ → Bool
  Among at end = lists_brand brand s at ((end - at) / 4)

  pub among_first : (at end : ℕ) → at < end → (end - at) % 4 ≡ 0 → Among at end ≡ (eqb (number_at 4 s at) brand || Among (at + 4) end)
  unfolding lists_brand
  among_first at end before whole =
      let more : (end - at) / 4 ≡ suc ((end - (at + 4)) / 4) = omega arith in
      ap (lists_brand brand s at) more

  pub among_none : (at end : ℕ) → at ≡ end → Among at end ≡ false
  unfolding lists_brand
  among_none at end e = let none : (end - at) / 4 ≡ 0 = omega arith in ap (lists_brand brand s at) none

  -- one that is it, and one that is not
  module _ (at end word : ℕ) (before : at < end) (whole : (end - at) % 4 ≡ 0) (e : word ≡ number_at 4 s at) where
    pub among_found : word ≡ brand → true ≡ Among at end
    among_found same = sym (among_first at end before whole ∙ rw (eq-eqb (number_at 4 s at) brand (sym e ∙ same)))

    pub among_next : (word ≡ brand → ⊥) → Among (at + 4) end ≡ Among at end
    among_next other = sym (among_first at end before whole ∙ rw (ne_eqb (number_at 4 s at) brand (λ k. other (e ∙ k))))

-- the brands from one position to another, as chunks
chunk_at : (n k : ℕ) (xs : List ℕ) → k < n → get_or (first_chunks 4 n xs) k [] ≡ take 4 (drop (4 * k) xs)
chunk_at zero k xs h = absurd (omega arith)
chunk_at (suc n) zero xs h = refl
chunk_at (suc n) (suc k) xs h =
    let e : 4 + 4 * k ≡ 4 * suc k = omega arith in
    chunk_at n k (drop 4 xs) (omega arith) ∙ ap (take 4) (drop-drop (4 * k) 4 xs ∙ ap (λ (m : ℕ). drop m xs) e)

module _ (s : List ℕ) (from end : ℕ) (inside : end ≤ length s) where
  abbrev part : List ℕ
  part = take (end - from) (drop from s)

  pub part_long : length part ≡ end - from
  part_long = length-take-le (end - from) (drop from s) (omega (arith, length-drop from s))

  pub brand_at : (n k : ℕ) (brands : List (List ℕ)) → brands ≡ first_chunks 4 n part → k < n → 4 * n ≤ end - from →
      number_at 4 (get_or brands k []) 0 ≡ number_at 4 s (from + 4 * k)
  brand_at n k brands e h few =
      let q : end - from ≡ 4 * k + (end - from - 4 * k) = omega arith in
      let at : get_or brands k [] ≡ take 4 (drop (from + 4 * k) s) =
      ap (λ (z : List (List ℕ)). get_or z k []) e
      ∙ chunk_at n k part h
      ∙ ap (λ (m : ℕ). take 4 (drop (4 * k) (take m (drop from s)))) q
      ∙ ap (take 4) (drop-take (4 * k) (end - from - 4 * k) (drop from s))
      ∙ take-take 4 (end - from - 4 * k) (drop (4 * k) (drop from s)) (omega arith)
      ∙ ap (take 4) (drop-drop (4 * k) from s) in
      ap (λ (b : List ℕ). number (take 4 b)) at ∙ ap number (take-take 4 4 (drop (from + 4 * k) s) (omega arith))

-- either of three
or_assoc : (a b c : Bool) → ((a || b) || c) ≡ (a || (b || c))
or_assoc true b c = refl
or_assoc false b c = refl

or_none : (a : Bool) → (a || false) ≡ a
or_none true = refl
or_none false = refl

unlisted_not : {X : Type 0} (t : Bool) (x y : X) → pick (not t) x y ≡ pick t y x
unfolding pick
unlisted_not true x y = refl
unlisted_not false x y = refl

module _ (brand base : ℕ) (s : List ℕ) (f : Flow) (pos end : ℕ) where
  abbrev span : Span
  span = record { pos = base + pos; end = base + end }

  abbrev Gave : Type 0
  Gave = Res OpeningGave Flow Left

  -- the brand is listed, or it is not
  abbrev pub styp_end : Bool → Gave
  styp_end t = pick t (okay passed f (base + end) (drop end s)) (fail (refusal 8 (base + pos)) (left f) (base + end))

  abbrev brands_at : ℕ → Bool → ℕ → Gave
  brands_at turns listed at = brands_d turns brand span listed f (base + at) (drop at s)

  -- before the end
  brand_first : (turns : ℕ) (listed : Bool) (at : ℕ) → at < end →
      brands_at (suc turns) listed at
      ≡ from left base s f (field_d left plain (λ v g m cs. brands_d turns brand span (listed || eqb v brand) g m cs) 4 0) at
  unfolding brands_d
  brand_first turns listed at before = pick_no (eqb (base + at) (base + end)) _ _ (ne_eqb (base + at) (base + end) (λ e. omega arith))

  -- all bytes are there
  pub brands_there : (n turns : ℕ) (listed : Bool) (at : ℕ) → end ≤ length s → at + 4 * n ≡ end → n < turns →
      brands_at turns listed at ≡ styp_end (listed || lists_brand brand s at n)
  unfolding brands_d lists_brand
  brands_there n zero listed at there all enough = absurd (omega arith)
  brands_there zero (suc turns) listed at there all enough =
      let e : at ≡ end = omega arith in
      pick_yes (eqb (base + at) (base + end)) _ _ (eq-eqb (base + at) (base + end) (ap (λ (m : ℕ). base + m) e))
      ∙ unless_one (not listed) 8 (base + pos) (λ x. fail x (left f) (base + at)) (okay passed f (base + at) (drop at s))
      ∙ unlisted_not listed _ _
      ∙ ap (λ (m : ℕ). pick listed (okay passed f (base + m) (drop m s)) (fail (refusal 8 (base + pos)) (left f) (base + m))) e
      ∙ ap styp_end (sym (or_none listed))
  brands_there (suc n) (suc turns) listed at there all enough =
      brand_first turns listed at (omega arith)
      ∙ field_there left base s f _ 4 at (omega arith) (omega arith)
      ∙ brands_there n turns (listed || eqb (number_at 4 s at) brand) (at + 4) there (omega arith) (omega arith)
      ∙ ap styp_end (or_assoc listed (eqb (number_at 4 s at) brand) (lists_brand brand s (at + 4) n))

  -- the bytes end before the `styp` does
  pub brands_cut : (turns : ℕ) (listed : Bool) (at : ℕ) → length s < end → at ≤ length s → length s - at < turns → brands_at turns listed at ≡ ended left base s f
  unfolding brands_d
  brands_cut zero listed at gone here enough = absurd (omega arith)
  brands_cut (suc turns) listed at gone here enough =
      brand_first turns listed at (omega arith)
      ∙ at_length (λ h. brands_cut turns (listed || eqb (number_at 4 s at) brand) (at + 4) gone h (omega arith)) (lt_or_ge (length s) (at + 4))
    where
      at_length : (at + 4 ≤ length s → brands_at turns (listed || eqb (number_at 4 s at) brand) (at + 4) ≡ ended left base s f) →
          (length s < at + 4) ⊎ (at + 4 ≤ length s) →
          from left base s f (field_d left plain (λ v g m cs. brands_d turns brand span (listed || eqb v brand) g m cs) 4 0) at ≡ ended left base s f
      at_length more (inl h) = field_ends_lem left base s f _ 4 at here h
      at_length more (inr h) = field_there left base s f _ 4 at here h ∙ more h

  -- major brand and minor version before them
  module _ (at : ℕ) (here : at ≤ length s) where
    pub styp_there : end ≤ length s → at + 8 ≤ end → (end - at) % 4 ≡ 0 →
        from left base s f (styp_d brand span) at ≡ styp_end (lists_brand brand s (at + 8) ((end - (at + 8)) / 4))
    unfolding styp_d
    styp_there there long whole =
        let q : at + 4 + 4 ≡ at + 8 = omega arith in
        field_there left base s f _ 4 at here (omega arith)
        ∙ field_there left base s f _ 4 (at + 4) (omega arith) (omega arith)
        ∙ rw q (brands_there ((end - (at + 8)) / 4) (suc (length (drop (at + 8) s))) false (at + 8) there (omega arith) (omega (arith, length-drop (at + 8) s)))

    pub styp_cut : length s < end → from left base s f (styp_d brand span) at ≡ ended left base s f
    unfolding styp_d
    styp_cut gone = at_length (lt_or_ge (length s) (at + 4)) (lt_or_ge (length s) (at + 4 + 4))
      where
        at_length : (length s < at + 4) ⊎ (at + 4 ≤ length s) → (length s < at + 4 + 4) ⊎ (at + 4 + 4 ≤ length s) →
            from left base s f (styp_d brand span) at ≡ ended left base s f
        at_length (inl h) k = field_ends_lem left base s f _ 4 at here h
        at_length (inr h) (inl k) = field_there left base s f _ 4 at here h ∙ field_ends_lem left base s f _ 4 (at + 4) h k
        at_length (inr h) (inr k) =
            field_there left base s f _ 4 at here h
            ∙ field_there left base s f _ 4 (at + 4) h k
            ∙ brands_cut (suc (length (drop (at + 4 + 4) s))) false (at + 4 + 4) gone k (omega (arith, length-drop (at + 4 + 4) s))
