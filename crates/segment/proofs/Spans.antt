-- Things with a place and a length that lie end to end: every place between the first and the last belongs to exactly one of them.
use Prim.Native.Nat.{ℕ, zero, suc, ◌+◌, ◌≤◌, ◌<◌}
use mathlib.Core.Path.{◌≡◌, refl, sym, ap, subst}
use mathlib.Core.List.{List, [], ◌∷◌, ◌++◌}
use mathlib.Core.Logic.{◌⊎◌, inl, inr}
use mathlib.Core.Option.{some-injective, none-ne-some}
use native.Mathlib.Omega.{arith}
use Rattle.basics.proofs.Picks.{lt_or_ge}
use Rattle.segment.specs.Parts.{At, One}

module _ {A : Type 0} (at len : A → ℕ) where
  -- the first stands at `from`, each next one where the last ended, and the last ends at `to`
  abbrev pub EndToEnd : ℕ → List A → ℕ → Type 0
  EndToEnd from [] to = from ≡ to
  EndToEnd from (a ∷ xs) to = (at a ≡ from) × EndToEnd (from + len a) xs to

  abbrev pub Has : ℕ → A → Type 0
  Has n a = (at a ≤ n) × (n < at a + len a)

  pub end_on : (xs bs : List A) (x y z : ℕ) → EndToEnd x xs y → EndToEnd y bs z → EndToEnd x (xs ++ bs) z
  end_on [] bs x y z f g = subst (λ (k : ℕ). EndToEnd k bs z) (sym f) g
  end_on (a ∷ xs) bs x y z f g = (f.0, end_on xs bs (x + len a) y z f.1 g)

  forward : (xs : List A) (from to : ℕ) → EndToEnd from xs to → from ≤ to
  forward [] from to f = omega arith
  forward (a ∷ xs) from to f = let rest = forward xs (from + len a) to f.1 in omega arith

  -- none reaches outside
  pub inside : (xs : List A) (from to : ℕ) → EndToEnd from xs to → (i : ℕ) (a : A) → At xs i a → (from ≤ at a) × (at a + len a ≤ to)
  inside [] from to f i a h = absurd (none-ne-some a h)
  inside (b ∷ xs) from to f zero a h =
      let same = some-injective _ _ h in
      let rest = forward xs (from + len b) to f.1 in
      subst (λ (c : A). (from ≤ at c) × (at c + len c ≤ to)) same (omega arith)
  inside (b ∷ xs) from to f (suc i) a h = let rest = inside xs (from + len b) to f.1 i a h in omega arith

  -- each place between is in exactly one
  pub one_has : (xs : List A) (from to : ℕ) → EndToEnd from xs to → (n : ℕ) → from ≤ n → n < to → One (Has n) xs
  one_has [] from to f n low high = absurd (omega arith)
  one_has (a ∷ xs) from to f n low high = by_end (lt_or_ge n (from + len a)) (one_has xs (from + len a) to f.1 n)
    where
      by_end : (n < from + len a) ⊎ (from + len a ≤ n) → (from + len a ≤ n → n < to → One (Has n) xs) → One (Has n) (a ∷ xs)
      by_end (inl before) later = record { place = 0; item = a; there = refl; has = omega arith; only = alone }
        where
          alone : (i : ℕ) (b : A) → At (a ∷ xs) i b → Has n b → i ≡ 0
          alone zero b h k = refl
          alone (suc i) b h k = let past = inside xs (from + len a) to f.1 i b h in absurd (omega arith)
      by_end (inr after) later =
          let found = later after high in
          record { place = suc found.place; item = found.item; there = found.there; has = found.has; only = alone found }
        where
          alone : (found : One (Has n) xs) (i : ℕ) (b : A) → At (a ∷ xs) i b → Has n b → i ≡ suc found.place
          alone found zero b h k = let same = ap at (some-injective _ _ h) in let alike = ap len (some-injective _ _ h) in absurd (omega arith)
          alone found (suc i) b h k = ap suc (found.only i b h k)

-- the one that has a property has another that comes to the same
pub one_alike : {A : Type 0} (P Q : A → Type 0) (xs : List A) → ((a : A) → P a → Q a) → ((a : A) → Q a → P a) → One P xs → One Q xs
one_alike P Q xs to fro o =
    record { place = o.place; item = o.item; there = o.there; has = to o.item o.has; only = λ i a h q. o.only i a h (fro a q) }

-- All of a list have a property: of two lists one after the other, and of the one at a place.
abbrev pub All : {A : Type 0} → (A → Type 0) → List A → Type 0
All K [] = Unit {0}
All K (a ∷ xs) = K a × All K xs

pub all_both : {A : Type 0} (K : A → Type 0) (xs ys : List A) → All K xs → All K ys → All K (xs ++ ys)
all_both K [] ys h g = g
all_both K (a ∷ xs) ys h g = (h.0, all_both K xs ys h.1 g)

pub all_at : {A : Type 0} (K : A → Type 0) (xs : List A) → All K xs → (i : ℕ) (a : A) → At xs i a → K a
all_at K [] h i a e = absurd (none-ne-some a e)
all_at K (b ∷ xs) h zero a e = subst K (some-injective _ _ e) h.0
all_at K (b ∷ xs) h (suc i) a e = all_at K xs h.1 i a e
