-- What the library gives of parts of a list, and of the four levels.
use Rattle.std.proofs.Common.{◌≡◌, ℕ, ◌<◌, Bool, true, false, ◌↔◌, List, [], Bor, refl, arith, sym, subst, ◌∙◌, get_or, MatchBool}
use mathlib.Core.Bool.{false≢true}
use Rattle.std.proofs.Math.Bool.{and-false}
use mathlib.Core.Logic.{inl, inr}
use borrow.Author.Tests.{le-leb, lt-leb}
use Rattle.std.specs.List.{PartBy, AllWithin, HoldsAt, range_with_len}
use Rattle.std.proofs.lemmas.List.FromFn.{get_or-range_with_len}
use Rattle.std.specs.Option.{unwrap_or}
use Rattle.std.specs.declared.option.Option.{Option}
use Rattle.std.specs.declared.option.Option.TheVariants.{Some, None}
use Rattle.basics.specs.Choose.{pick}
use Rattle.cases_data.specs.Parts.{bytes_from}

-- what `get` gives of a part, or else what stands for none
pub part_or_none :
    (xs : List ℕ) (from to : ℕ) (r : Option (Bor (List ℕ))) (none given : Bor (List ℕ))
    → none.now ≡ []
    → PartBy (λ (x : Bor (List ℕ)). x.now) xs from to r
    → given ≡ unwrap_or r none
    → given.now ≡ bytes_from xs from to
unfolding bytes_from pick
part_or_none xs from to (Some x) none given e part is = rw is (simp (le-leb _ _ part.0.0, le-leb _ _ part.0.1) part.0.2)
part_or_none xs from to None none given e (inl h, all) is = rw is (simp (lt-leb _ _ h, and-false) e)
part_or_none xs from to None none given e (inr h, all) is = rw is (simp (lt-leb _ _ h) e)

module _ (P : ℕ → Type 0) where
  level_at : (level : ℕ) → level < 4 → get_or (range_with_len 0 4) level 0 ≡ level
  level_at level lt = get_or-range_with_len 0 4 level 0 lt ∙ omega arith

  -- what a call of `all` on the four levels says of each
  pub each_level :
      (r : Bool)
      → MatchBool r (AllWithin P (range_with_len 0 4) 0 4) ((k : ℕ) × (k < 4) × HoldsAt (λ level. P level → ⊥) (range_with_len 0 4) k)
      → (r ≡ true) ↔ ((level : ℕ) → level < 4 → P level)
  each_level true h = (λ _ level lt. subst P (level_at level lt) (h level 0 (omega arith) lt), λ _. refl)
  each_level false h = (
    λ e. absurd (false≢true e),
    λ all. absurd (h.2 0 (subst P (sym (level_at h.0 h.1)) (all h.0 h.1))),
  )
