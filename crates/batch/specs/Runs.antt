-- How far two lists are alike from a place on, or differ at each place.
use Rattle.std.specs.Prelude.{ℕ, ◌≤◌, ◌<◌, ◌≡◌, List, Bool, not, length, get_or}

-- whether the two hold the same at a place; `d` stands for what is behind their ends
abbrev pub same_at : {A : Type 0} → (A → A → Bool) → List A → List A → A → ℕ → Bool
same_at same old new d j = same (get_or old j d) (get_or new j d)

-- up to `to` the two are as told, and at `to` not, if there is such a place
pub record RunTo {A : Type 0} (same : A → A → Bool) (old new : List A) (from : ℕ) (alike : Bool) (to : ℕ) : Type 0 where
  pub on : from ≤ to
  pub inside : to ≤ length new
  pub all : (d : A) (j : ℕ) → from ≤ j → j < to → same_at same old new d j ≡ alike
  pub ends : (d : A) → to < length new → same_at same old new d to ≡ not alike
