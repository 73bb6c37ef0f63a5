-- What it is for characters to spell a number in decimal.
use Rattle.std.specs.Prelude.{ℕ, ◌+◌, ◌*◌, ◌-◌, ◌≤◌, ◌<◌, ◌≡◌, List, [], ◌∷◌, get_or}

-- the number that characters spell after those that spelled `n`, the most significant digit first
unfoldable pub spelled_from : ℕ → List ℕ → ℕ
spelled_from n [] = n
spelled_from n (c ∷ cs) = spelled_from (n * 10 + (c - 48)) cs

-- each character is a digit
abbrev pub Digits : List ℕ → Type 0
Digits [] = Unit {0}
Digits (c ∷ cs) = (48 ≤ c) × (c ≤ 57) × Digits cs

-- a number's text: digits that spell it, without a 0 in front; 0 is one digit
pub record Spells (n : ℕ) (text : List ℕ) : Type 0 where
  pub digits : Digits text
  pub same : spelled_from 0 text ≡ n
  pub fewest : 0 < n → 48 < get_or text 0 0
  pub nought : n ≡ 0 → text ≡ 48 ∷ []
