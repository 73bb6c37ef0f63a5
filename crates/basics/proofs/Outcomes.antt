-- Answers that look alike are one.
use mathlib.Core.Path.{◌≡◌, sym, ap, ◌∙◌}

-- what is had back from what two answers look like is equal where these are
pub left_inverse_equal : {A B : Type 0} (seen : B → A) {x y : B} {a b : A} → seen x ≡ a → seen y ≡ b → x ≡ y → a ≡ b
left_inverse_equal seen p q e = sym p ∙ ap seen e ∙ q
