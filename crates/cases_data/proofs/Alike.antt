-- What two tests decide that are joined by "and"; and two lists that are alike as far as one of them goes.
use Rattle.std.proofs.Common.{◌≡◌, ℕ, ◌≤◌, Bool, true, false, ◌↔◌, List, length, take, sym, ap, ◌∙◌, subst}
use mathlib.Core.Bool.{true≢false, false≢true}
use lib.Seq.{take_all}

-- two tests joined: with the first one met the second decides, and with the first one failed nothing is left to decide
pub both_taken : {P Q : Type 0} (r s x : Bool) → ((r ≡ true) ↔ P) → ((s ≡ true) ↔ Q) → r ≡ true → x ≡ s → (x ≡ true) ↔ (P × Q)
both_taken r s x p q e k = (λ t. (p.0 e, q.0 (sym k ∙ t)), λ w. k ∙ q.1 w.1)

pub both_left : {P Q : Type 0} (r x : Bool) → ((r ≡ true) ↔ P) → r ≡ false → x ≡ false → (x ≡ true) ↔ (P × Q)
both_left r x p e k = (λ t. absurd (false≢true (sym k ∙ t)), λ w. absurd (true≢false (sym (p.1 w.0) ∙ e)))

-- lists that are alike in as many first elements as one of them has
pub alike_full : (a b : List ℕ) (n : ℕ) → length a ≤ n → ((length a ≡ length b) × (take n a ≡ take n b)) ↔ (a ≡ b)
alike_full a b n h = (
  λ w. sym (take_all n a h) ∙ w.1 ∙ take_all n b (subst (λ k. k ≤ n) w.0 h),
  λ e. (ap length e, ap (take n) e),
)
