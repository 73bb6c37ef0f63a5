-- The contracts of `lookup` and `look_accepted` themselves, as the check reads them: each asks nothing, and two outcomes that it allows coincide.
use Rattle.std.specs.Prelude.{Result, Ok, Err}
use Rattle.machine.specs.declared.Refusal.{Refusal}
use Prim.Native.Nat.{ℕ, ◌+◌, ◌/◌}
use mathlib.Core.Path.{◌≡◌, refl, sym, ap, ◌∙◌}
use mathlib.Core.List.{List}
use native.Mathlib.Omega.{arith}
use Rattle.basics.specs.Outcome.{OneOutcome}
use Rattle.table.specs.Table.{record_numbers}
use Rattle.lookup.specs.Spots.{Spots}
use Rattle.lookup.proofs.lookup.Kinds as kinds
use Rattle.lookup.proofs.lookup.Reads as stated
use Rattle.lookup.proofs.look_accepted.Kinds as accepted-kinds
use Rattle.lookup.proofs.look_accepted.Reads as accepted-stated
use Rattle.covering.specs.declared.Leaf.{Leaf}

-- of one state, table and time: one answer; all three stay as they were
pub lookup_once : OneOutcome 1 kinds.ps kinds.r stated.Pre stated.Post
lookup_once = record {
  asks_nothing = λ κs given. tt;
  outcomes_coincide = λ κs given r r' left left' p q. (p ∙ sym q, refl);
}

-- a found leaf's number, and the number of a refusal
leaf_in : Result Leaf Refusal → ℕ
leaf_in (Ok l) = l.number
leaf_in (Err x) = 0

number_in : Result Leaf Refusal → ℕ
number_in (Ok l) = 0
number_in (Err x) = x.number

-- one answer has one spot
one_spot : (table : List ℕ) (a : Result Leaf Refusal) (r r' : Result ℕ ℕ) → Spots table a r → Spots table a r' → r ≡ r'
unfolding leaf_in number_in
one_spot table a (Ok at) (Ok at') p q =
    let one : at / record_numbers + 1 ≡ at' / record_numbers + 1 = ap leaf_in (p.1 ∙ sym q.1) in
    let starts = p.0.starts in
    let starts' = q.0.starts in
    ap (λ (k : ℕ). Ok k) (omega arith)
one_spot table a (Ok at) (Err n) p q = let one : at / record_numbers + 1 ≡ 0 = ap leaf_in (p.1 ∙ sym q) in absurd (omega arith)
one_spot table a (Err n) (Ok at) p q = let one : 0 ≡ at / record_numbers + 1 = ap leaf_in (p ∙ sym q.1) in absurd (omega arith)
one_spot table a (Err n) (Err n') p q = ap (λ (k : ℕ). Err k) (ap number_in (p ∙ sym q))

-- of the numbers of one accepted state, one table and one time: one spot; the table stays as it was
pub look_accepted_once : OneOutcome 1 accepted-kinds.ps accepted-kinds.r accepted-stated.Pre accepted-stated.Post
look_accepted_once = record {
  asks_nothing = λ κs given. tt;
  outcomes_coincide = λ κs given r r' left left' p q. (one_spot _ _ r r' p q, refl);
}
