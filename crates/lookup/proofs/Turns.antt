-- A pass over the records, whatever the time: what the records from the i-th on come to is what all come to.
use Rattle.std.specs.Prelude.{Ok}
use Prim.Native.Nat.{ℕ, suc, ◌+◌, ◌-◌, ◌*◌, ◌/◌, ◌≤◌, ◌<◌}
use mathlib.Core.Path.{◌≡◌, sym, ap, subst, ◌∙◌}
use mathlib.Core.List.{List}
use mathlib.Core.Bool.{Bool, true, false}
use mathlib.Core.Option.{Option}
use native.Mathlib.Omega.{arith}
use native.Mathlib.Numerals.{add-one}
use Rattle.basics.proofs.Picks.{pick_yes, pick_no}
use lib.ListN.{length}
use Rattle.table.specs.Table.{record_numbers, record_at}
use Rattle.moment.specs.Moments.{Moment}
use Rattle.covering.specs.Lookup.{record_covers, covering_from, outside, found, look_in, the_leaf}
use Rattle.lookup.specs.Spots.{record_from, Spots}

-- the records from the i-th of so many on come to what all come to
abbrev pub Rest : ℕ → List ℕ → Moment → ℕ → Type 0
Rest leaves table t i = found leaves table t (covering_from (leaves - i) i table t) ≡ look_in leaves table t

module _ (leaves : ℕ) (table : List ℕ) (t : Moment) where
  pub first_turn : Rest leaves table t 0
  first_turn = let e : leaves - 0 ≡ leaves = omega arith in ap (λ (k : ℕ). found leaves table t (covering_from k 0 table t)) e

  module _ (i : ℕ) (rest : Rest leaves table t i) where
    -- the i-th record covers the time: it is the answer
    pub turn_found : i < leaves → record_covers (record_at table i) t ≡ true → Ok (the_leaf (i + 1) (record_at table i)) ≡ look_in leaves table t
    unfolding covering_from found
    turn_found h c =
        let e : leaves - i ≡ suc (leaves - (i + 1)) = omega arith in
        ap (λ (n : ℕ). Ok (the_leaf n (record_at table i))) (add-one i)
        ∙ sym (ap (λ (k : ℕ). found leaves table t (covering_from k i table t)) e
        ∙ ap (λ (o : Option ℕ). found leaves table t o) (pick_yes (record_covers (record_at table i) t) _ _ c))
        ∙ rest

    -- it does not: the rest begins after it
    pub turn_on : i < leaves → record_covers (record_at table i) t ≡ false → Rest leaves table t (i + 1)
    unfolding covering_from
    turn_on h c =
        let e : leaves - i ≡ suc (leaves - (i + 1)) = omega arith in
        sym (ap (λ (o : Option ℕ). found leaves table t o)
        (ap (λ (k : ℕ). covering_from k i table t) e
        ∙ pick_no (record_covers (record_at table i) t) _ _ c
        ∙ ap (λ (n : ℕ). covering_from (leaves - (i + 1)) n table t) (sym (add-one i))))
        ∙ rest

    -- no record is left
    pub last_turn : leaves ≤ i → outside leaves table t ≡ look_in leaves table t
    unfolding covering_from found
    last_turn h = let e : leaves - i ≡ 0 = omega arith in sym (ap (λ (k : ℕ). found leaves table t (covering_from k i table t)) e) ∙ rest

-- The same by places: a pass stands at the first number of a record, or behind the last.
pub record Stands (leaves : ℕ) (table : List ℕ) (t : Moment) (at : ℕ) : Type 0 where
  pub starts : record_numbers * (at / record_numbers) ≡ at
  pub within : at ≤ record_numbers * leaves
  pub rest : Rest leaves table t (at / record_numbers)

module _ (leaves : ℕ) (table : List ℕ) (t : Moment) where
  pub first_place : Stands leaves table t 0
  first_place = record { starts = omega arith; within = omega arith; rest = first_turn leaves table t }

  module _ (at : ℕ) (so : Stands leaves table t at) where
    -- the record whose first number stands there
    same_record : (b : Bool) → b ≡ record_covers (record_from table at) t → record_covers (record_at table (at / record_numbers)) t ≡ b
    unfolding record_at
    same_record b e = ap (λ (k : ℕ). record_covers (record_from table k) t) so.starts ∙ sym e

    pub place_found : record_numbers * leaves ≤ length table → at < record_numbers * leaves → true ≡ record_covers (record_from table at) t → Spots table (look_in leaves table t) (Ok at)
    place_found long h e =
        let starts = so.starts in
        (record { starts = starts; inside = omega arith }, turn_found leaves table t (at / record_numbers) so.rest (omega arith) (same_record true e))

    pub next_place : at < record_numbers * leaves → false ≡ record_covers (record_from table at) t → Stands leaves table t (at + record_numbers)
    next_place h e =
        let starts = so.starts in
        let on : at / record_numbers + 1 ≡ (at + record_numbers) / record_numbers = omega arith in
        record {
          starts = omega arith;
          within = omega arith;
          rest = subst (Rest leaves table t) on (turn_on leaves table t (at / record_numbers) so.rest (omega arith) (same_record false e));
        }

    pub last_place : record_numbers * leaves ≤ at → outside leaves table t ≡ look_in leaves table t
    last_place h = let starts = so.starts in last_turn leaves table t (at / record_numbers) so.rest (omega arith)
