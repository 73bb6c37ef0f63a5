-- Laws of the pass over a table: whether a record covers whole ticks, by differences; and what is answered when none covers.
use Rattle.std.specs.Prelude.{Err}
use Prim.Native.Nat.{ℕ, zero, suc, ◌+◌, ◌-◌, ◌^◌, ◌≤◌, ◌<◌}
use mathlib.Core.Path.{◌≡◌, refl, ap, ◌∙◌}
use mathlib.Core.List.{List}
use mathlib.Core.Bool.{Bool, true, false, ◌&&◌}
use native.Mathlib.Omega.{arith}
use lib.Dec.{ltb}
use lib.ListN.{get_or}
use borrow.Author.Tests.{ltb-true, ltb-false, lt-leb, le-leb, le-ltb, lt-ltb}
use Rattle.basics.proofs.Picks.{pick_yes, pick_no}
use Rattle.table.specs.Table.{record_at}
use Rattle.machine.specs.Faults.{refusal}
use Rattle.table.specs.declared.Record.{Record}
use Rattle.covering.specs.Lookup.{record_covers, outside}
use Rattle.moment.specs.Moments.{Moment, tick, before}
use Rattle.moment.proofs.Whole.{reaches_tick, before_tick}

-- whole ticks before the start are not covered; from the start on they are where they are before the end
pub before_start : (r : Record) (t : ℕ) → t < r.start → record_covers r (tick t) ≡ false
unfolding record_covers
before_start r t h = ap (λ (c : Bool). c && before (tick t) (r.start + r.duration)) (reaches_tick t r.start ∙ lt-leb r.start t h)

pub from_start : (r : Record) (t : ℕ) → r.start ≤ t → record_covers r (tick t) ≡ ltb t (r.start + r.duration)
unfolding record_covers
from_start r t h =
    ap (λ (c : Bool). c && before (tick t) (r.start + r.duration)) (reaches_tick t r.start ∙ le-leb r.start t h) ∙ before_tick t (r.start + r.duration)

pub past_end : (r : Record) (t : ℕ) → r.start ≤ t → r.start + r.duration ≤ t → record_covers r (tick t) ≡ false
past_end r t from h = from_start r t from ∙ le-ltb t (r.start + r.duration) h

-- from its start on, by how long ago that was
pub since_start : (r : Record) (t : ℕ) → r.start ≤ t → record_covers r (tick t) ≡ ltb (t - r.start) r.duration
since_start r t from = from_start r t from ∙ at (ltb (t - r.start) r.duration) refl
  where
    at : (c : Bool) → ltb (t - r.start) r.duration ≡ c → ltb t (r.start + r.duration) ≡ c
    at true q = let l = ltb-true (t - r.start) r.duration q in lt-ltb t (r.start + r.duration) (omega arith)
    at false q = let l = ltb-false (t - r.start) r.duration q in le-ltb t (r.start + r.duration) (omega arith)

-- 2^64 and t, by what the duration has beyond the room that the start leaves in 64 bits
pub beyond_room : (r : Record) (t room : ℕ) → r.start < 2 ^ 64 → room ≡ 18446744073709551615 - r.start → room < r.duration →
    record_covers r (tick (2 ^ 64 + t)) ≡ ltb t (r.duration - room - 1)
beyond_room r t room small e h = from_start r (2 ^ 64 + t) (omega arith) ∙ at (ltb t (r.duration - room - 1)) refl
  where
    at : (c : Bool) → ltb t (r.duration - room - 1) ≡ c → ltb (2 ^ 64 + t) (r.start + r.duration) ≡ c
    at true q = let l = ltb-true t (r.duration - room - 1) q in lt-ltb (2 ^ 64 + t) (r.start + r.duration) (omega arith)
    at false q = let l = ltb-false t (r.duration - room - 1) q in le-ltb (2 ^ 64 + t) (r.start + r.duration) (omega arith)

-- none covers: no leaf at all, a time before the first leaf, one that is not
pub outside_none : (leaves : ℕ) (table : List ℕ) (t : Moment) → leaves ≡ 0 → outside leaves table t ≡ Err (refusal 24 0)
unfolding outside
outside_none leaves table t e = ap (λ (n : ℕ). outside n table t) e

pub outside_before : (leaves : ℕ) (table : List ℕ) (t : ℕ) → (leaves ≡ 0 → ⊥) → t < get_or table 2 0 → outside leaves table (tick t) ≡ Err (refusal 23 0)
unfolding outside record_at
outside_before zero table t some-leaf h = absurd (some-leaf refl)
outside_before (suc k) table t some-leaf h = pick_yes (before (tick t) (get_or table 2 0)) _ _ (before_tick t (get_or table 2 0) ∙ lt-ltb t (get_or table 2 0) h)

pub outside_past : (leaves : ℕ) (table : List ℕ) (t : ℕ) → get_or table 2 0 ≤ t → outside leaves table (tick t) ≡ Err (refusal 24 0)
unfolding outside record_at
outside_past zero table t h = refl
outside_past (suc k) table t h = pick_no (before (tick t) (get_or table 2 0)) _ _ (before_tick t (get_or table 2 0) ∙ le-ltb t (get_or table 2 0) h)
