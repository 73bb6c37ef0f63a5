-- Only the whole part of a time matters to a lookup, since a record starts and ends at a whole tick: over any table at all.
use Rattle.std.specs.Prelude.{Err}
use Prim.Native.Nat.{ℕ, zero, suc, ◌+◌, ◌<◌}
use mathlib.Core.Path.{◌≡◌, refl, sym, ap, ◌∙◌}
use mathlib.Core.List.{List}
use mathlib.Core.Option.{Option, some, none}
use mathlib.Core.Bool.{Bool, ◌&&◌}
use Rattle.basics.specs.Choose.{pick}
use Rattle.table.specs.declared.Record.{Record}
use Rattle.table.specs.Table.{record_at}
use Rattle.moment.specs.Moments.{Moment, tick, reaches, before}
use Rattle.moment.specs.Worth.{whole}
use Rattle.moment.proofs.Whole.{reaches_whole, before_whole, reaches_tick, before_tick}
use Rattle.machine.specs.Faults.{refusal}
use Rattle.covering.specs.Lookup.{record_covers, covering_from, outside, found, look_in}

module _ (t : Moment) (some' : 0 < t.under) where
  before_alike : (a : ℕ) → before t a ≡ before (tick (whole t)) a
  before_alike a = before_whole t some' a ∙ sym (before_tick (whole t) a)

  record_whole : (r : Record) → record_covers r t ≡ record_covers r (tick (whole t))
  unfolding record_covers
  record_whole r =
      ap (λ (c : Bool). c && before t (r.start + r.duration)) (reaches_whole t some' r.start ∙ sym (reaches_tick (whole t) r.start))
      ∙ ap (λ (c : Bool). reaches (tick (whole t)) r.start && c) (before_alike (r.start + r.duration))

  covering_whole : (k i : ℕ) (table : List ℕ) → covering_from k i table t ≡ covering_from k i table (tick (whole t))
  unfolding covering_from
  covering_whole zero i table = refl
  covering_whole (suc k) i table =
      ap (λ (c : Bool). pick c (some i) (covering_from k (suc i) table t)) (record_whole (record_at table i))
      ∙ ap (λ (o : Option ℕ). pick (record_covers (record_at table i) (tick (whole t))) (some i) o) (covering_whole k (suc i) table)

  outside_whole : (leaves : ℕ) (table : List ℕ) → outside leaves table t ≡ outside leaves table (tick (whole t))
  unfolding outside
  outside_whole zero table = refl
  outside_whole (suc k) table = ap (λ (c : Bool). pick c (Err (refusal 23 0)) (Err (refusal 24 0))) (before_alike (record_at table 0).start)

  found_whole : (leaves : ℕ) (table : List ℕ) (o : Option ℕ) → found leaves table t o ≡ found leaves table (tick (whole t)) o
  unfolding found
  found_whole leaves table none = outside_whole leaves table
  found_whole leaves table (some i) = refl

  -- A time and its whole part get the same answer.
  pub only_whole : (leaves : ℕ) (table : List ℕ) → look_in leaves table t ≡ look_in leaves table (tick (whole t))
  only_whole leaves table =
      found_whole leaves table (covering_from leaves 0 table t) ∙ ap (λ (o : Option ℕ). found leaves table (tick (whole t)) o) (covering_whole leaves 0 table)
