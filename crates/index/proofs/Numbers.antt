-- Tests by subtraction, which stay inside the code's numbers, against the definition's exact sums; and what keeps an index's numbers inside them.
use Prim.Native.Nat.{ℕ, suc, ◌+◌, ◌-◌, ◌*◌, ◌^◌, ◌≤◌, ◌<◌}
use mathlib.Core.Path.{◌≡◌, refl, sym, ◌∙◌}
use mathlib.Core.Bool.{Bool, true, false}
use mathlib.Core.Logic.{◌⊎◌, inl, inr}
use native.Mathlib.Omega.{arith}
use lib.Dec.{eqb, ltb, leb}
use borrow.Author.Tests.{lt-ltb, le-ltb, le-leb, lt-leb, eq-eqb, ne_eqb, eqb-true, eqb-false}
use Rattle.basics.proofs.Picks.{lt_or_ge}
use Rattle.segment.specs.Constants.{time_limit}
use Rattle.state.specs.Flow.{work_bytes}
use Rattle.state.specs.declared.Draft.{Draft}
use Rattle.state.specs.declared.Sums.{Sums}
use Rattle.state.specs.declared.IndexPart.{IndexPart}
use Rattle.state.specs.declared.EntryPart.{EntryPart}
use Rattle.state.specs.declared.EntryPart.TheVariants as entry
use Rattle.state.specs.declared.Sidx.{Sidx}
use Rattle.state.specs.declared.Sidx.TheVariants as sidx
use Rattle.state.specs.Sidx.{part_of, byte_place}
use Rattle.state.specs.Ranges.{Within, spelled_bounds, index_most, sidx_bounds, sizes_read, durations_read, word_limit}
use Rattle.state.proofs.RangeTests.{spelled_last}
use Rattle.state.proofs.RangeNumbers.{index_most_lem, word_most}
use Rattle.header.proofs.Steps.{spelled_small}
use Rattle.index.specs.declared.Where.{Where}
use Rattle.index.specs.declared.Where.TheVariants as places
use Rattle.index.specs.Views.{place_of, Shallow, Summed}

-- a start plus durations is no time
pub past_time : (t d : ℕ) → t < time_limit → ltb (18446744073709551615 - t) d ≡ leb time_limit (t + d)
past_time t d h = at (lt_or_ge (18446744073709551615 - t) d)
  where
    at : (18446744073709551615 - t < d) ⊎ (d ≤ 18446744073709551615 - t) → ltb (18446744073709551615 - t) d ≡ leb time_limit (t + d)
    at (inl k) = lt-ltb _ _ k ∙ sym (le-leb time_limit (t + d) (omega arith))
    at (inr k) = le-ltb _ _ k ∙ sym (lt-leb time_limit (t + d) (omega arith))

-- durations from a time on end at another
pub until_same : (at d until : ℕ) → at ≤ until → eqb (until - at) d ≡ eqb (at + d) until
until_same at d until h = by (eqb (at + d) until) refl
  where
    by : (t : Bool) → eqb (at + d) until ≡ t → eqb (until - at) d ≡ t
    by true e = let k : at + d ≡ until = eqb-true (at + d) until e in eq-eqb (until - at) d (omega arith)
    by false e = ne_eqb (until - at) d (λ k. eqb-false (at + d) until e (omega arith))

-- a byte of an entry is stored within the four levels' parts
pub part_most : (p : Where) → Shallow p → part_of (place_of p) ≤ 36864
unfolding part_of
part_most places.Topmost h = omega arith
part_most (places.Under top slot depth) h = omega arith

place_most : (p : Where) (e : EntryPart) (s : Sums) (more : ℕ) → Shallow p → Summed s → byte_place (place_of p) e s more < work_bytes
place_most p e s more h k = let l = part_most p h in let m = word_most e in omega arith

-- A number before the entries: what the bytes before its last spell, and what it is once it is read.
module _ {s : Sidx} {i : IndexPart} {d : Draft} {more acc : ℕ}
    (e : s ≡ sidx.Field i d more acc) (w : Within (sidx_bounds s)) where
  field_within : Within (sidx_bounds (sidx.Field i d more acc))
  field_within = rw e at w

  field_spelled : Within (spelled_bounds (index_most i d.wide) more acc)
  unfolding sidx_bounds
  field_spelled = field_within.1.1.1

  pub field_small : acc < 72057594037927936
  field_small = spelled_small (index_most i d.wide) more acc (index_most_lem i d.wide) field_spelled

  pub field_ended : (b : ℕ) → b < 256 → (v : ℕ) → v ≡ acc * 256 + b → more ≡ 0 → v < 256 ^ suc (index_most i d.wide)
  field_ended b hb v ev em = rw ev (spelled_last (index_most i d.wide) acc b hb (rw em at field_spelled))

-- A number of an entry.
module _ {s : Sidx} {i : EntryPart} {d : Draft} {sums : Sums} {more acc : ℕ}
    (e : s ≡ sidx.Entry i d sums more acc) (w : Within (sidx_bounds s)) where
  entry_within : Within (sidx_bounds (sidx.Entry i d sums more acc))
  entry_within = rw e at w

  entry_spelled : Within (spelled_bounds 3 more acc)
  unfolding sidx_bounds
  entry_spelled = entry_within.1.1.1.1.1.1.1

  pub entry_small : acc < 72057594037927936
  entry_small = spelled_small 3 more acc (omega arith) entry_spelled

  pub entry_more : more ≤ 3
  entry_more = entry_spelled.0

  pub entry_ended : (b : ℕ) → b < 256 → (v : ℕ) → v ≡ acc * 256 + b → more ≡ 0 → v < word_limit
  entry_ended b hb v ev em = rw ev (spelled_last 3 acc b hb (rw em at entry_spelled))

sums_fit : (i : EntryPart) (d : Draft) (sums : Sums) (more acc : ℕ) → Within (sidx_bounds (sidx.Entry i d sums more acc)) → Summed sums
unfolding sidx_bounds sizes_read durations_read
sums_fit entry.Size d sums more acc w = omega arith
sums_fit entry.Duration d sums more acc w = omega arith
sums_fit entry.Sap d sums more acc w = omega arith

pub entry_summed : {s : Sidx} {i : EntryPart} {d : Draft} {sums : Sums} {more acc : ℕ} →
    s ≡ sidx.Entry i d sums more acc → Within (sidx_bounds s) → Summed sums
entry_summed {s} {i} {d} {sums} {more} {acc} e w = sums_fit i d sums more acc (rw e at w)

pub place_fits : {s : Sidx} {i : EntryPart} {d : Draft} {sums : Sums} {more acc : ℕ} (p : Where) (k : ℕ) →
    s ≡ sidx.Entry i d sums more acc → Within (sidx_bounds s) → Shallow p → k ≡ byte_place (place_of p) i sums more → k < work_bytes
place_fits {s} {i} {d} {sums} {more} p k e w h ek = rw ek (place_most p i sums more h (entry_summed e w))
