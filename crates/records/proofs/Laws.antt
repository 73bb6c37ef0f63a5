-- A record put in its place, one read number by number, and the room of a table by its length.
use Prim.Native.Nat.{ℕ, suc, ◌+◌, ◌-◌, ◌*◌, ◌/◌, ◌≤◌, ◌<◌}
use mathlib.Core.Path.{◌≡◌, ap, sym, ◌∙◌}
use mathlib.Core.List.{List, append_assoc}
use native.Mathlib.Omega.{arith}
use mathlib.Core.Bool.{false, true}
use mathlib.Core.Logic.{◌⊎◌, inl, inr}
use lib.Dec.{ltb, leb}
use lib.ListN.{length, take, drop, get_or}
use borrow.Rule.Slice.PartMut.{put_mid, Post-is}
use borrow.Author.Tests.{lt-ltb, le-ltb, le-leb, lt-leb, ltb-true, ltb-false, leb-false}
use Rattle.basics.specs.Put.{put_all}
use Rattle.basics.proofs.Picks.{lt_or_ge, pick_holds}
use Rattle.basics.proofs.Put.{put_between}
use Rattle.table.specs.declared.Record.{Record}
use Rattle.table.specs.Table.{most_records, record_numbers, numbers_of, record_at, room}

-- the numbers of a record in the place of those that stand there
pub record_put : (table : List ℕ) (i : ℕ) (r : Record) → i + 6 ≤ length table →
    put_mid i (i + 6 - i) table (numbers_of r) ≡ put_all table i (numbers_of r)
record_put table i r h =
    let after = Post-is i (i + 6) table (omega arith) in
    rw after (sym (append_assoc (take i table) (numbers_of r) (drop (i + 6) table)) ∙ sym (put_between table i (numbers_of r) h))

-- a record by its numbers, the first of them where the record starts
abbrev record_from : List ℕ → ℕ → ℕ → Record
record_from table at first =
    record {
      position = get_or table first 0;
      size = get_or table (at + 1) 0;
      start = get_or table (at + 2) 0;
      duration = get_or table (at + 3) 0;
      sap = get_or table (at + 4) 0;
      time = get_or table (at + 5) 0;
    }

pub record_read : (table : List ℕ) (i : ℕ) → record_from table (record_numbers * i) (record_numbers * i) ≡ record_at table i
unfolding record_at
record_read table i = let e : record_numbers * i ≡ record_numbers * i + 0 = omega arith in ap (λ (first : ℕ). record_from table (record_numbers * i) first) e

-- as many records as the room takes are at most 4,096, and stand in the table
module _ (table : List ℕ) (n : ℕ) where
  abbrev whole : ℕ
  whole = length table / record_numbers

  room_takes : n ≤ room table → (n ≤ most_records) × (record_numbers * n ≤ length table)
  unfolding room
  room_takes h =
      pick_holds (λ q. n ≤ q → (n ≤ most_records) × (record_numbers * n ≤ length table)) (ltb most_records whole) most_records whole
      (λ e k. (k, omega (arith, ltb-true most_records whole e))) (λ e k. (omega (arith, ltb-false most_records whole e), omega arith)) h

  room_has : n ≤ most_records → record_numbers * n ≤ length table → n ≤ room table
  unfolding room
  room_has h k = pick_holds (λ q. n ≤ q) (ltb most_records whole) most_records whole (λ e. h) (λ e. omega arith)

-- whether a table has no room for one leaf more, without a division
module _ (table : List ℕ) (leaves : ℕ) where
  pub room_over : most_records ≤ leaves → leb (room table) leaves ≡ true
  room_over h = le-leb (room table) leaves (omega (arith, (room_takes table (room table) (omega arith)).0))

  pub room_by : leaves < most_records → ltb (length table) (record_numbers * leaves + record_numbers) ≡ leb (room table) leaves
  room_by h = by (lt_or_ge (length table) (record_numbers * leaves + record_numbers)) (lt_or_ge leaves (room table))
    where
      by : (length table < record_numbers * leaves + record_numbers) ⊎ (record_numbers * leaves + record_numbers ≤ length table) → (leaves < room table) ⊎ (room table ≤ leaves) →
          ltb (length table) (record_numbers * leaves + record_numbers) ≡ leb (room table) leaves
      by (inl short) (inl less) = absurd (omega (arith, (room_takes table (suc leaves) less).1))
      by (inl short) (inr more) = lt-ltb _ _ short ∙ sym (le-leb _ _ more)
      by (inr long) (inl less) = le-ltb _ _ long ∙ sym (lt-leb _ _ less)
      by (inr long) (inr more) = absurd (omega (arith, room_has table (suc leaves) (omega arith) (omega arith)))

  -- where it has room, a record fits
  pub room_for : leb (room table) leaves ≡ false → record_numbers * leaves + record_numbers ≤ length table
  room_for e = omega (arith, (room_takes table (suc leaves) (leb-false (room table) leaves e)).1)

  pub room_few : leb (room table) leaves ≡ false → leaves < most_records
  room_few e = omega (arith, (room_takes table (suc leaves) (leb-false (room table) leaves e)).0)
