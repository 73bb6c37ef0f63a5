-- A record that was put is read back, and every other one is as it was; by the laws of numbers put into a list.
use Prim.Native.Nat.{ℕ, ◌+◌, ◌*◌, ◌≤◌, ◌<◌}
use mathlib.Core.Path.{◌≡◌}
use mathlib.Core.List.{List}
use mathlib.Core.Logic.{◌⊎◌, inl, inr}
use native.Mathlib.Omega.{arith}
use lib.ListN.{length, get_or}
use Rattle.basics.proofs.Put.{put_at, put_before, put_past}
use Rattle.table.specs.declared.Record.{Record}
use Rattle.table.specs.Table.{record_numbers, numbers_of, record_at, put_record}

-- a record is its numbers
pub by_numbers : (table table' : List ℕ) (i j : ℕ) →
    ((k : ℕ) → k < record_numbers → get_or table (record_numbers * i + k) 0 ≡ get_or table' (record_numbers * j + k) 0) → record_at table i ≡ record_at table' j
unfolding record_at
by_numbers table table' i j same =
    rw (same 0 (omega arith), same 1 (omega arith), same 2 (omega arith), same 3 (omega arith), same 4 (omega arith), same 5 (omega arith))

pub put_read : (table : List ℕ) (i : ℕ) (r : Record) → record_numbers * i + record_numbers ≤ length table → record_at (put_record table i r) i ≡ r
unfolding record_at
put_read table i r room =
    let at : (k : ℕ) → k < record_numbers → get_or (put_record table i r) (record_numbers * i + k) 0 ≡ get_or (numbers_of r) k 0
    = λ k h. put_at table (record_numbers * i) (numbers_of r) k room h in
    rw (at 0 (omega arith), at 1 (omega arith), at 2 (omega arith), at 3 (omega arith), at 4 (omega arith), at 5 (omega arith))

pub put_others : (table : List ℕ) (i j : ℕ) (r : Record) → (i < j) ⊎ (j < i) → record_at (put_record table i r) j ≡ record_at table j
put_others table i j r (inl before) = by_numbers _ table j j (λ k h. put_past table (record_numbers * i) (numbers_of r) (record_numbers * j + k) (omega arith))
put_others table i j r (inr past) = by_numbers _ table j j (λ k h. put_before table (record_numbers * i) (numbers_of r) (record_numbers * j + k) (omega arith))
