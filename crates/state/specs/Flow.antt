-- What flows through a reading beside its stage, and what a refusal leaves of it.
use Rattle.std.specs.Prelude.{ℕ, suc, List, set}
use Rattle.table.specs.declared.Record.{Record}
use Rattle.table.specs.Table.{put_record}

-- the bytes of the work area, and of one level's part of it
abbrev pub work_bytes : ℕ
work_bytes = 49152

abbrev pub level_bytes : ℕ
level_bytes = 12288

-- What flows: leaves listed, the time at which the next entry starts, the last decode time of the reference track in them, work area
-- and leaf table.
pub record Flow : Type 0 where
  pub leaves : ℕ
  pub now : ℕ
  pub last : ℕ
  pub work : List ℕ
  pub table : List ℕ

-- what a refusal leaves: leaves listed, work area and leaf table
pub record Left : Type 0 where
  pub leaves : ℕ
  pub work : List ℕ
  pub table : List ℕ

abbrev pub left : Flow → Left
left f = record { leaves = f.leaves; work = f.work; table = f.table }

abbrev pub with_now : Flow → ℕ → Flow
with_now f t = record { leaves = f.leaves; now = t; last = f.last; work = f.work; table = f.table }

abbrev pub with_work : Flow → List ℕ → Flow
with_work f work = record { leaves = f.leaves; now = f.now; last = f.last; work = work; table = f.table }

-- a byte stored in the work area
abbrev pub stored : Flow → ℕ → ℕ → Flow
stored f i b = with_work f (set f.work i b)

-- a leaf is listed: its record is written, the time line goes on to its end, and its last decode time is the last
unfoldable pub listed : Flow → Record → ℕ → ℕ → Flow
listed f r until last = record { leaves = suc f.leaves; now = until; last = last; work = f.work; table = put_record f.table f.leaves r }
