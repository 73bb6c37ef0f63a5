-- What the descent says where a slip is likely, in its own text: when the time line starts, and where a gap ends. The tests and the
-- records are those of the byte definition.
use Prim.Native.Nat.{ℕ}
use mathlib.Core.Path.{◌≡◌, refl}
use mathlib.Core.List.{List, ◌∷◌}
use Rattle.basics.specs.Choose.{pick}
use Rattle.machine.specs.Faults.{shows, unless}
use Rattle.machine.specs.Run.{okay, either, field_d, skip_d}
use Rattle.machine.specs.Heads.{head_d, sized_d}
use Rattle.machine.specs.Lists.{box_d, go_on_d, boxes_d}
use Rattle.state.specs.declared.IndexRead.{IndexRead}
use Rattle.state.specs.Flow.{Flow, with_now}
use Rattle.state.specs.Rows.{top_lengths, gap_faults}
use Rattle.state.specs.Stages.{gap_next, top_of}
use Rattle.descent.specs.Whole.{gap_d, entry_parts_d, under_d, material_d}

-- Rule 7: the time line starts at the top index's earliest presentation time. With no entry to pass it still stands there.
pub time_line_starts : (x : IndexRead) (f : Flow) (n : ℕ) (bs : List ℕ) → x.offset ≡ 0 → x.count ≡ 0 → material_d x f n bs ≡ okay (top_of x) (with_now f x.time) n bs
unfolding material_d gap_d under_d entry_parts_d either pick
time_line_starts x f n bs none empty = rw (none, empty)

-- Rule 2: a gap of first-offset bytes is counted from the end of the top index. Here an index that ends at byte 64, a first offset of 8,
-- and an empty box of the type `free`.
pub gap_from_index_end : (f : Flow) (bs : List ℕ) → gap_d 8 f 64 (0 ∷ 0 ∷ 0 ∷ 8 ∷ 102 ∷ 114 ∷ 101 ∷ 101 ∷ bs) ≡ okay tt f 72 bs
unfolding gap_d boxes_d box_d go_on_d head_d sized_d field_d skip_d either unless shows pick gap_faults top_lengths gap_next
gap_from_index_end f bs = refl
