-- What it is for a leaf to go on with bytes.
use Rattle.std.specs.Prelude.{ℕ, ◌+◌, ◌-◌, ◌≤◌, ◌≡◌, List, Bool, length, take, drop}
use Rattle.machine.specs.Run.{go}
use Rattle.state.specs.declared.Slot.{Slot}
use Rattle.state.specs.Boxed.{LeafBoxes}
use Rattle.state.specs.Flow.{Flow}
use Rattle.state.specs.Leaf.{step_leaf}
use Rattle.state.specs.Rows.{no_room}
use Rattle.law_leap.specs.Over.{over}

module _ (id : ℕ) (slot : Slot) (full : Bool) where
  -- The bytes, of which `n` stand before them, take a leaf from the boxes s to the boxes t, whatever flows beside it, as long as its table is full or
  -- not, as told.
  abbrev pub Goes : LeafBoxes → ℕ → List ℕ → LeafBoxes → Type 0
  Goes s n bs t = (f : Flow) → no_room f.leaves f.table ≡ full → over (step_leaf id slot) s f n bs ≡ go t f

  -- the same of the bytes from the i-th up to the j-th, where `n` stand before the first of all
  pub record From (n : ℕ) (bs : List ℕ) (s : LeafBoxes) (i : ℕ) (t : LeafBoxes) (j : ℕ) : Type 0 where
    pub later : i ≤ j
    pub there : j ≤ length bs
    pub goes : Goes s (n + i) (take (j - i) (drop i bs)) t
