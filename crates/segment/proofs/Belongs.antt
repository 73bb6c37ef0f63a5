-- Each byte of the material belongs to one part, and each tick to one leaf: the sentence as one statement.
use Prim.Native.Nat.{ℕ, ◌+◌}
use mathlib.Core.Path.{◌≡◌, ap}
use mathlib.Core.List.{List}
use mathlib.Core.Option.{some}
use Rattle.segment.specs.Tree.{Leaf, segment}
use Rattle.segment.specs.Parts.{Belongs}
use Rattle.segment.proofs.Stands.{top_stands, index_end_lem, parts_made, parts_listed}
use Rattle.segment.proofs.Ticks.{each_tick, no_tick_outside}
use Rattle.segment.proofs.Bytes.{each_byte, no_byte_outside, part_bytes}

pub belongs : (brand : ℕ) (xs : List ℕ) (ls : List Leaf) → segment brand xs ≡ some ls → Belongs brand xs ls
belongs brand xs ls accepted =
    let (top, ps, opened, parted, leaves) = parts_listed brand xs ls accepted in
    let stands = top_stands brand xs top opened in
    record {
      top = top;
      opened = opened;
      stands = stands;
      start = ap (λ (n : ℕ). n + top.index.offset) (index_end_lem xs top stands);
      end = (parts_made brand xs top ps opened parted).ends;
      parts = ps;
      parted = parted;
      leaves = leaves;
      reads = part_bytes brand xs top ps opened parted;
      bytes = each_byte brand xs top ps opened parted;
      within = no_byte_outside brand xs top ps opened parted;
      ticks = each_tick brand xs ls top accepted opened;
      no_others = no_tick_outside brand xs ls top accepted opened;
    }
