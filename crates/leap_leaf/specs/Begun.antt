-- A box that begins in a leaf, at each level: where its container ends, and what holds its header, with another one.
use Rattle.std.specs.Prelude.{ℕ, Option, Some, None}
use Rattle.machine.specs.declared.Head.{Head}
use Rattle.machine.specs.declared.Head.TheVariants as at
use Rattle.state.specs.declared.Span.{Span}
use Rattle.state.specs.declared.Slot.{Slot}
use Rattle.state.specs.Boxed.{TrafBoxes}
use Rattle.machine.specs.declared.BoxesSo.TheVariants as inBoxes
use Rattle.state.specs.declared.MoofBody.TheVariants as moofs
use Rattle.state.specs.Boxed.{MoofBoxes}
use Rattle.state.specs.declared.LeafBody.TheVariants as leaves
use Rattle.state.specs.Boxed.{LeafBoxes}

-- where the container ends, if the box's first byte is next
unfoldable pub head_end : ℕ → Head → Option ℕ
head_end end at.First = Some end
head_end end (at.Size pos more acc) = None
head_end end (at.Kind pos size more acc) = None
head_end end (at.Large pos kind more acc) = None

unfoldable pub traf_end : Span → TrafBoxes → Option ℕ
traf_end span (inBoxes.Head so h) = head_end span.end h
traf_end span (inBoxes.Body so s) = None

unfoldable pub moof_end : ℕ → MoofBoxes → Option ℕ
moof_end end (inBoxes.Head seen h) = head_end end h
moof_end end (inBoxes.Body seen (moofs.Skip stop)) = None
moof_end end (inBoxes.Body seen (moofs.Traf span s)) = traf_end span s

unfoldable pub leaf_end : Slot → LeafBoxes → Option ℕ
leaf_end slot (inBoxes.Head so h) = head_end slot.end h
leaf_end slot (inBoxes.Body so (leaves.Skip stop)) = None
leaf_end slot (inBoxes.Body so (leaves.Moof end s)) = moof_end end s

-- the same boxes with another header
unfoldable pub traf_with : TrafBoxes → Head → TrafBoxes
traf_with (inBoxes.Head so h) x = inBoxes.Head so x
traf_with (inBoxes.Body so s) x = inBoxes.Body so s

unfoldable pub moof_with : MoofBoxes → Head → MoofBoxes
moof_with (inBoxes.Head seen h) x = inBoxes.Head seen x
moof_with (inBoxes.Body seen (moofs.Skip stop)) x = inBoxes.Body seen (moofs.Skip stop)
moof_with (inBoxes.Body seen (moofs.Traf span s)) x = inBoxes.Body seen (moofs.Traf span (traf_with s x))

unfoldable pub leaf_with : LeafBoxes → Head → LeafBoxes
leaf_with (inBoxes.Head so h) x = inBoxes.Head so x
leaf_with (inBoxes.Body so (leaves.Skip stop)) x = inBoxes.Body so (leaves.Skip stop)
leaf_with (inBoxes.Body so (leaves.Moof end s)) x = inBoxes.Body so (leaves.Moof end (moof_with s x))
