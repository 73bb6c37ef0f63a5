-- The byte at hand is stored where the next byte of the number at hand is: the place of an entry's byte and the law of numbers agree.
use Prim.Native.Nat.{ℕ}
use mathlib.Core.Path.{◌≡◌, refl}
use mathlib.Core.List.{List, [], ◌∷◌}
use mathlib.Core.Option.{none}
use Rattle.machine.specs.declared.Head.{Head}
use Rattle.machine.specs.declared.Head.TheVariants as at
use Rattle.state.specs.declared.Sidx.{Sidx}
use Rattle.state.specs.declared.Sidx.TheVariants as sidx
use Rattle.state.specs.declared.TrafBody.TheVariants as trafs
use Rattle.state.specs.Boxed.{TrafBoxes}
use Rattle.machine.specs.declared.BoxesSo.TheVariants as inBoxes
use Rattle.state.specs.declared.MoofBody.TheVariants as moofs
use Rattle.state.specs.Boxed.{MoofBoxes}
use Rattle.state.specs.declared.LeafBody.TheVariants as leaves
use Rattle.state.specs.Boxed.{LeafBoxes}
use Rattle.state.specs.declared.OpeningBody.TheVariants as openings
use Rattle.state.specs.Boxed.{OpeningBoxes}
use Rattle.state.specs.declared.GapBoxes.{GapBoxes}
use Rattle.state.specs.declared.GapBoxes.TheVariants as gaps
use Rattle.state.specs.declared.InnerBox.TheVariants as inners
use Rattle.state.specs.declared.Stage.{Stage}
use Rattle.state.specs.declared.Stage.TheVariants as stage
use Rattle.basics.specs.Put.{put_all}
use Rattle.state.specs.Sidx.{Place, topmost, under}
use Rattle.state.specs.Levels.{depth}
use Rattle.state.specs.Places.{sidx_byte, opening_body_byte, opening_byte, stage_byte, stored_at}
use Rattle.state.specs.Numbers.{Number, head_number, sidx_number, traf_body_number, traf_number, moof_body_number, moof_number, leaf_body_number, leaf_number}
use Rattle.state.specs.Numbers.{opening_body_number, opening_number, gap_number, inner_number, stage_number, put_in, work_on}

-- the bytes of a header, of a leaf's boxes and of the gap's are not stored
head_unstored : (h : Head) → (head_number h).place ≡ none
unfolding head_number
head_unstored at.First = refl
head_unstored (at.Size pos more acc) = refl
head_unstored (at.Kind pos size more acc) = refl
head_unstored (at.Large pos kind more acc) = refl

traf_unstored : (s : TrafBoxes) → (traf_number s).place ≡ none
unfolding traf_number traf_body_number
traf_unstored (inBoxes.Head so h) = head_unstored h
traf_unstored (inBoxes.Body so (trafs.Skip stop)) = refl
traf_unstored (inBoxes.Body so (trafs.Rest stop r)) = refl
traf_unstored (inBoxes.Body so (trafs.Field p more acc)) = refl

moof_unstored : (s : MoofBoxes) → (moof_number s).place ≡ none
unfolding moof_number moof_body_number
moof_unstored (inBoxes.Head seen h) = head_unstored h
moof_unstored (inBoxes.Body seen (moofs.Skip stop)) = refl
moof_unstored (inBoxes.Body seen (moofs.Traf span s)) = traf_unstored s

leaf_unstored : (s : LeafBoxes) → (leaf_number s).place ≡ none
unfolding leaf_number leaf_body_number
leaf_unstored (inBoxes.Head so h) = head_unstored h
leaf_unstored (inBoxes.Body so (leaves.Skip stop)) = refl
leaf_unstored (inBoxes.Body so (leaves.Moof end s)) = moof_unstored s

gap_unstored : (s : GapBoxes) → (gap_number s).place ≡ none
unfolding gap_number
gap_unstored (gaps.Head h) = head_unstored h
gap_unstored (gaps.Body stop) = refl

module _ (work : List ℕ) (b : ℕ) where
  -- the work area after one byte of a number
  abbrev one : {S : Type 0} → Number S → List ℕ
  one x = put_in x.place x.more work (b ∷ [])

  sidx_stored : (p : Place) (s : Sidx) → one (sidx_number p s) ≡ stored_at work (sidx_byte p s) b
  unfolding sidx_number sidx_byte put_in put_all stored_at
  sidx_stored p (sidx.Field i d more acc) = refl
  sidx_stored p (sidx.Entry e d s more acc) = refl

  opening_stored : (s : OpeningBoxes) → one (opening_number s) ≡ stored_at work (opening_byte s) b
  unfolding opening_number opening_body_number opening_byte opening_body_byte put_in stored_at
  opening_stored (inBoxes.Head branded h) = rw (head_unstored h)
  opening_stored (inBoxes.Body branded (openings.Skip stop)) = refl
  opening_stored (inBoxes.Body branded (openings.Styp span q listed more acc)) = refl
  opening_stored (inBoxes.Body branded (openings.Index span s)) = sidx_stored topmost s

  pub stage_stored : (s : Stage) → work_on s work (b ∷ []) ≡ stored_at work (stage_byte s) b
  unfolding stage_number inner_number stage_byte put_in stored_at
  stage_stored (stage.Opening brand s) = opening_stored s
  stage_stored (stage.Gap top l end s) = rw (gap_unstored s)
  stage_stored (stage.Entry top ls) = refl
  stage_stored (stage.Leaf top ls slot s) = rw (leaf_unstored s)
  stage_stored (stage.Inner top ls slot (inners.Head h)) = rw (head_unstored h)
  stage_stored (stage.Inner top ls slot (inners.Body span s)) = sidx_stored (under top slot (depth ls)) s
