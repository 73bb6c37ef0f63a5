-- A leaf, and the decode times in it: rules 5 and 6.
use Rattle.std.specs.Prelude.{ℕ, List, [], ◌∷◌, ◌++◌, Bool, true, false, eqb, ltb}
use Rattle.std.proofs.Math.Option.{Option, some, none}
use Rattle.basics.specs.Choose.{pick, and_then}
use Rattle.segment.specs.Constants.{styp, sidx, moof, traf, tfhd, tfdt, tfad, mdat}
use Rattle.segment.specs.Boxes.{provided, Box, boxes, only, without, tfhd_track, tfdt_time}

-- a `moof` before any `mdat`
unfoldable pub moof_first : List Box → Bool
moof_first [] = true
moof_first (b ∷ bs) = pick (eqb b.kind moof) true (pick (eqb b.kind mdat) false (moof_first bs))

-- Rule 5. A leaf is whole boxes, without `styp` or `sidx`, with a `moof` before any `mdat`.
unfoldable pub boxes_of_leaf : List ℕ → Option (List Box)
boxes_of_leaf xs = and_then (boxes xs) (λ bs. provided (without (styp ∷ sidx ∷ []) bs) (provided (moof_first bs) (some bs)))

-- Rule 6. A `traf` has one `tfhd`, then one `tfdt`, and no `tfad`. Its decode time counts where its track is the reference track.
unfoldable pub head_and_time : ℕ → List Box → Option (List ℕ)
head_and_time track [] = none
head_and_time track (h ∷ []) = none
head_and_time track (h ∷ d ∷ []) =
    provided (eqb h.kind tfhd)
    (provided (eqb d.kind tfdt)
    (and_then (tfhd_track h.body) (λ id.
    and_then (tfdt_time d.body) (λ time.
    some (pick (eqb id track) (time ∷ []) [])))))
head_and_time track (h ∷ d ∷ b ∷ bs) = none

unfoldable pub traf_times : ℕ → List ℕ → Option (List ℕ)
traf_times track xs = and_then (boxes xs) (λ bs. head_and_time track (only (tfhd ∷ tfdt ∷ tfad ∷ []) bs))

-- the times of the boxes of one type, in order; others are skipped
unfoldable pub gather : ℕ → (List ℕ → Option (List ℕ)) → List Box → Option (List ℕ)
gather kind times [] = some []
gather kind times (b ∷ bs) =
    and_then (pick (eqb b.kind kind) (times b.body) (some [])) (λ ts.
    and_then (gather kind times bs) (λ us. some (ts ++ us)))

-- `moof` holds `traf`.
unfoldable pub moof_times : ℕ → List ℕ → Option (List ℕ)
moof_times track xs = and_then (boxes xs) (gather traf (traf_times track))

unfoldable pub non_empty : List ℕ → Option (List ℕ)
non_empty [] = none
non_empty (t ∷ ts) = some (t ∷ ts)

-- Rule 6. The decode times of the reference track in a leaf: at least one.
unfoldable pub leaf_times : ℕ → List ℕ → Option (List ℕ)
leaf_times track xs = and_then (boxes_of_leaf xs) (λ bs. and_then (gather moof (moof_times track) bs) non_empty)

-- Rule 6. Decode times never fall.
unfoldable pub never_fall : ℕ → List ℕ → Bool
never_fall last [] = true
never_fall last (t ∷ ts) = pick (ltb t last) false (never_fall t ts)
