-- What a header shows by its type where it stands: before the top index, in the gap, in a leaf, or at the start of an index entry.
use Prim.Native.Nat.{ℕ, ◌<◌}
use mathlib.Core.Path.{◌≡◌, refl}
use mathlib.Core.List.{[], ◌∷◌}
use mathlib.Core.Option.{Option, none}
use mathlib.Core.Bool.{Bool, true, false, not, and-true, and-false}
use lib.Dec.{eqb, ltb}
use borrow.Author.Tests.{eqb-true, lt-leb}
use Rattle.basics.specs.Choose.{pick}
use Rattle.segment.specs.Constants.{styp, sidx, moof, mdat, levels}
use Rattle.segment.specs.Boxes.{top_kinds, among}
use Rattle.machine.specs.declared.Header.{Header}
use Rattle.state.specs.Flow.{Flow}
use Rattle.state.specs.Rows.{is, body_length, top_lengths, opening_faults, gap_faults, leaf_faults, inner_faults, no_room}
use Rattle.demands.specs.Told.{clean}
use Rattle.demands.proofs.Upons.{clean_append, clean_shows}
use Rattle.demands.proofs.StypTree.{misfit}

-- Which of the types known at the top level a box has, if any.
pub data Kind (k : ℕ) : Type 0 where
  at_styp : k ≡ styp → Kind k
  at_sidx : k ≡ sidx → Kind k
  at_moof : k ≡ moof → Kind k
  at_mdat : k ≡ mdat → Kind k
  other : eqb k styp ≡ false → eqb k sidx ≡ false → eqb k moof ≡ false → eqb k mdat ≡ false → Kind k

pub kind_of : (k : ℕ) → Kind k
kind_of k = at (eqb k styp) (eqb k sidx) (eqb k moof) (eqb k mdat) refl refl refl refl
  where
    at : (s x m d : Bool) → eqb k styp ≡ s → eqb k sidx ≡ x → eqb k moof ≡ m → eqb k mdat ≡ d → Kind k
    at true x m d e f g h = at_styp (eqb-true k styp e)
    at false true m d e f g h = at_sidx (eqb-true k sidx f)
    at false false true d e f g h = at_moof (eqb-true k moof g)
    at false false false true e f g h = at_mdat (eqb-true k mdat h)
    at false false false false e f g h = other e f g h

-- The first box must be a `styp`.
pub first_shown : {X : Type 0} (h : Header) (A B C : Option X) → Kind h.kind →
    pick (clean (opening_faults false h)) (pick (is h styp) A (pick (is h sidx) B C)) none ≡ pick (is h styp) (pick (not (misfit (body_length h))) A none) none
unfolding opening_faults top_lengths pick
first_shown h A B C (at_styp e) = simp (clean_append, clean_shows, e, and-true)
first_shown h A B C (at_sidx e) = simp (clean_append, clean_shows, e, and-false)
first_shown h A B C (at_moof e) = simp (clean_append, clean_shows, e)
first_shown h A B C (at_mdat e) = simp (clean_append, clean_shows, e)
first_shown h A B C (other e f g d) = simp (clean_append, clean_shows, e, f, g, d)

-- Later ones are skipped, up to the index; no `styp`, `moof` or `mdat` is among them.
pub later_shown : {X : Type 0} (h : Header) (A B C : Option X) → Kind h.kind →
    pick (clean (opening_faults true h)) (pick (is h styp) A (pick (is h sidx) B C)) none
    ≡ pick (is h sidx) (pick (not (ltb (body_length h) 24)) B none) (pick (among h.kind top_kinds) none C)
unfolding opening_faults top_lengths pick among
later_shown h A B C (at_styp e) = simp (clean_append, clean_shows, e, and-false)
later_shown h A B C (at_sidx e) = simp (clean_append, clean_shows, e, and-true)
later_shown h A B C (at_moof e) = simp (clean_append, clean_shows, e)
later_shown h A B C (at_mdat e) = simp (clean_append, clean_shows, e)
later_shown h A B C (other e f g d) = simp (clean_append, clean_shows, e, f, g, d)

-- The gap takes the boxes of no known type.
pub gap_shown : (h : Header) → Kind h.kind → clean (gap_faults h) ≡ not (among h.kind top_kinds)
unfolding gap_faults top_lengths among pick
gap_shown h (at_styp e) = simp (clean_append, clean_shows, e, and-false)
gap_shown h (at_sidx e) = simp (clean_append, clean_shows, e, and-false)
gap_shown h (at_moof e) = simp (clean_append, clean_shows, e)
gap_shown h (at_mdat e) = simp (clean_append, clean_shows, e)
gap_shown h (other e f g d) = simp (clean_append, clean_shows, e, f, g, d)

-- whether a box of a type may stand in a leaf, after a `moof` or not
unfoldable pub leaf_takes : ℕ → Bool → Bool
leaf_takes k had = pick (among k (styp ∷ sidx ∷ [])) false (pick (eqb k mdat) had true)

-- A leaf with room takes those.
pub leaf_shown : (pos : ℕ) (had : Bool) (h : Header) (f : Flow) → no_room f.leaves f.table ≡ false → Kind h.kind → clean (leaf_faults pos had h f) ≡ leaf_takes h.kind had
unfolding leaf_faults top_lengths among pick leaf_takes
leaf_shown pos had h f room (at_styp e) = simp (clean_append, clean_shows, e, and-false)
leaf_shown pos had h f room (at_sidx e) = simp (clean_append, clean_shows, e, and-false)
leaf_shown pos had h f room (at_moof e) = simp (clean_append, clean_shows, e, room, and-false)
leaf_shown pos true h f room (at_mdat e) = simp (clean_append, clean_shows, e, room, and-false)
leaf_shown pos false h f room (at_mdat e) = simp (clean_append, clean_shows, e)
leaf_shown pos had h f room (other e f' g d) = simp (clean_append, clean_shows, e, f', d, room, and-false)

-- An index entry starts with an index that is long enough, below level 5.
pub inner_shown : (d : ℕ) (h : Header) → d < 4 → Kind h.kind → clean (inner_faults d h) ≡ pick (is h sidx) (not (ltb (body_length h) 24)) false
unfolding inner_faults top_lengths pick
inner_shown d h l (at_styp e) = simp (clean_append, clean_shows, e, and-false)
inner_shown d h l (at_sidx e) = simp (clean_append, clean_shows, e, lt-leb levels d l, and-true)
inner_shown d h l (at_moof e) = simp (clean_append, clean_shows, e)
inner_shown d h l (at_mdat e) = simp (clean_append, clean_shows, e)
inner_shown d h l (other e f g m) = simp (clean_append, clean_shows, e, f)
