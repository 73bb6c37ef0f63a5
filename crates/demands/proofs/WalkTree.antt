-- The boxes of a list walked with what is known of it say what the tree says of them.
use Prim.Native.Nat.{ℕ, zero, suc, ◌+◌, ◌-◌, ◌≤◌, ◌<◌}
use mathlib.Core.Path.{◌≡◌, refl, ap, sym, ◌∙◌}
use mathlib.Core.List.{List, [], ◌∷◌, ◌++◌}
use mathlib.Core.Option.{Option, some, none}
use mathlib.Core.Bool.{Bool, true, false, not, ◌&&◌, ◌||◌, not-not}
use native.Mathlib.Omega.{arith}
use lib.Dec.{eqb, ltb}
use lib.ListN.{length, drop}
use borrow.Author.Tests.{eqb-true, ne_eqb, ltb-true, lt-ltb}
use Rattle.basics.specs.Choose.{pick, and_then}
use Rattle.basics.proofs.Picks.{pick_yes, pick_no, pick_if, pick_both}
use Rattle.basics.proofs.Options.{absurd_some, then_cong, then_none, then_assoc, then_some, then_pick, then_inv, pick_else, pick_then}
use Rattle.segment.specs.Constants.{styp, sidx, moof, traf, tfhd, tfdt, tfad}
use Rattle.segment.specs.Boxes.{top_kinds, provided, field, Box, first_box, cut_boxes, among, only, without, time_bytes, tfhd_track, tfdt_time}
use Rattle.segment.specs.Leaves.{moof_first, head_and_time, traf_times, gather, moof_times, non_empty}
use Rattle.segment.specs.Tree.{first_time}
use Rattle.segment.proofs.Said.{field_rest, first_box_lem}
use Rattle.machine.specs.Faults.{shows}
use Rattle.machine.specs.declared.Header.{Header}
use Rattle.state.specs.declared.Seen.{Seen}
use Rattle.state.specs.declared.Slot.{Slot}
use Rattle.state.specs.declared.TrafPhase.{TrafPhase}
use Rattle.state.specs.declared.TrafPhase.TheVariants as track
use Rattle.state.specs.declared.TrafSo.{TrafSo}
use Rattle.state.specs.declared.LeafSo.{LeafSo}
use Rattle.state.specs.Flow.{Flow, left}
use Rattle.state.specs.Rows.{is, body_length, leaf_faults, no_room, traf_faults, fresh, headed_track}
use Rattle.state.specs.Traf.{timed, fall_faults, reference, saw, traf_now, traf_so0, lacking}
use Rattle.state.specs.Leaf.{Passed, skipped, seeing, seen_now, leaf_now, leaf_so0, leaf_lacks}
use Rattle.demands.specs.Told.{clean, climb, header_of}
use Rattle.demands.specs.Walks.{walk, traf_item, traf_walk, moof_item, moof_walk, leaf_item, leaf_walk, gap_walk}
use Rattle.demands.proofs.Upons.{clean_append, clean_shows}
use Rattle.demands.proofs.Shown.{Kind, at_styp, at_sidx, at_moof, at_mdat, other, kind_of, gap_shown, leaf_takes, leaf_shown}

-- Boxes none of which has a body longer than its size.
abbrev pub Fits : List Box → Type 0
Fits [] = Unit {0}
Fits (b ∷ bs) = (length b.body ≤ b.size) × Fits bs

-- the boxes of a list are so
pub cut_fits : (k : ℕ) (xs : List ℕ) (bs : List Box) → cut_boxes k xs ≡ some bs → Fits bs
unfolding cut_boxes
cut_fits zero [] bs e = let q : ◌≡◌ {A = List Box} [] bs = cc in rw (← q) tt
cut_fits zero (x ∷ xs) bs e = absurd_some e
cut_fits (suc k) [] bs e = let q : ◌≡◌ {A = List Box} [] bs = cc in rw (← q) tt
cut_fits (suc k) (x ∷ xs) bs e =
    let (b, e₁, e₂) = then_inv (first_box (x ∷ xs)) _ bs e in
    let (cs, e₃, e₄) = then_inv (cut_boxes k (drop b.size (x ∷ xs))) _ bs e₂ in
    let q : ◌≡◌ {A = List Box} (b ∷ cs) bs = cc in
    rw (← q) (omega (arith, (first_box_lem (x ∷ xs) b e₁).bodied), cut_fits k (drop b.size (x ∷ xs)) cs e₃)

-- Decode times that never fall: of one list after another.
pub climb_append : (s : Seen) (ts us : List ℕ) → climb s (ts ++ us) ≡ and_then (climb s ts) (λ s'. climb s' us)
unfolding climb and_then
climb_append s [] us = refl
climb_append s (t ∷ ts) us = rw (climb_append (saw s true t) ts us) (sym (pick_then (ltb t s.last) (climb (saw s true t) ts) (λ s'. climb s' us)))

-- once a time was seen one has been seen, and the first stays
pub climb_seen : (s : Seen) (ts : List ℕ) (s' : Seen) → s.any ≡ true → climb s ts ≡ some s' → (s'.any ≡ true) × (s'.first ≡ s.first)
unfolding climb saw pick
climb_seen s [] s' a e = let q : s ≡ s' = cc in rw (← q) (a, refl)
climb_seen s (t ∷ ts) s' a e =
    let (_, e') = pick_else (ltb t s.last) _ s' e in
    let (p, q) = climb_seen (saw s true t) ts s' refl e' in
    (p, q ∙ pick_yes s.any s.first t a)

-- the first of some times is the first seen, where none was seen before
pub climb_first : (s : Seen) (t : ℕ) (ts : List ℕ) (s' : Seen) → s.any ≡ false → climb s (t ∷ ts) ≡ some s' → (s'.any ≡ true) × (s'.first ≡ t)
unfolding climb saw pick
climb_first s t ts s' a e =
    let (_, e') = pick_else (ltb t s.last) _ s' e in
    let (p, q) = climb_seen (saw s true t) ts s' refl e' in
    (p, q ∙ pick_no s.any s.first t a)

-- The first of the times of a leaf is the first seen.
pub first_seen : (last : ℕ) (ts us : List ℕ) (s : Seen) → non_empty us ≡ some ts → climb (leaf_so0 last).seen ts ≡ some s → s.first ≡ first_time ts
unfolding non_empty first_time
first_seen last ts [] s e c = absurd_some e
first_seen last ts (u ∷ us) s e c =
    let q : ◌≡◌ {A = List ℕ} (u ∷ us) ts = cc in
    rw (← q) (climb_first (leaf_so0 last).seen u us s refl (rw (← q) at c)).1

-- The boxes of the gap: only skipped ones.
pub gap_walk_lem : {X : Type 0} (pos : ℕ) (bs : List Box) (h : Unit {0} → Option X) → and_then (walk gap_walk tt pos bs) h ≡ pick (without top_kinds bs) (h tt) none
unfolding walk without and_then clean pick
gap_walk_lem pos [] h = refl
gap_walk_lem pos (b ∷ bs) h = rw (gap_shown (header_of pos b) (kind_of b.kind)) (at (among b.kind top_kinds) (gap_walk_lem (pos + b.size) bs h))
  where
    at : (t : Bool) → and_then (walk gap_walk tt (pos + b.size) bs) h ≡ pick (without top_kinds bs) (h tt) none →
        and_then (pick (not t) (walk gap_walk tt (pos + b.size) bs) none) h ≡ pick (pick t false (without top_kinds bs)) (h tt) none
    at true more = refl
    at false more = more

-- The times of one box and of those after it, gathered and then looked at, are looked at one after the other.
gather_step : {X : Type 0} (t : Bool) (o rest : Option (List ℕ)) (seen : Seen) (h : Seen → Option X) →
    and_then (and_then (pick t o (some [])) (λ ts. and_then rest (λ us. some (ts ++ us)))) (λ ts. and_then (climb seen ts) h)
    ≡ pick t (and_then o (λ ts. and_then (climb seen ts) (λ s. and_then rest (λ us. and_then (climb s us) h)))) (and_then rest (λ us. and_then (climb seen us) h))
unfolding and_then pick
gather_step true none rest seen h = refl
gather_step true (some ts) none seen h = sym (then_none (climb seen ts))
gather_step true (some ts) (some us) seen h = ap (λ (o : Option Seen). and_then o h) (climb_append seen ts us) ∙ then_assoc (climb seen ts) _ h
gather_step false o none seen h = refl
gather_step false o (some us) seen h = refl

-- What follows a box that gives times, or is skipped.
passed_step : {X : Type 0} (t : Bool) (o : Option (List ℕ)) (seen : Seen) (k : Passed → Option X) →
    and_then (pick t (and_then o (λ ts. and_then (climb seen ts) (λ s. some (seeing s)))) (some skipped)) k ≡ pick t (and_then o (λ ts. and_then (climb seen ts) (λ s. k (seeing s)))) (k skipped)
unfolding and_then pick
passed_step true none seen k = refl
passed_step true (some ts) seen k = then_assoc (climb seen ts) _ k
passed_step false o seen k = refl

-- times gathered from one box and those after it, given what those after it say
gathered : {X : Type 0} (t : Bool) (o rest : Option (List ℕ)) (seen : Seen) (h : Seen → Option X) (k : Passed → Option X) →
    ((s : Seen) → k (seeing s) ≡ and_then rest (λ us. and_then (climb s us) h)) → k skipped ≡ and_then rest (λ us. and_then (climb seen us) h) →
    and_then (pick t (and_then o (λ ts. and_then (climb seen ts) (λ s. some (seeing s)))) (some skipped)) k
    ≡ and_then (and_then (pick t o (some [])) (λ ts. and_then rest (λ us. some (ts ++ us)))) (λ ts. and_then (climb seen ts) h)
gathered t o rest seen h k p q =
    passed_step t o seen k
    ∙ pick_both t (λ x. x) (λ x. x) _ _ _ _ (then_cong o _ _ (λ ts e. then_cong (climb seen ts) _ _ (λ s e'. p s))) q
    ∙ sym (gather_step t o rest seen h)

-- The boxes of a `moof`: the times of each `traf` after those of the ones before it.
pub moof_walk_lem : {X : Type 0} (id : ℕ) (seen : Seen) (pos : ℕ) (bs : List Box) (h : Seen → Option X) →
    and_then (walk (moof_walk id) seen pos bs) h ≡ and_then (gather traf (traf_times id) bs) (λ ts. and_then (climb seen ts) h)
unfolding walk gather and_then clean pick climb seen_now moof_item
moof_walk_lem id seen pos [] h = refl
moof_walk_lem id seen pos (b ∷ bs) h =
    then_assoc (moof_item id seen pos b) _ h
    ∙ gathered (eqb b.kind traf) (traf_times id b.body) (gather traf (traf_times id) bs) seen h (λ r. and_then (walk (moof_walk id) (seen_now seen r) (pos + b.size) bs) h)
    (λ s. moof_walk_lem id s (pos + b.size) bs h) (moof_walk_lem id seen (pos + b.size) bs h)

-- The boxes of a leaf, after a `moof` or not.
leaf_from : {X : Type 0} → ℕ → Bool → Seen → List Box → (Seen → Option X) → Option X
leaf_from id had seen bs h =
    pick (without (styp ∷ sidx ∷ []) bs)
    (pick (pick had true (moof_first bs)) (and_then (gather moof (moof_times id) bs) (λ ts. and_then (climb seen ts) h)) none)
    none

pick_same : {A : Type 0} (t : Bool) (x : A) → pick t x x ≡ x
unfolding pick
pick_same true x = refl
pick_same false x = refl

-- a `moof`, with what the boxes after it say
moof_box : {X : Type 0} (w : Bool) (o rest : Option (List ℕ)) (seen : Seen) (h : Seen → Option X) (k : Passed → Option X) →
    ((s : Seen) → k (seeing s) ≡ pick w (and_then rest (λ us. and_then (climb s us) h)) none) →
    and_then (and_then o (λ ts. and_then (climb seen ts) (λ s. some (seeing s)))) k
    ≡ pick w (and_then (and_then o (λ ts. and_then rest (λ us. some (ts ++ us)))) (λ ts. and_then (climb seen ts) h)) none
unfolding pick
moof_box true o rest seen h k p =
    passed_step true o seen k ∙ then_cong o _ _ (λ ts e. then_cong (climb seen ts) _ _ (λ s e'. p s)) ∙ sym (gather_step true o rest seen h)
moof_box false o rest seen h k p =
    passed_step true o seen k ∙ then_cong o _ (λ ts. none) (λ ts e. then_cong (climb seen ts) _ (λ s. none) (λ s e'. p s) ∙ then_none (climb seen ts)) ∙ then_none o

-- one more box of a leaf
leaf_box : {X : Type 0} (id : ℕ) (had : Bool) (seen : Seen) (b : Box) (bs : List Box) (h : Seen → Option X) (k : Passed → Option X) → Kind b.kind →
    ((s : Seen) → k (seeing s) ≡ leaf_from id true s bs h) → k skipped ≡ leaf_from id had seen bs h →
    pick (leaf_takes b.kind had) (and_then (pick (eqb b.kind moof) (and_then (moof_times id b.body) (λ ts. and_then (climb seen ts) (λ s. some (seeing s)))) (some skipped)) k) none
    ≡ leaf_from id had seen (b ∷ bs) h
unfolding leaf_from leaf_takes among without moof_first gather pick and_then
leaf_box id had seen b bs h k (at_styp e) p q = rw e
leaf_box id had seen b bs h k (at_sidx e) p q = rw e
leaf_box id true seen b bs h k (at_moof e) p q = rw e (moof_box (without (styp ∷ sidx ∷ []) bs) (moof_times id b.body) (gather moof (moof_times id) bs) seen h k p)
leaf_box id false seen b bs h k (at_moof e) p q = rw e (moof_box (without (styp ∷ sidx ∷ []) bs) (moof_times id b.body) (gather moof (moof_times id) bs) seen h k p)
leaf_box id true seen b bs h k (at_mdat e) p q = rw (e, then_some (gather moof (moof_times id) bs)) q
leaf_box id false seen b bs h k (at_mdat e) p q = rw e (sym (pick_same (without (styp ∷ sidx ∷ []) bs) none))
leaf_box id had seen b bs h k (other e f g d) p q = rw (e, f, g, d, then_some (gather moof (moof_times id) bs)) q

leaf_from_lem : {X : Type 0} (id : ℕ) (slot : Slot) (f : Flow) → no_room f.leaves f.table ≡ false → (so : LeafSo) (pos : ℕ) (bs : List Box) (h : Seen → Option X) →
    and_then (walk (leaf_walk id slot f) so pos bs) (λ so'. h so'.seen) ≡ leaf_from id so.moof so.seen bs h
unfolding walk and_then clean pick climb leaf_from without gather moof_first leaf_now leaf_item
leaf_from_lem id slot f room so pos [] h = sym (pick_if so.moof (λ t. pick t (h so.seen) none) true true (h so.seen) (λ e. refl) (λ e. refl))
leaf_from_lem id slot f room so pos (b ∷ bs) h =
    then_pick (clean (leaf_faults slot.pos so.moof (header_of pos b) f)) _ _
    ∙ rw (leaf_shown slot.pos so.moof (header_of pos b) f room (kind_of b.kind))
    (ap (λ o. pick (leaf_takes b.kind so.moof) o none) (then_assoc (leaf_item id so.seen pos b) _ _)
    ∙ leaf_box id so.moof so.seen b bs h (λ r. and_then (walk (leaf_walk id slot f) (leaf_now so r) (pos + b.size) bs) (λ so'. h so'.seen)) (kind_of b.kind)
    (λ s. leaf_from_lem id slot f room (record { moof = true; seen = s }) (pos + b.size) bs h)
    (leaf_from_lem id slot f room so (pos + b.size) bs h))

-- a leaf shows a time of the reference track
some_time : {X : Type 0} (last : ℕ) (ts : List ℕ) (h : Seen → Option X) →
    and_then (climb (leaf_so0 last).seen ts) (λ s. pick s.any (h s) none) ≡ and_then (non_empty ts) (λ us. and_then (climb (leaf_so0 last).seen us) h)
unfolding and_then non_empty pick climb
some_time last [] h = refl
some_time last (t ∷ ts) h = then_cong (climb (leaf_so0 last).seen (t ∷ ts)) _ _ (λ s e. rw (climb_first (leaf_so0 last).seen t ts s refl e).0)

-- what a leaf with room lacks
pub leaf_lacks_lem : (slot : Slot) (f : Flow) (so : LeafSo) → no_room f.leaves f.table ≡ false → clean (leaf_lacks slot so (left f)) ≡ so.seen.any
unfolding leaf_lacks
leaf_lacks_lem slot f so room = simp (clean_append, clean_shows, room) (not-not so.seen.any)

-- The boxes of a leaf with room.
pub leaf_walk_lem : {X : Type 0} (id : ℕ) (slot : Slot) (f : Flow) → no_room f.leaves f.table ≡ false → (last pos : ℕ) (bs : List Box) (h : Seen → Option X) →
    and_then (walk (leaf_walk id slot f) (leaf_so0 last) pos bs) (λ so. pick (clean (leaf_lacks slot so (left f))) (h so.seen) none)
    ≡ and_then (provided (without (styp ∷ sidx ∷ []) bs) (provided (moof_first bs) (some bs)))
    (λ bs'. and_then (gather moof (moof_times id) bs') (λ ts. and_then (non_empty ts) (λ us. and_then (climb (leaf_so0 last).seen us) h)))
unfolding leaf_from pick and_then
leaf_walk_lem id slot f room last pos bs h =
    then_cong (walk (leaf_walk id slot f) (leaf_so0 last) pos bs) _ (λ so. pick so.seen.any (h so.seen) none) (λ so e. rw (leaf_lacks_lem slot f so room))
    ∙ leaf_from_lem id slot f room (leaf_so0 last) pos bs (λ s. pick s.any (h s) none)
    ∙ ap (λ o. pick (without (styp ∷ sidx ∷ []) bs) (pick (moof_first bs) o none) none) (then_cong (gather moof (moof_times id) bs) _ _ (λ ts e. some_time last ts h))
    ∙ ap (λ o. pick (without (styp ∷ sidx ∷ []) bs) o none) (sym (then_pick (moof_first bs) (some bs) _))
    ∙ sym (then_pick (without (styp ∷ sidx ∷ []) bs) (pick (moof_first bs) (some bs) none) _)

-- Which of the types known in a `traf` a box has, if any.
data Of (k : ℕ) : Type 0 where
  at_tfhd : k ≡ tfhd → Of k
  at_tfdt : k ≡ tfdt → Of k
  at_tfad : k ≡ tfad → Of k
  unknown : eqb k tfhd ≡ false → eqb k tfdt ≡ false → eqb k tfad ≡ false → Of k

which : (k : ℕ) → Of k
which k = at (eqb k tfhd) (eqb k tfdt) (eqb k tfad) refl refl refl
  where
    at : (h d a : Bool) → eqb k tfhd ≡ h → eqb k tfdt ≡ d → eqb k tfad ≡ a → Of k
    at true d a e f g = at_tfhd (eqb-true k tfhd e)
    at false true a e f g = at_tfdt (eqb-true k tfdt f)
    at false false true e f g = at_tfad (eqb-true k tfad g)
    at false false false e f g = unknown e f g

pub traf_faults_lem : (t : TrafPhase) (h : Header) →
    clean (traf_faults t h)
    ≡ not ((is h tfhd || is h tfdt) && ltb (body_length h) 8) && (not (is h tfhd && not (fresh t) || is h tfdt && not (headed_track t)) && not (is h tfad))
unfolding traf_faults
traf_faults_lem t h = simp (clean_append, clean_shows)

-- a time has 4 bytes at the least
time_bytes_lem : (v w : ℕ) → time_bytes v ≡ some w → 4 ≤ w
unfolding time_bytes pick
time_bytes_lem v w e = at (eqb v 0) (eqb v 1) e
  where
    at : (s t : Bool) → pick s (some 4) (pick t (some 8) none) ≡ some w → 4 ≤ w
    at true t q = let z : 4 ≡ w = cc in omega arith
    at false true q = let z : 8 ≡ w = cc in omega arith
    at false false q = absurd_some q

-- a `tfhd` and a `tfdt` have 8 bytes at the least
tfhd_few : (xs : List ℕ) → length xs < 8 → tfhd_track xs ≡ none
unfolding tfhd_track field and_then pick
tfhd_few xs l =
    then_cong (field 4 xs) _ (λ flags. none)
    (λ flags e. let r = field_rest 4 xs flags e in rw (lt-ltb (length flags.rest) 4 (omega arith)))
    ∙ then_none (field 4 xs)

tfdt_few : (xs : List ℕ) → length xs < 8 → tfdt_time xs ≡ none
unfolding tfdt_time
tfdt_few xs l =
    then_cong (field 1 xs) _ (λ version. none)
    (λ version e. let r = field_rest 1 xs version e in
    then_cong (time_bytes version.value) _ (λ width. none)
    (λ width e'. let w = time_bytes_lem version.value width e' in
    then_cong (field 3 version.rest) _ (λ flags. none)
    (λ flags e''. let r' = field_rest 3 version.rest flags e'' in
    pick_no (eqb (length flags.rest) width) _ none (ne_eqb (length flags.rest) width (λ q. omega arith)))
    ∙ then_none (field 3 version.rest))
    ∙ then_none (time_bytes version.value))
    ∙ then_none (field 1 xs)

-- a short body shows a fault, and the tree has no box of it
gate : {A B X : Type 0} (n : ℕ) (t t' : Bool) (o : Option A) (k : A → B) (g : B → Option X) → (n < 8 → o ≡ none) → t ≡ t' →
    pick (not (ltb n 8) && (t && true)) (and_then (and_then o (λ v. some (k v))) g) none ≡ pick t' (and_then o (λ v. g (k v))) none
unfolding pick and_then
gate {A} n t t' o k g e q = rw q (at (ltb n 8) t' o refl e)
  where
    at : (s t : Bool) (o : Option A) → ltb n 8 ≡ s → (n < 8 → o ≡ none) →
        pick (not s && (t && true)) (and_then (and_then o (λ v. some (k v))) g) none ≡ pick t (and_then o (λ v. g (k v))) none
    at true true o p few = rw (few (ltb-true n 8 p))
    at true false o p few = refl
    at false true none p few = refl
    at false true (some a) p few = refl
    at false false o p few = refl

-- The boxes of a `traf` that are known there, after the time was read, after the track was, and from the first on.
after_time : {X : Type 0} → List Box → Option X → Option X
after_time [] o = o
after_time (b ∷ bs) o = none

after_head : {X : Type 0} → Bool → Seen → List Box → (Seen → Option X) → Option X
after_head r seen [] h = none
after_head r seen (d ∷ ds) h =
    pick (eqb d.kind tfdt) (and_then (tfdt_time d.body) (λ v. and_then (climb seen (pick r (v ∷ []) [])) (λ s. after_time ds (h s)))) none

from_first : {X : Type 0} → ℕ → Seen → List Box → (Seen → Option X) → Option X
from_first id seen [] h = none
from_first id seen (b ∷ bs) h = pick (eqb b.kind tfhd) (and_then (tfhd_track b.body) (λ v. after_head (eqb v id) seen bs h)) none

from_known : {X : Type 0} → ℕ → TrafPhase → Seen → List Box → (Seen → Option X) → Option X
from_known id track.Fresh seen bs h = from_first id seen bs h
from_known id (track.Headed r) seen bs h = after_head r seen bs h
from_known id track.Timed seen bs h = after_time bs (h seen)

-- that is the tree's rule 6
two_boxes : {X : Type 0} (s t : Bool) (o p : Option ℕ) (id : ℕ) (seen : Seen) (h : Seen → Option X) →
    and_then (pick s (pick t (and_then o (λ i. and_then p (λ v. some (pick (eqb i id) (v ∷ []) [])))) none) none) (λ ts. and_then (climb seen ts) h)
    ≡ pick s (and_then o (λ i. pick t (and_then p (λ v. and_then (climb seen (pick (eqb i id) (v ∷ []) [])) h)) none)) none
unfolding and_then pick
two_boxes true true none p id seen h = refl
two_boxes true true (some i) none id seen h = refl
two_boxes true true (some i) (some v) id seen h = refl
two_boxes true false none p id seen h = refl
two_boxes true false (some i) p id seen h = refl
two_boxes false t o p id seen h = refl

never_after : {A X : Type 0} (t : Bool) (o : Option A) (k : A → Option X) → ((a : A) → k a ≡ none) → pick t (and_then o k) none ≡ none
unfolding pick
never_after true o k e = then_cong o k (λ a. none) (λ a q. e a) ∙ then_none o
never_after false o k e = refl

head_and_time_lem : {X : Type 0} (id : ℕ) (seen : Seen) (bs : List Box) (h : Seen → Option X) → and_then (head_and_time id bs) (λ ts. and_then (climb seen ts) h) ≡ from_first id seen bs h
unfolding head_and_time from_first after_head after_time and_then
head_and_time_lem id seen [] h = refl
head_and_time_lem id seen (b ∷ []) h = sym (never_after (eqb b.kind tfhd) (tfhd_track b.body) _ (λ v. refl))
head_and_time_lem id seen (b ∷ d ∷ []) h = two_boxes (eqb b.kind tfhd) (eqb d.kind tfdt) (tfhd_track b.body) (tfdt_time d.body) id seen h
head_and_time_lem id seen (b ∷ d ∷ c ∷ cs) h =
    sym (never_after (eqb b.kind tfhd) (tfhd_track b.body) _
    (λ v. never_after (eqb d.kind tfdt) (tfdt_time d.body) _ (λ u. then_none (climb seen (pick (eqb v id) (u ∷ []) [])))))

-- one time of the reference track, or of another
climb_one : {X : Type 0} (s : Seen) (r : Bool) (pos v : ℕ) (h : Seen → Option X) →
    pick (clean (fall_faults s.last (timed r pos v))) (h (saw s r v)) none ≡ and_then (climb s (pick r (v ∷ []) [])) h
unfolding climb pick and_then fall_faults saw
climb_one s true pos v h = rw (clean_shows (ltb v s.last) 18 pos) (at (ltb v s.last))
  where
    at : (t : Bool) → pick (not t) (h (saw s true v)) none ≡ and_then (pick t none (some (saw s true v))) h
    at true = refl
    at false = refl
climb_one s false pos v h = rw (clean_shows false 18 pos)

pub not_or : (t : Bool) → not (not t || false) ≡ t
not_or true = refl
not_or false = refl

pub body_length_lem : (b : Box) → length b.body ≤ b.size → b.size - (b.size - length b.body) ≡ length b.body
body_length_lem b l = omega arith

module _ (id : ℕ) where
  -- a box of a type not known in a `traf` is skipped
  box_unknown : (so : TrafSo) (pos : ℕ) (b : Box) (bs : List Box) → eqb b.kind tfhd ≡ false → eqb b.kind tfdt ≡ false → eqb b.kind tfad ≡ false →
      walk (traf_walk id) so pos (b ∷ bs) ≡ walk (traf_walk id) so (pos + b.size) bs
  unfolding walk traf_item pick and_then fall_faults clean traf_now
  box_unknown so pos b bs e f g = rw (traf_faults_lem so.track (header_of pos b), e, f, g)

  box_tfad : (so : TrafSo) (pos : ℕ) (b : Box) (bs : List Box) → b.kind ≡ tfad → walk (traf_walk id) so pos (b ∷ bs) ≡ none
  unfolding walk pick
  box_tfad so pos b bs e = rw (traf_faults_lem so.track (header_of pos b), e)

  box_tfhd : (so : TrafSo) (pos : ℕ) (b : Box) (bs : List Box) → b.kind ≡ tfhd → length b.body ≤ b.size →
      walk (traf_walk id) so pos (b ∷ bs)
      ≡ pick (fresh so.track) (and_then (tfhd_track b.body) (λ v. walk (traf_walk id) (record { track = track.Headed (eqb v id); seen = so.seen }) (pos + b.size) bs)) none
  unfolding walk traf_item pick fall_faults clean traf_now
  box_tfhd so pos b bs e l =
      rw (traf_faults_lem so.track (header_of pos b), body_length_lem b l, e)
      (gate (length b.body) _ (fresh so.track) (tfhd_track b.body) _ _ (tfhd_few b.body) (not_or (fresh so.track)))

  box_tfdt : (so : TrafSo) (pos : ℕ) (b : Box) (bs : List Box) → b.kind ≡ tfdt → length b.body ≤ b.size →
      walk (traf_walk id) so pos (b ∷ bs)
      ≡ pick (headed_track so.track)
      (and_then (tfdt_time b.body) (λ v. pick (clean (fall_faults so.seen.last (timed (reference so.track) pos v)))
      (walk (traf_walk id) (record { track = track.Timed; seen = saw so.seen (reference so.track) v }) (pos + b.size) bs) none)) none
  unfolding walk traf_item pick traf_now
  box_tfdt so pos b bs e l =
      rw (traf_faults_lem so.track (header_of pos b), body_length_lem b l, e)
      (gate (length b.body) _ (headed_track so.track) (tfdt_time b.body) _ _ (tfdt_few b.body) (not-not (headed_track so.track)))

  module _ {X : Type 0} (q : ℕ) (h : Seen → Option X) where
    -- the known boxes that may follow, in each of the three states of a `traf`
    abbrev ended : TrafSo → Option X
    ended so = pick (clean (lacking q so.track)) (h so.seen) none

    abbrev known : List Box → List Box
    known bs = only (tfhd ∷ tfdt ∷ tfad ∷ []) bs

    known_yes : (b : Box) (bs : List Box) → among b.kind (tfhd ∷ tfdt ∷ tfad ∷ []) ≡ true → known (b ∷ bs) ≡ b ∷ known bs
    unfolding only pick
    known_yes b bs e = rw e

    known_no : (b : Box) (bs : List Box) → eqb b.kind tfhd ≡ false → eqb b.kind tfdt ≡ false → eqb b.kind tfad ≡ false → known (b ∷ bs) ≡ known bs
    unfolding only pick among
    known_no b bs e f g = rw (e, f, g)

    traf_from : (t : TrafPhase) (seen : Seen) (pos : ℕ) (bs : List Box) → Fits bs → and_then (walk (traf_walk id) (record { track = t; seen = seen }) pos bs) ended ≡ from_known id t seen (known bs) h
    unfolding walk and_then only among pick from_known from_first after_head after_time lacking clean shows fresh headed_track reference
    traf_from track.Fresh seen pos [] l = refl
    traf_from (track.Headed r) seen pos [] l = refl
    traf_from track.Timed seen pos [] l = refl
    traf_from t seen pos (b ∷ bs) l = at t (which b.kind) (λ t' s. traf_from t' s (pos + b.size) bs l.1)
      where
        at : (t : TrafPhase) → Of b.kind →
            ((t' : TrafPhase) (s : Seen) → and_then (walk (traf_walk id) (record { track = t'; seen = s }) (pos + b.size) bs) ended ≡ from_known id t' s (known bs) h) →
            and_then (walk (traf_walk id) (record { track = t; seen = seen }) pos (b ∷ bs)) ended ≡ from_known id t seen (known (b ∷ bs)) h
        at t (unknown e f g) more = rw (box_unknown (record { track = t; seen = seen }) pos b bs e f g, known_no b bs e f g) (more t seen)
        at track.Fresh (at_tfhd e) more =
            rw (box_tfhd (traf_so0 seen) pos b bs e l.0, known_yes b bs (rw e), e)
            (then_assoc (tfhd_track b.body) _ ended ∙ then_cong (tfhd_track b.body) _ _ (λ v e'. more (track.Headed (eqb v id)) seen))
        at (track.Headed r) (at_tfhd e) more = rw (box_tfhd (record { track = track.Headed r; seen = seen }) pos b bs e l.0, known_yes b bs (rw e), e)
        at track.Timed (at_tfhd e) more = rw (box_tfhd (record { track = track.Timed; seen = seen }) pos b bs e l.0, known_yes b bs (rw e))
        at track.Fresh (at_tfdt e) more = rw (box_tfdt (traf_so0 seen) pos b bs e l.0, known_yes b bs (rw e), e)
        at (track.Headed r) (at_tfdt e) more =
            rw (box_tfdt (record { track = track.Headed r; seen = seen }) pos b bs e l.0, known_yes b bs (rw e), e)
            (then_assoc (tfdt_time b.body) _ ended
            ∙ then_cong (tfdt_time b.body) _ _
            (λ v e'. then_pick (clean (fall_faults seen.last (timed r pos v))) _ ended
            ∙ ap (λ o. pick (clean (fall_faults seen.last (timed r pos v))) o none) (more track.Timed (saw seen r v))
            ∙ climb_one seen r pos v (λ s. after_time (known bs) (h s))))
        at track.Timed (at_tfdt e) more = rw (box_tfdt (record { track = track.Timed; seen = seen }) pos b bs e l.0, known_yes b bs (rw e))
        at track.Fresh (at_tfad e) more = rw (box_tfad (traf_so0 seen) pos b bs e, known_yes b bs (rw e), e)
        at (track.Headed r) (at_tfad e) more = rw (box_tfad (record { track = track.Headed r; seen = seen }) pos b bs e, known_yes b bs (rw e), e)
        at track.Timed (at_tfad e) more = rw (box_tfad (record { track = track.Timed; seen = seen }) pos b bs e, known_yes b bs (rw e))

-- The boxes of a `traf`: rule 6. No box has a body longer than its size.
pub traf_walk_lem : {X : Type 0} (id q : ℕ) (seen : Seen) (pos : ℕ) (bs : List Box) (h : Seen → Option X) → Fits bs →
    and_then (walk (traf_walk id) (traf_so0 seen) pos bs) (λ so. pick (clean (lacking q so.track)) (h so.seen) none)
    ≡ and_then (head_and_time id (only (tfhd ∷ tfdt ∷ tfad ∷ []) bs)) (λ ts. and_then (climb seen ts) h)
unfolding from_known
traf_walk_lem id q seen pos bs h l = traf_from id q h track.Fresh seen pos bs l ∙ sym (head_and_time_lem id seen (only (tfhd ∷ tfdt ∷ tfad ∷ []) bs) h)
