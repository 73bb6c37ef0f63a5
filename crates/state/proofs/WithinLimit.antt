-- From the start on, byte 268,435,457 of the segment comes neither inside an entry nor before one: each index ends within its container,
-- and what its entries cover within the limit, as rows 5, 6, 11, 12 and 14 have it. What is known after n bytes is kept by each byte.
use Prim.Native.Nat.{ℕ, zero, suc, ◌+◌, ◌-◌, ◌*◌, ◌≤◌, ◌<◌}
use mathlib.Core.Path.{◌≡◌, refl, ap}
use mathlib.Core.List.{List, [], ◌∷◌}
use mathlib.Core.Bool.{Bool, true, false, not, ◌&&◌, ◌||◌}
use mathlib.Core.Option.{Option, some, none}
use native.Mathlib.Omega.{arith}
use lib.Dec.{eqb, ltb, leb}
use borrow.Author.Tests.{ltb-false, eqb-true, eqb-false, not-false}
use Rattle.basics.specs.Choose.{pick}
use Rattle.basics.proofs.Picks.{pick_holds, pick_no}
use Rattle.basics.proofs.Tests.{and_both, or_neither}
use Rattle.segment.specs.Constants.{limit, time_limit, entry_bytes, most_entries, styp, sidx}
use Rattle.machine.specs.Faults.{refusal, shows, lowest, unless}
use Rattle.machine.specs.Run.{Sub, go, done, bad}
use Rattle.machine.specs.Heads.{box_end}
use Rattle.machine.specs.Lists.{BoxPhase, in_head, in_body, step_box, step_boxes}
use Rattle.machine.specs.declared.Refusal.{Refusal}
use Rattle.machine.specs.declared.Header.{Header}
use Rattle.machine.specs.declared.Head.TheVariants as at
use Rattle.machine.proofs.Faults.{unless_none, shows_none, none_first, none_second}
use Rattle.machine.proofs.Kept.{Unrefused, each_shows, unless_holds}
use Rattle.machine.proofs.Unrefused.{Any, unless_unrefused, lift_unrefused, InBox, box_unrefused, Over, boxes_unrefused, boxes_over}
use Rattle.state.specs.declared.Span.{Span}
use Rattle.state.specs.declared.Draft.{Draft}
use Rattle.state.specs.declared.Sums.{Sums}
use Rattle.state.specs.declared.IndexRead.{IndexRead}
use Rattle.state.specs.declared.IndexPart.{IndexPart}
use Rattle.state.specs.declared.IndexPart.TheVariants as part
use Rattle.state.specs.declared.EntryPart.{EntryPart}
use Rattle.state.specs.declared.EntryPart.TheVariants as entry
use Rattle.state.specs.declared.Sidx.{Sidx}
use Rattle.state.specs.declared.Sidx.TheVariants as indexes
use Rattle.state.specs.declared.StypPart.{StypPart}
use Rattle.state.specs.declared.StypPart.TheVariants as styps
use Rattle.state.specs.declared.OpeningBody.{OpeningBody}
use Rattle.state.specs.declared.OpeningBody.TheVariants as body
use Rattle.state.specs.Boxed.{OpeningBoxes}
use Rattle.machine.specs.declared.BoxesSo.TheVariants as inBoxes
use Rattle.state.specs.declared.GapBoxes.{GapBoxes}
use Rattle.state.specs.declared.GapBoxes.TheVariants as gaps
use Rattle.state.specs.declared.LeafSo.{LeafSo}
use Rattle.state.specs.Boxed.{LeafBoxes}
use Rattle.state.specs.declared.Top.{Top}
use Rattle.state.specs.declared.Level.{Level}
use Rattle.state.specs.declared.Levels.{Levels}
use Rattle.state.specs.declared.Levels.TheVariants as levels
use Rattle.state.specs.declared.Slot.{Slot}
use Rattle.state.specs.declared.InnerBox.{InnerBox}
use Rattle.state.specs.declared.InnerBox.TheVariants as inners
use Rattle.state.specs.declared.Stage.{Stage}
use Rattle.state.specs.declared.Stage.TheVariants as stage
use Rattle.state.specs.Flow.{Flow, Left, left, with_now, with_work}
use Rattle.state.specs.Rows.{is}
use Rattle.state.specs.Sidx as Index
use Rattle.state.specs.Sidx.{Place, topmost, under, count_faults, sum_faults, entry_size, entry_size_faults, word_place, index_of, close_sidx, field_ends, entry_ends, step_sidx}
use Rattle.state.specs.Opening.{OpeningGave, passed, indexed, brands_from, styp_ends, skip_opening, begin_opening, step_opening_body, opening_kind, close_opening, opening, wrap_opening, step_opening}
use Rattle.state.specs.Leaf.{leaf_so0, leaf_next, leaf_now, leaf_boxes, wrap_leaf, step_leaf}
use Rattle.state.specs.Levels.{entry_at, entry_place, inmost, depth, took, took_entry, push, passed_all, still_one, still_two, still_three, still_open, altered, entry_faults, slot_of}
use Rattle.state.specs.declared.StoredEntry.{StoredEntry}
use Rattle.state.specs.Stages.{gap_next, gap_boxes, wrap_gap, step_gap, onward, follow, top_of, top_level, index_ends, step_in_leaf, step_slot, step_entry, step_stage}
use Rattle.state.specs.Stages.{InnerBody, lift_sidx, inner_kind, wrap_inner, inner_level, step_inner}
use Rattle.state.specs.Places.{sidx_byte, opening_body_byte, opening_byte, stage_byte, stored_at}
use Rattle.state.specs.Step.{World, reading, ended, refused, settle, past_limit, entry_shows, over_limit, left_over, step, step_all, stage0, flow0}
use Rattle.state.specs.Ranges.{sizes_read}
use Rattle.state.proofs.Phases.{Unaltered, unaltered}

-- The indexes that stand open.

-- an index has an entry to come: 1, or else 0
unfoldable pub to_come : Level → ℕ
to_come l = pick (passed_all l) 0 1

to_come_lem : (l : Level) → passed_all l ≡ false → to_come l ≡ 1
unfolding to_come
to_come_lem l e = pick_no (passed_all l) 0 1 e

to_come_most : (l : Level) → to_come l ≤ 1
unfolding to_come
to_come_most l = pick_holds (λ (k : ℕ). k ≤ 1) (passed_all l) 0 1 (λ e. omega arith) (λ e. omega arith)

-- after `p` bytes: each ends no earlier than the one inside it, and later where it has an entry to come; the top one ends within the limit
abbrev Fits : Levels → ℕ → Type 0
Fits (levels.One a) p = (p + to_come a ≤ a.end) × (a.end ≤ limit)
Fits (levels.Two a b) p = (p + to_come b ≤ b.end) × (b.end + to_come a ≤ a.end) × (a.end ≤ limit)
Fits (levels.Three a b c) p = (p + to_come c ≤ c.end) × (c.end + to_come b ≤ b.end) × (b.end + to_come a ≤ a.end) × (a.end ≤ limit)
Fits (levels.Four a b c d) p =
    (p + to_come d ≤ d.end) × (d.end + to_come c ≤ c.end) × (c.end + to_come b ≤ b.end) × (b.end + to_come a ≤ a.end) × (a.end ≤ limit)

fits_within : (ls : Levels) (p : ℕ) → Fits ls p → p ≤ limit
fits_within (levels.One a) p h = omega arith
fits_within (levels.Two a b) p h = omega arith
fits_within (levels.Three a b c) p h = omega arith
fits_within (levels.Four a b c d) p h = omega arith

-- those that still have an entry to come: so the limit is not reached
abbrev Still : ℕ → Option Levels → Type 0
Still p none = Unit {0}
Still p (some ls) = Fits ls p × (p < limit)

still_one_lem : (a : Level) (p : ℕ) → Fits (levels.One a) p → Still p (still_one a)
unfolding still_one
still_one_lem a p h = pick_holds (Still p) (passed_all a) _ _ (λ e. tt) (λ e. (h, omega (arith, to_come_lem a e)))

still_two_lem : (a b : Level) (p : ℕ) → Fits (levels.Two a b) p → Still p (still_two a b)
unfolding still_two
still_two_lem a b p h = pick_holds (Still p) (passed_all b) _ _ (λ e. still_one_lem a p (omega arith)) (λ e. (h, omega (arith, to_come_lem b e)))

still_three_lem : (a b c : Level) (p : ℕ) → Fits (levels.Three a b c) p → Still p (still_three a b c)
unfolding still_three
still_three_lem a b c p h = pick_holds (Still p) (passed_all c) _ _ (λ e. still_two_lem a b p (omega arith)) (λ e. (h, omega (arith, to_come_lem c e)))

still_open_lem : (ls : Levels) (p : ℕ) → Fits ls p → Still p (still_open ls)
unfolding still_open
still_open_lem (levels.One a) p h = still_one_lem a p h
still_open_lem (levels.Two a b) p h = still_two_lem a b p h
still_open_lem (levels.Three a b c) p h = still_three_lem a b c p h
still_open_lem (levels.Four a b c d) p h = pick_holds (Still p) (passed_all d) _ _ (λ e. still_three_lem a b c p (omega arith)) (λ e. (h, omega (arith, to_come_lem d e)))

-- an entry that is not altered ends within its index, and before its end where another is to come
took_ends : (l : Level) (e : StoredEntry) (now n : ℕ) → entry_faults l e now n ≡ [] → n + e.size + to_come (took l) ≤ l.end
unfolding to_come
took_ends l e now n h =
    let u : Unaltered l e now n = unaltered l e now n (shows_none (altered l e now n) 12 n h) in
    pick_holds (λ (k : ℕ). n + e.size + k ≤ l.end) (passed_all (took l)) 0 1
    (λ last. omega (arith, u.last (eqb-true (suc l.next) l.count last)))
    (λ more. omega (arith, u.more (eqb-false (suc l.next) l.count more)))

took_fits : (ls : Levels) (e : StoredEntry) (now n : ℕ) → entry_faults (inmost ls) e now n ≡ [] → Fits ls n → Fits (took_entry ls) (n + e.size)
unfolding took_entry inmost
took_fits (levels.One a) e now n h f = omega (arith, took_ends a e now n h)
took_fits (levels.Two a b) e now n h f = omega (arith, took_ends b e now n h)
took_fits (levels.Three a b c) e now n h f = omega (arith, took_ends c e now n h)
took_fits (levels.Four a b c d) e now n h f = omega (arith, took_ends d e now n h)

push_fits : (ls : Levels) (l : Level) (p : ℕ) → Fits ls l.end → p + to_come l ≤ l.end → Fits (push ls l) p
unfolding push
push_fits (levels.One a) l p f h = omega arith
push_fits (levels.Two a b) l p f h = omega arith
push_fits (levels.Three a b c) l p f h = omega arith
push_fits (levels.Four a b c d) l p f h = omega arith

-- An index that is being read: the bytes of its entries that are to come end with its box, and each entry that was read has a size.
abbrev InSidx : Span → ℕ → Sidx → Type 0
InSidx span n (indexes.Field i d more acc) = Unit {0}
InSidx span n (indexes.Entry e d s more acc) =
    (s.next < s.count) × (n + more + (8 - word_place e) + entry_bytes * (s.count - suc s.next) < span.end) × (sizes_read e s.next ≤ s.sizes)

-- one that was read whole, after n bytes: what its entries cover has a size, and ends within the limit, or where the index's entry does
abbrev Read : Place → ℕ → IndexRead → Type 0
Read topmost n x = (1 ≤ x.sizes) × (n + x.offset + x.sizes ≤ limit)
Read (under top slot around) n x = (1 ≤ x.sizes) × (n + x.sizes ≡ slot.end)

count_fits : (span : Span) (v n : ℕ) → count_faults span v n ≡ [] → (1 ≤ v) × (span.end ≡ n + entry_bytes * v)
unfolding count_faults
count_fits span v n e =
    let fits : Bool = eqb span.end (n + entry_bytes * v) in
    let some-entry : eqb v 0 ≡ false = (or_neither (eqb v 0) (ltb most_entries v) (shows_none _ 11 span.pos (none_second (shows (not fits) 6 span.pos) _ e))).0 in
    (omega (arith, eqb-false v 0 some-entry), eqb-true _ _ (not-false fits (shows_none (not fits) 6 span.pos (none_first _ _ e))))

sums_fit : (p : Place) (span : Span) (x : IndexRead) (now n : ℕ) → 1 ≤ x.sizes → sum_faults p span x now n ≡ [] → Read p n x
unfolding sum_faults
sums_fit topmost span x now n some_size e =
    (some_size, ltb-false _ _ (or_neither (ltb limit (n + x.offset + x.sizes)) (leb time_limit (x.time + x.durations)) (shows_none _ 14 span.pos e)).0)
sums_fit (under top slot around) span x now n some_size e =
    let both : Bool = eqb (n + x.sizes) slot.end && eqb (now + x.durations) slot.until in
    (some_size, eqb-true _ _ (and_both (eqb (n + x.sizes) slot.end) _ (not-false both (shows_none (not both) 12 span.pos e))).0)

module _ (p : Place) (span : Span) (n : ℕ) where
  abbrev Goes : Sidx → Flow → Type 0
  Goes s f = InSidx span n s

  abbrev Ends : IndexRead → Flow → Type 0
  Ends x f = Read p n x

  field_ends_lem : (i : IndexPart) (d : Draft) (v : ℕ) (f : Flow) → Unrefused Goes Ends (field_ends p span i d v f n)
  unfolding field_ends word_place sizes_read
  field_ends_lem part.Version d v f = unless_unrefused Goes Ends (Index.sidx_version_faults span v n) (left f) _ (λ e. tt)
  field_ends_lem part.Flags d v f = tt
  field_ends_lem part.Id d v f = unless_unrefused Goes Ends (Index.id_faults p span v) (left f) _ (λ e. tt)
  field_ends_lem part.Scale d v f = unless_unrefused Goes Ends (Index.scale_faults p span v) (left f) _ (λ e. tt)
  field_ends_lem part.Time d v f = unless_unrefused Goes Ends (Index.time_faults p span f.now v) (left f) _ (λ e. tt)
  field_ends_lem part.Offset d v f = unless_unrefused Goes Ends (Index.offset_faults p span v) (left f) _ (λ e. tt)
  field_ends_lem part.Reserved d v f = tt
  field_ends_lem part.Count d v f = unless_unrefused Goes Ends (count_faults span v n) (left f) _ (λ e. let h = count_fits span v n e in omega arith)

  close_sidx_lem : (x : IndexRead) (f : Flow) → 1 ≤ x.sizes → Unrefused Goes Ends (close_sidx p span x f n)
  unfolding close_sidx
  close_sidx_lem x f some_size = unless_unrefused Goes Ends (sum_faults p span x f.now n) (left f) _ (λ e. sums_fit p span x f.now n some_size e)

  entry_ends_lem : (e : EntryPart) (d : Draft) (s : Sums) (acc v m : ℕ) (f : Flow) → n ≡ suc m → InSidx span m (indexes.Entry e d s 0 acc) → Unrefused Goes Ends (entry_ends p span e d s v f n)
  unfolding entry_ends word_place sizes_read
  entry_ends_lem entry.Size d s acc v m f at h =
      unless_unrefused Goes Ends (entry_size_faults span v) (left f) _ (λ e. let z = eqb-false (entry_size v) 0 (shows_none _ 11 span.pos e) in omega arith)
  entry_ends_lem entry.Duration d s acc v m f at h = omega arith
  entry_ends_lem entry.Sap d s acc v m f at h =
      pick_holds (Unrefused Goes Ends) (eqb (suc s.next) s.count) _ _ (λ e. close_sidx_lem (index_of d s) f (omega arith))
      (λ e. let z = eqb-false (suc s.next) s.count e in omega arith)

step_sidx_lem : (p : Place) (span : Span) (s : Sidx) (f : Flow) (n b : ℕ) → InSidx span n s → Unrefused (Goes p span (suc n)) (Ends p span (suc n)) (step_sidx p span s f n b)
unfolding step_sidx
step_sidx_lem p span (indexes.Field i d zero acc) f n b h = field_ends_lem p span (suc n) i d (acc * 256 + b) f
step_sidx_lem p span (indexes.Field i d (suc m) acc) f n b h = tt
step_sidx_lem p span (indexes.Entry e d s zero acc) f n b h = entry_ends_lem p span (suc n) e d s acc (acc * 256 + b) n (Index.keep_byte p e s f 0 b) refl h
step_sidx_lem p span (indexes.Entry e d s (suc m) acc) f n b h = omega arith

-- The boxes up to the top index: that one ends within the limit.
abbrev InOpeningBody : ℕ → OpeningBody → Flow → Type 0
InOpeningBody n (body.Skip stop) f = Unit {0}
InOpeningBody n (body.Styp span q listed more acc) f = Unit {0}
InOpeningBody n (body.Index span s) f = (span.end ≤ limit) × InSidx span n s

abbrev InOpening : ℕ → OpeningBoxes → Flow → Type 0
InOpening n (inBoxes.Head branded h) f = Unit {0}
InOpening n (inBoxes.Body branded s) f = InOpeningBody n s f

abbrev Opens : ℕ → OpeningGave → Flow → Type 0
Opens n passed f = Unit {0}
Opens n (indexed x) f = Read topmost n x

module _ (n : ℕ) where
  brands_from_lem : (span : Span) (listed : Bool) (f : Flow) → Unrefused (InOpeningBody n) (Opens n) (brands_from span listed f n)
  unfolding brands_from
  brands_from_lem span listed f =
      pick_holds (Unrefused (InOpeningBody n) (Opens n)) (eqb n span.end) _ _ (λ e. unless_unrefused (InOpeningBody n) (Opens n) (shows (not listed) 8 span.pos) (left f) _ (λ e'. tt)) (λ e. tt)

  styp_ends_lem : (brand : ℕ) (span : Span) (q : StypPart) (listed : Bool) (v : ℕ) (f : Flow) → Unrefused (InOpeningBody n) (Opens n) (styp_ends brand span q listed v f n)
  unfolding styp_ends
  styp_ends_lem brand span styps.Major listed v f = tt
  styp_ends_lem brand span styps.Minor listed v f = brands_from_lem span listed f
  styp_ends_lem brand span styps.Brand listed v f = brands_from_lem span (listed || eqb v brand) f

  skip_opening_lem : (stop : ℕ) (f : Flow) → Unrefused (InOpeningBody n) (Opens n) (skip_opening stop f n)
  skip_opening_lem stop f = pick_holds (Unrefused (InOpeningBody n) (Opens n)) (leb stop n) _ _ (λ e. tt) (λ e. tt)

  begin_opening_lem : (h : Header) (f : Flow) → box_end h ≤ limit → Unrefused (InOpeningBody n) (Opens n) (begin_opening h f n)
  unfolding begin_opening
  begin_opening_lem h f fits =
      pick_holds (Unrefused (InOpeningBody n) (Opens n)) (is h styp) _ _ (λ e. tt)
      (λ e. pick_holds (Unrefused (InOpeningBody n) (Opens n)) (is h sidx) _ _ (λ e'. (fits, tt)) (λ e'. skip_opening_lem (box_end h) f))

step_opening_body_lem : (n brand : ℕ) (s : OpeningBody) (f : Flow) (b : ℕ) → InOpeningBody n s f → Unrefused (InOpeningBody (suc n)) (Opens (suc n)) (step_opening_body brand s f n b)
unfolding step_opening_body
step_opening_body_lem n brand (body.Skip stop) f b h = skip_opening_lem (suc n) stop f
step_opening_body_lem n brand (body.Styp span q listed zero acc) f b h = styp_ends_lem (suc n) brand span q listed (acc * 256 + b) f
step_opening_body_lem n brand (body.Styp span q listed (suc m) acc) f b h = tt
step_opening_body_lem n brand (body.Index span s) f b h =
    lift_unrefused (Goes topmost span (suc n)) (Ends topmost span (suc n)) (InOpeningBody (suc n)) (Opens (suc n)) (body.Index span) (λ x g. done (indexed x) g) (λ x l. x)
    (step_sidx topmost span s f n b) (λ s' g z. (h.0, z)) (λ x g z. z) (step_sidx_lem topmost span s f n b h.1)

close_opening_lem : (n : ℕ) (branded : Bool) (r : OpeningGave) (f : Flow) → Opens n r f → Over (λ x g. Read topmost n x) f (close_opening branded r f n)
unfolding close_opening
close_opening_lem n branded passed f h = tt
close_opening_lem n branded (indexed x) f h = h

opening_box : (n brand : ℕ) (branded : Bool) (s : BoxPhase OpeningBody) (f : Flow) (b : ℕ) → InBox (InOpeningBody n) s f →
    Unrefused (InOpening (suc n)) (λ x g. Read topmost (suc n) x) (step_boxes (opening brand) wrap_opening branded s f n b)
opening_box n brand branded s f b h =
    boxes_unrefused (opening brand) wrap_opening (InOpeningBody (suc n)) (Opens (suc n)) (InOpening (suc n)) (λ x g. Read topmost (suc n) x) (λ a h' g. tt) (λ a s' g z. z)
    branded s f n b (close_opening_lem (suc n) branded)
    (box_unrefused (opening_kind brand branded) (InOpeningBody n) (InOpeningBody (suc n)) (Opens (suc n)) n (begin_opening_lem (suc n)) (step_opening_body_lem n brand) s f b h)

step_opening_lem : (n brand : ℕ) (s : OpeningBoxes) (f : Flow) (b : ℕ) → InOpening n s f → Unrefused (InOpening (suc n)) (λ x g. Read topmost (suc n) x) (step_opening brand s f n b)
unfolding step_opening
step_opening_lem n brand (inBoxes.Head branded x) f b h = opening_box n brand branded (in_head x) f b tt
step_opening_lem n brand (inBoxes.Body branded s) f b h = opening_box n brand branded (in_body s) f b h

-- The gap and a leaf are over where they end.
gap_over : (end n : ℕ) (f : Flow) → Over (λ u g. suc n ≡ end) f (gap_next end (suc n))
unfolding gap_next
gap_over end n f = pick_holds (Over (λ u g. suc n ≡ end) f) (eqb (suc n) end) _ _ (λ e. eqb-true (suc n) end e) (λ e. tt)

leaf_over : (slot : Slot) (so : LeafSo) (n : ℕ) (f : Flow) → Over (λ seen g. suc n ≡ slot.end) f (leaf_next slot so f (suc n))
unfolding leaf_next
leaf_over slot so n f = pick_holds (Over (λ seen g. suc n ≡ slot.end) f) (eqb (suc n) slot.end) _ _ (λ e. eqb-true (suc n) slot.end e) (λ e. tt)

step_gap_lem : (end : ℕ) (s : GapBoxes) (f : Flow) (n b : ℕ) → Unrefused Any (λ u g. suc n ≡ end) (step_gap end s f n b)
unfolding step_gap
step_gap_lem end (gaps.Head h) f n b = boxes_over (gap_boxes end) wrap_gap (λ u g. suc n ≡ end) tt (in_head h) f n b (λ r g. gap_over end n g)
step_gap_lem end (gaps.Body stop) f n b = boxes_over (gap_boxes end) wrap_gap (λ u g. suc n ≡ end) tt (in_body stop) f n b (λ r g. gap_over end n g)

step_leaf_lem : (id : ℕ) (slot : Slot) (s : LeafBoxes) (f : Flow) (n b : ℕ) → Unrefused Any (λ seen g. suc n ≡ slot.end) (step_leaf id slot s f n b)
unfolding step_leaf
step_leaf_lem id slot (inBoxes.Head so h) f n b =
    boxes_over (leaf_boxes id slot) wrap_leaf (λ seen g. suc n ≡ slot.end) so (in_head h) f n b (λ r g. leaf_over slot (leaf_now so r) n g)
step_leaf_lem id slot (inBoxes.Body so s) f n b =
    boxes_over (leaf_boxes id slot) wrap_leaf (λ seen g. suc n ≡ slot.end) so (in_body s) f n b (λ r g. leaf_over slot (leaf_now so r) n g)

-- The first box of an index entry: the index ends no later than the entry.
abbrev InInner : ℕ → Slot → InnerBox → Type 0
InInner n slot (inners.Head h) = Unit {0}
InInner n slot (inners.Body span s) = (span.end ≤ slot.end) × InSidx span n s

-- What is known of a stage after n bytes.
abbrev pub InStage : ℕ → Stage → Flow → Type 0
InStage n (stage.Opening brand s) f = InOpening n s f
InStage n (stage.Gap top l end s) f = Fits (levels.One l) end
InStage n (stage.Entry top ls) f = Fits ls n × (n < limit)
InStage n (stage.Leaf top ls slot s) f = Fits ls slot.end
InStage n (stage.Inner top ls slot s) f = Fits ls slot.end × InInner n slot s

-- what follows has an entry to come, or is the end of the material
onward_fits : (top : Top) (o : Option Levels) (f : Flow) (n : ℕ) → Still n o → Unrefused (InStage n) Any (onward top o f)
unfolding onward
onward_fits top none f n h = tt
onward_fits top (some ls) f n h = h

follow_fits : (top : Top) (ls : Levels) (f : Flow) (n : ℕ) → Fits ls n → Unrefused (InStage n) Any (follow top ls f)
follow_fits top ls f n h = onward_fits top (still_open ls) f n (still_open_lem ls n h)

index_ends_lem : (x : IndexRead) (f : Flow) (n : ℕ) → Read topmost n x → Unrefused (InStage n) Any (index_ends x f n)
unfolding index_ends
index_ends_lem x f n h =
    let most : to_come (top_level x n) ≤ 1 = to_come_most (top_level x n) in
    pick_holds (Unrefused (InStage n) Any) (eqb x.offset 0) _ _
    (λ e. follow_fits (top_of x) (levels.One (top_level x n)) (with_now f x.time) n (omega arith)) (λ e. omega arith)

step_in_leaf_lem : (top : Top) (ls : Levels) (slot : Slot) (s : LeafBoxes) (f : Flow) (n b : ℕ) → Fits ls slot.end → Unrefused (InStage (suc n)) Any (step_in_leaf top ls slot s f n b)
step_in_leaf_lem top ls slot s f n b h =
    lift_unrefused Any (λ seen g. suc n ≡ slot.end) (InStage (suc n)) Any (stage.Leaf top ls slot) _ (λ x l. x) (step_leaf top.id slot s f n b) (λ s' g z. h)
    (λ seen g z. follow_fits top ls _ (suc n) (rw z h)) (step_leaf_lem top.id slot s f n b)

module _ (top : Top) (ls : Levels) (slot : Slot) (h : Fits ls slot.end) where
  abbrev InInnerBody : ℕ → InnerBody → Flow → Type 0
  InInnerBody n s f = (s.span.end ≤ slot.end) × InSidx s.span n s.sidx

  abbrev Inner-ends : ℕ → IndexRead → Flow → Type 0
  Inner-ends n x f = Read (under top slot (depth ls)) n x

  inner_body : (n : ℕ) (s : InnerBody) (f : Flow) (b : ℕ) → InInnerBody n s f →
      Unrefused (InInnerBody (suc n)) (Inner-ends (suc n)) (lift_sidx s.span (step_sidx (under top slot (depth ls)) s.span s.sidx f n b))
  inner_body n s f b z =
      lift_unrefused (Goes (under top slot (depth ls)) s.span (suc n)) (Ends (under top slot (depth ls)) s.span (suc n)) (InInnerBody (suc n)) (Inner-ends (suc n))
      (λ s'. record { span = s.span; sidx = s' }) done (λ x l. x) (step_sidx (under top slot (depth ls)) s.span s.sidx f n b) (λ s' g y. (z.0, y)) (λ x g y. y)
      (step_sidx_lem (under top slot (depth ls)) s.span s.sidx f n b z.1)

  inner_wraps : (n : ℕ) (s : BoxPhase InnerBody) (f : Flow) → InBox (InInnerBody n) s f → InStage n (stage.Inner top ls slot (wrap_inner s)) f
  inner_wraps n (in_head x) f z = (h, tt)
  inner_wraps n (in_body s) f z = (h, z)

  inner_ends : (n : ℕ) (x : IndexRead) (f : Flow) → Inner-ends n x f → Unrefused (InStage n) Any (follow top (push ls (inner_level x slot)) f)
  inner_ends n x f z =
      follow_fits top (push ls (inner_level x slot)) f n (push_fits ls (inner_level x slot) n h (omega (arith, to_come_most (inner_level x slot))))

  step_inner_lem : (n : ℕ) (s : BoxPhase InnerBody) (f : Flow) (b : ℕ) → InBox (InInnerBody n) s f → Unrefused (InStage (suc n)) Any (step_inner top ls slot s f n b)
  step_inner_lem n s f b z =
      lift_unrefused (InBox (InInnerBody (suc n))) (Inner-ends (suc n)) (InStage (suc n)) Any (λ s'. stage.Inner top ls slot (wrap_inner s')) _ (λ x l. x)
      (step_box (inner_kind top slot (depth ls)) s f n b) (inner_wraps (suc n)) (inner_ends (suc n))
      (box_unrefused (inner_kind top slot (depth ls)) (InInnerBody n) (InInnerBody (suc n)) (Inner-ends (suc n)) n (λ x g fits. (fits, tt)) (inner_body n) s f b z)

step_slot_lem : (top : Top) (ls : Levels) (inner : Bool) (slot : Slot) (f : Flow) (n b : ℕ) → Fits ls slot.end → Unrefused (InStage (suc n)) Any (step_slot top ls inner slot f n b)
unfolding step_slot
step_slot_lem top ls true slot f n b h = step_inner_lem top ls slot h n (in_head at.First) f b tt
step_slot_lem top ls false slot f n b h = step_in_leaf_lem top ls slot (inBoxes.Head (leaf_so0 f.last) at.First) f n b h

-- each byte keeps it
pub stage_within : (s : Stage) (f : Flow) (n b : ℕ) → InStage n s f → Unrefused (InStage (suc n)) Any (step_stage s f n b)
unfolding step_stage step_entry
stage_within (stage.Opening brand s) f n b h =
    lift_unrefused (InOpening (suc n)) (λ x g. Read topmost (suc n) x) (InStage (suc n)) Any (stage.Opening brand) (λ x g. index_ends x g (suc n)) (λ x l. x)
    (step_opening brand s f n b) (λ s' g z. z) (λ x g z. index_ends_lem x g (suc n) z) (step_opening_lem n brand s f b h)
stage_within (stage.Gap top l end s) f n b h =
    lift_unrefused Any (λ u g. suc n ≡ end) (InStage (suc n)) Any (stage.Gap top l end) (λ u g. follow top (levels.One l) g) (λ x kept. x) (step_gap end s f n b) (λ s' g z. h)
    (λ u g z. follow_fits top (levels.One l) g (suc n) (rw z h)) (step_gap_lem end s f n b)
stage_within (stage.Entry top ls) f n b h =
    let e : StoredEntry = entry_at f.work (entry_place ls) in
    unless_unrefused (InStage (suc n)) Any (entry_faults (inmost ls) e f.now n) (left f) (step_slot top (took_entry ls) e.inner (slot_of e f.now n) f n b)
    (λ none_shown. step_slot_lem top (took_entry ls) e.inner (slot_of e f.now n) f n b (took_fits ls e f.now n none_shown h.0))
stage_within (stage.Leaf top ls slot s) f n b h = step_in_leaf_lem top ls slot s f n b h
stage_within (stage.Inner top ls slot (inners.Head x)) f n b h = step_inner_lem top ls slot h.0 n (in_head x) f b tt
stage_within (stage.Inner top ls slot (inners.Body span s)) f n b h = step_inner_lem top ls slot h.0 n (in_body (record { span = span; sidx = s })) f b h.1

-- At the limit no entry is being read, and none is to come.
sidx_not : (p : Place) (span : Span) (s : Sidx) → span.end ≤ limit → InSidx span limit s → sidx_byte p s ≡ none
unfolding sidx_byte
sidx_not p span (indexes.Field i d more acc) fits h = refl
sidx_not p span (indexes.Entry e d s more acc) fits h = absurd (omega arith)

opening_not : (s : OpeningBoxes) (f : Flow) → InOpening limit s f → opening_byte s ≡ none
unfolding opening_byte opening_body_byte
opening_not (inBoxes.Head branded h) f z = refl
opening_not (inBoxes.Body branded (body.Skip stop)) f z = refl
opening_not (inBoxes.Body branded (body.Styp span q listed more acc)) f z = refl
opening_not (inBoxes.Body branded (body.Index span s)) f z = sidx_not topmost span s z.0 z.1

limit_unstored : (s : Stage) (f : Flow) → InStage limit s f → stage_byte s ≡ none
unfolding stage_byte
limit_unstored (stage.Opening brand s) f h = opening_not s f h
limit_unstored (stage.Gap top l end s) f h = refl
limit_unstored (stage.Entry top ls) f h = refl
limit_unstored (stage.Leaf top ls slot s) f h = refl
limit_unstored (stage.Inner top ls slot (inners.Head x)) f h = refl
limit_unstored (stage.Inner top ls slot (inners.Body span s)) f h =
    let most : slot.end ≤ limit = fits_within ls slot.end h.0 in
    sidx_not (under top slot (depth ls)) span s (omega (arith, h.1.0)) h.1.1

limit_unaltered : (s : Stage) (f : Flow) → InStage limit s f → entry_shows s f limit ≡ []
unfolding entry_shows
limit_unaltered (stage.Opening brand s) f h = refl
limit_unaltered (stage.Gap top l end s) f h = refl
limit_unaltered (stage.Entry top ls) f h = absurd (omega (arith, h.1))
limit_unaltered (stage.Leaf top ls slot s) f h = refl
limit_unaltered (stage.Inner top ls slot s) f h = refl

-- so byte 268,435,457 gives 3 alone, and nothing of it is stored
pub limit_alone : (s : Stage) (f : Flow) (b : ℕ) (x : Refusal) → InStage limit s f → (over_limit s f limit x ≡ x) × (left_over s f b ≡ left f)
unfolding over_limit stored_at
limit_alone s f b x h =
    (unless_none (entry_shows s f limit) (λ y. y) x (limit_unaltered s f h), ap (λ (place : Option ℕ). left (with_work f (stored_at f.work place b))) (limit_unstored s f h))

-- From the start on.
pub start_within : (brand : ℕ) (f : Flow) → InStage 0 (stage0 brand) f
start_within brand f = tt

abbrev InWorld : World → Type 0
InWorld (reading n s f) = InStage n s f
InWorld (ended n top kept) = Unit {0}
InWorld (refused n x kept) = Unit {0}

settle_within : (n : ℕ) (r : Sub Stage Top Flow Left) → Unrefused (InStage n) Any r → InWorld (settle n r)
unfolding settle
settle_within n (go s f) h = h
settle_within n (done top f) h = tt
settle_within n (bad x kept) h = tt

step_within : (w : World) (b : ℕ) → InWorld w → InWorld (step w b)
unfolding step
step_within (reading n s f) b h =
    unless_holds (λ x. Unit {0}) InWorld (past_limit n) _ _ (each_shows (λ x. Unit {0}) (eqb n limit) 3 limit tt) (λ x z. tt) (λ e. settle_within (suc n) _ (stage_within s f n b h))
step_within (ended n top kept) b h = tt
step_within (refused n x kept) b h = tt

run_within : (w : World) (bs : List ℕ) → InWorld w → InWorld (step_all w bs)
unfolding step_all
run_within w [] h = h
run_within w (b ∷ bs) h = run_within (step w b) bs (step_within w b h)

pub start_past : (brand : ℕ) (bs work table : List ℕ) (s : Stage) (f : Flow) (b : ℕ) → step_all (reading 0 (stage0 brand) (flow0 work table)) bs ≡ reading limit s f →
    step (reading limit s f) b ≡ refused (suc limit) (refusal 3 limit) (left f)
unfolding step shows unless lowest
start_past brand bs work table s f b e =
    let known : InWorld (reading limit s f) = rw e at (run_within (reading 0 (stage0 brand) (flow0 work table)) bs (start_within brand (flow0 work table))) in
    let (number, kept) = limit_alone s f b (refusal 3 limit) known in
    rw (number, kept)
