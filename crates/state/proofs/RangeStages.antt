-- The ranges stage by stage: what one byte keeps wherever the reading stands.
use Prim.Native.Nat.{ℕ, suc, ◌+◌, ◌≤◌, ◌<◌}
use mathlib.Core.Path.{◌≡◌, refl}
use mathlib.Core.List.{List, [], ◌∷◌, ◌++◌}
use mathlib.Core.Bool.{Bool, true, false, not, ◌&&◌}
use mathlib.Core.Option.{Option, some, none}
use native.Mathlib.Omega.{arith}
use lib.Dec.{eqb, leb}
use borrow.Author.Tests.{leb-false, not-false}
use Rattle.basics.proofs.Picks.{pick_holds}
use Rattle.basics.proofs.Tests.{and_not}
use Rattle.segment.specs.Constants.{limit, levels as mostLevels, styp, sidx}
use Rattle.table.specs.Table.{most_records}
use Rattle.machine.specs.Faults.{shows}
use Rattle.machine.specs.Run.{Sub, done, bad}
use Rattle.machine.specs.Lists.{BoxPhase, in_head, in_body, step_box}
use Rattle.machine.specs.declared.Header.{Header}
use Rattle.machine.specs.declared.Head.TheVariants as at
use Rattle.machine.proofs.Kept.{Kept, lift_kept, Each, unless_holds}
use Rattle.machine.proofs.Faults.{shows_none, none_first, none_second}
use Rattle.state.specs.declared.Top.{Top}
use Rattle.state.specs.declared.Level.{Level}
use Rattle.state.specs.declared.Levels.{Levels}
use Rattle.state.specs.declared.Levels.TheVariants as levels
use Rattle.state.specs.declared.Slot.{Slot}
use Rattle.state.specs.declared.IndexRead.{IndexRead}
use Rattle.state.specs.declared.InnerBox.TheVariants as inners
use Rattle.state.specs.declared.GapBoxes.{GapBoxes}
use Rattle.state.specs.Boxed.{LeafBoxes}
use Rattle.machine.specs.declared.BoxesSo.TheVariants as inBoxes
use Rattle.state.specs.declared.Stage.{Stage}
use Rattle.state.specs.declared.Stage.TheVariants as stage
use Rattle.state.specs.Flow.{Flow, Left, with_now, listed}
use Rattle.state.specs.Rows.{is, top_lengths, inner_faults}
use Rattle.state.specs.Opening.{step_opening}
use Rattle.state.specs.Sidx.{topmost, under, step_sidx}
use Rattle.state.specs.Leaf.{leaf_so0, step_leaf}
use Rattle.state.specs.Levels.{entry_at, entry_place, inmost, depth, took_entry, push, still_open, entry_faults, slot_of}
use Rattle.state.specs.declared.StoredEntry.{StoredEntry}
use Rattle.state.specs.Stages.{top_of, top_level, index_ends, InnerBody, lift_sidx, inner_kind, wrap_inner, inner_level}
use Rattle.state.specs.Stages.{step_inner, onward, follow, leaf_record, step_in_leaf, step_slot, step_entry, step_gap}
use Rattle.state.specs.Stages.{step_stage}
use Rattle.state.specs.Ranges.{Bound, at_most, below, Within, head_bounds, sidx_bounds, opening_bounds, gap_bounds, leaf_bounds, top_bounds, level_bounds, levels_bounds, slot_bounds, inner_bounds}
use Rattle.state.specs.Ranges.{stage_bounds}
use Rattle.state.proofs.RangeTests.{within_append, within_first, within_second, within_three, three_within, within_four, four_within}
use Rattle.state.proofs.RangeKept.{Numbered, Flows, Refuses, Goes, KeptIn, shown, both, box_bounds, box_kept}
use Rattle.state.proofs.RangeLeaf.{top_lengths_lem, Roomy, step_leaf_lem}
use Rattle.state.proofs.RangeSidx.{Ends, Read, sidx_starts, step_sidx_lem}
use Rattle.state.proofs.RangeOpening.{step_opening_lem, Passes, step_gap_lem}
use Rattle.state.proofs.RangeLevels.{Comes, took_levels, took_until, entry_fits, push_levels, push_inmost, Still, still_open_lem}

-- what a stage keeps where it goes on, and at the end of the material
abbrev pub StageGoes : Stage → Flow → Type 0
StageGoes s f = Within (stage_bounds s f.now) × (f.leaves ≤ most_records)

abbrev pub StageDone : Top → Flow → Type 0
StageDone top f = Within (top_bounds top) × (f.leaves ≤ most_records)

abbrev pub StageKept : Sub Stage Top Flow Left → Type 0
StageKept r = Kept StageGoes StageDone Refuses r

-- an entry may come
entry_goes : (top : Top) (ls : Levels) (f : Flow) → Within (top_bounds top) → Within (levels_bounds ls) → Comes ls f.now → f.leaves ≤ most_records → StageGoes (stage.Entry top ls) f
unfolding stage_bounds
entry_goes top ls f w v c k = (within_three (top_bounds top) (levels_bounds ls) (below (inmost ls).next (inmost ls).count ∷ at_most f.now (inmost ls).until ∷ []) w v (c.0, (c.1, tt)), k)

-- The next entry, or the end of the material.
onward_kept : (top : Top) (o : Option Levels) (f : Flow) → Within (top_bounds top) → Still f.now o → f.leaves ≤ most_records → StageKept (onward top o f)
unfolding onward
onward_kept top none f w s k = (w, k)
onward_kept top (some ls) f w s k = entry_goes top ls f w s.0 s.1 k

follow_kept : (top : Top) (ls : Levels) (f : Flow) → Within (top_bounds top) → Within (levels_bounds ls) → f.now ≤ (inmost ls).until → f.leaves ≤ most_records → StageKept (follow top ls f)
follow_kept top ls f w v h k = onward_kept top (still_open ls) f w (still_open_lem ls f.now v h) k

-- The top index ends.
index_ends_lem : (t : ℕ) (x : IndexRead) (f : Flow) (n : ℕ) → Read t topmost x f → StageKept (index_ends x f n)
unfolding index_ends stage_bounds levels_bounds inmost gap_bounds head_bounds Ends
index_ends_lem t x f n r =
    pick_holds StageKept (eqb x.offset 0) _ _
    (λ e. follow_kept (top_of x) (levels.One (top_level x n)) (with_now f x.time)
    (let w = r.0 in let k : x.time + x.durations < _ = r.1.1 in omega arith) (let w = r.0 in omega arith) (omega arith) r.2.0)
    (λ e. (let w = r.0 in let k : x.time + x.durations < _ = r.1.1 in omega arith, r.2.0))

-- an entry that is being read: what is known around it, when it starts at the time `t`
abbrev Around : Top → Levels → Slot → ℕ → Type 0
Around top ls slot t = Within (top_bounds top) × Within (levels_bounds ls) × Within (slot_bounds ls slot t)

leaf_goes : (top : Top) (ls : Levels) (slot : Slot) (s : LeafBoxes) (t : ℕ) (f : Flow) → Around top ls slot t → Goes t leaf_bounds s f → StageGoes (stage.Leaf top ls slot s) f
unfolding stage_bounds
leaf_goes top ls slot s t f a y = (rw y.1.1 (within_four (top_bounds top) (levels_bounds ls) (slot_bounds ls slot t) (leaf_bounds s) a.0 a.1 a.2 y.0), y.1.0)

step_in_leaf_lem : (top : Top) (ls : Levels) (slot : Slot) (s : LeafBoxes) (f : Flow) (n b : ℕ) → n ≤ limit → b < 256 → Around top ls slot f.now → Within (leaf_bounds s) → f.leaves ≤ most_records →
    StageKept (step_in_leaf top ls slot s f n b)
unfolding listed
step_in_leaf_lem top ls slot s f n b hn hb a w k =
    lift_kept (Goes f.now leaf_bounds) (Roomy f.now) Refuses StageGoes StageDone Refuses (stage.Leaf top ls slot)
    (λ seen g. follow top ls (listed g (leaf_record slot g.now seen.first) slot.until seen.last)) bad (step_leaf top.id slot s f n b)
    (λ s' g y. leaf_goes top ls slot s' f.now g a y)
    (λ seen g y. follow_kept top ls (listed g (leaf_record slot g.now seen.first) slot.until seen.last) a.0 a.1 a.2.1.1.0 y.0)
    (λ x l y. y)
    (step_leaf_lem f.now top.id slot s f n b hn hb w (k, refl))

-- The first box of an index entry.
inner_faults_lem : (around : ℕ) (h : Header) → Each Numbered (inner_faults around h)
unfolding inner_faults
inner_faults_lem around h =
    both _ _ (top_lengths_lem h) (both _ _ (shown _ 7 _ (omega arith)) (both _ _ (shown _ 9 _ (omega arith)) (shown _ 13 _ (omega arith))))

inner_depth : (around : ℕ) (h : Header) → inner_faults around h ≡ [] → around < 4
unfolding inner_faults
inner_depth around h e =
    let e₁ = none_second (shows (is h styp) 7 h.pos) _ (none_second (top_lengths h) _ e) in
    let a : is h sidx ≡ true = not-false _ (shows_none (not (is h sidx)) 9 h.pos (none_first _ _ e₁)) in
    let b : is h sidx && leb mostLevels around ≡ false = shows_none _ 13 h.pos (none_second (shows (not (is h sidx)) 9 h.pos) _ e₁) in
    leb-false mostLevels around (and_not (is h sidx) (leb mostLevels around) a b)

module _ (top : Top) (ls : Levels) (slot : Slot) (t : ℕ) where
  abbrev body_bounds : InnerBody → List Bound
  body_bounds s = below (depth ls) 4 ∷ sidx_bounds s.sidx

  abbrev Inside : IndexRead → Flow → Type 0
  Inside x f = (depth ls < 4) × Read t (under top slot (depth ls)) x f

  inner_body : (s : InnerBody) (f : Flow) (n b : ℕ) → b < 256 → Within (body_bounds s) → Flows t f →
      KeptIn t body_bounds Inside (lift_sidx s.span (step_sidx (under top slot (depth ls)) s.span s.sidx f n b))
  inner_body s f n b hb w k =
      lift_kept (Goes t sidx_bounds) (Read t (under top slot (depth ls))) Refuses (Goes t body_bounds) Inside Refuses (λ s'. record { span = s.span; sidx = s' }) done bad
      (step_sidx (under top slot (depth ls)) s.span s.sidx f n b)
      (λ s' g y. ((w.0, y.0), y.1)) (λ x g y. (w.0, y)) (λ x l y. y) (step_sidx_lem t (under top slot (depth ls)) s.span s.sidx f n b hb w.1 k)

  inner_wraps : (s : BoxPhase InnerBody) → Within (box_bounds body_bounds s) → Within (inner_bounds ls (wrap_inner s))
  unfolding inner_bounds
  inner_wraps (in_head h) w = w
  inner_wraps (in_body s) w = w

  inner_goes : (s : BoxPhase InnerBody) (f : Flow) → Around top ls slot t → Goes t (box_bounds body_bounds) s f → StageGoes (stage.Inner top ls slot (wrap_inner s)) f
  unfolding stage_bounds
  inner_goes s f a y =
      (rw y.1.1 (within_four (top_bounds top) (levels_bounds ls) (slot_bounds ls slot t) (inner_bounds ls (wrap_inner s)) a.0 a.1 a.2 (inner_wraps s y.0)), y.1.0)

  inner_ends : (x : IndexRead) (f : Flow) → Around top ls slot t → Inside x f → StageKept (follow top (push ls (inner_level x slot)) f)
  inner_ends x f a y =
      follow_kept top (push ls (inner_level x slot)) f a.0
      (push_levels ls (inner_level x slot) y.0 a.1 (let w = y.1.0 in omega arith) a.2.1.1.0)
      (rw (push_inmost ls (inner_level x slot) y.0) (let k : f.now ≡ t = y.1.2.1 in omega (arith, a.2.1.0)))
      y.1.2.0

  step_inner_lem : (s : BoxPhase InnerBody) (f : Flow) (n b : ℕ) → n ≤ limit → b < 256 → Around top ls slot t → Within (box_bounds body_bounds s) → Flows t f →
      StageKept (step_inner top ls slot s f n b)
  step_inner_lem s f n b hn hb a w k =
      lift_kept (Goes t (box_bounds body_bounds)) Inside Refuses StageGoes StageDone Refuses (λ s'. stage.Inner top ls slot (wrap_inner s'))
      (λ x g. follow top (push ls (inner_level x slot)) g) bad (step_box (inner_kind top slot (depth ls)) s f n b)
      (λ s' g y. inner_goes s' g a y) (λ x g y. inner_ends x g a y) (λ x l y. y)
      (box_kept t (inner_kind top slot (depth ls)) body_bounds Inside (λ g h. h) (λ h g. inner_faults_lem (depth ls) h)
      (λ h g m e z. ((inner_depth (depth ls) h e, sidx_starts), z)) (λ s' g m c hm hc v z. inner_body s' g m c hc v z) s f n b hn hb w k)

-- An entry, at its first byte.
step_slot_lem : (top : Top) (ls : Levels) (inner : Bool) (slot : Slot) (f : Flow) (n b : ℕ) → n ≤ limit → b < 256 → Around top ls slot f.now → f.leaves ≤ most_records →
    StageKept (step_slot top ls inner slot f n b)
unfolding step_slot leaf_bounds head_bounds
step_slot_lem top ls true slot f n b hn hb a k = step_inner_lem top ls slot f.now (in_head at.First) f n b hn hb a tt (k, refl)
step_slot_lem top ls false slot f n b hn hb a k = step_in_leaf_lem top ls slot (inBoxes.Head (leaf_so0 f.last) at.First) f n b hn hb a tt k

step_entry_lem : (top : Top) (ls : Levels) (e : StoredEntry) (f : Flow) (n b : ℕ) → n ≤ limit → b < 256 → Within (top_bounds top) →
    Within (levels_bounds ls) → Comes ls f.now → f.leaves ≤ most_records →
    StageKept (step_entry top ls e f n b)
unfolding step_entry
step_entry_lem top ls e f n b hn hb w v c k =
    unless_holds Numbered StageKept (entry_faults (inmost ls) e f.now n) _ _ (shown _ 12 _ (omega arith)) (λ y z. (z, k))
    (λ h. step_slot_lem top (took_entry ls) e.inner (slot_of e f.now n) f n b hn hb
    (w, took_levels ls v c.0, (omega arith, (omega arith, (rw (took_until ls) (entry_fits (inmost ls) e f.now n h), tt)))) k)

-- One byte, wherever the reading stands.
gap_goes : (top : Top) (l : Level) (end : ℕ) (s s' : GapBoxes) (t : ℕ) (f : Flow) → Within (stage_bounds (stage.Gap top l end s) t) → Goes t gap_bounds s' f → StageGoes (stage.Gap top l end s') f
unfolding stage_bounds
gap_goes top l end s s' t f w y = (
  rw y.1.1 (within_append (top_bounds top ++ (level_bounds l ++ (at_most t l.until ∷ []))) (gap_bounds s')
      (within_first (top_bounds top ++ (level_bounds l ++ (at_most t l.until ∷ []))) (gap_bounds s) w) y.0),
  y.1.0,
)

gap_ends : (top : Top) (l : Level) (end : ℕ) (s : GapBoxes) (t : ℕ) (f : Flow) → Within (stage_bounds (stage.Gap top l end s) t) → Flows t f → StageKept (follow top (levels.One l) f)
unfolding stage_bounds levels_bounds inmost
gap_ends top l end s t f w y =
    let v = three_within (top_bounds top) (level_bounds l) (at_most t l.until ∷ []) (within_first (top_bounds top ++ (level_bounds l ++ (at_most t l.until ∷ []))) (gap_bounds s) w) in
    follow_kept top (levels.One l) f v.0 v.1 (rw y.1 v.2.0) y.0

pub stage_kept : (s : Stage) (f : Flow) (n b : ℕ) → n ≤ limit → b < 256 → StageGoes s f → StageKept (step_stage s f n b)
unfolding step_stage stage_bounds inner_bounds
stage_kept (stage.Opening brand s) f n b hn hb g =
    lift_kept (Goes f.now opening_bounds) (Read f.now topmost) Refuses StageGoes StageDone Refuses (stage.Opening brand) (λ x h. index_ends x h (suc n)) bad (step_opening brand s f n b)
    (λ s' h y. (y.0, y.1.0)) (λ x h y. index_ends_lem f.now x h (suc n) y) (λ x l y. y) (step_opening_lem f.now brand s f n b hn hb g.0 (g.1, refl))
stage_kept (stage.Gap top l end s) f n b hn hb g =
    lift_kept (Goes f.now gap_bounds) (Passes f.now) Refuses StageGoes StageDone Refuses (stage.Gap top l end) (λ u h. follow top (levels.One l) h) bad (step_gap end s f n b)
    (λ s' h y. gap_goes top l end s s' f.now h g.0 y) (λ u h y. gap_ends top l end s f.now h g.0 y) (λ x kept y. y)
    (step_gap_lem f.now end s f n b hn hb (within_second (top_bounds top ++ (level_bounds l ++ (at_most f.now l.until ∷ []))) (gap_bounds s) g.0) (g.1, refl))
stage_kept (stage.Entry top ls) f n b hn hb g =
    let w = three_within (top_bounds top) (levels_bounds ls) (below (inmost ls).next (inmost ls).count ∷ at_most f.now (inmost ls).until ∷ []) g.0 in
    step_entry_lem top ls (entry_at f.work (entry_place ls)) f n b hn hb w.0 w.1 (w.2.0, w.2.1.0) g.1
stage_kept (stage.Leaf top ls slot s) f n b hn hb g =
    let w = four_within (top_bounds top) (levels_bounds ls) (slot_bounds ls slot f.now) (leaf_bounds s) g.0 in
    step_in_leaf_lem top ls slot s f n b hn hb (w.0, w.1, w.2) w.3 g.1
stage_kept (stage.Inner top ls slot (inners.Head h)) f n b hn hb g =
    let w = four_within (top_bounds top) (levels_bounds ls) (slot_bounds ls slot f.now) (head_bounds h) g.0 in
    step_inner_lem top ls slot f.now (in_head h) f n b hn hb (w.0, w.1, w.2) w.3 (g.1, refl)
stage_kept (stage.Inner top ls slot (inners.Body span s)) f n b hn hb g =
    let w = four_within (top_bounds top) (levels_bounds ls) (slot_bounds ls slot f.now) (below (depth ls) 4 ∷ sidx_bounds s) g.0 in
    step_inner_lem top ls slot f.now (in_body (record { span = span; sidx = s })) f n b hn hb (w.0, w.1, w.2) w.3 (g.1, refl)
