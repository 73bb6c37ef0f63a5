-- The segment by structure is the segment read byte by byte.
use Prim.Native.Nat.{ℕ, zero, suc, ◌+◌, ◌≤◌, ◌<◌}
use mathlib.Core.Path.{◌≡◌, refl, ap, sym, ◌∙◌}
use mathlib.Core.List.{List, [], ◌∷◌}
use mathlib.Core.Option.{Option, some, none}
use mathlib.Core.Bool.{Bool, true, false, not, true≢false, ◌&&◌}
use mathlib.Core.Logic.{⊎_elim}
use native.Mathlib.Omega.{arith}
use lib.Dec.{eqb, leb}
use lib.ListN.{length}
use borrow.Author.Tests.{eq-eqb, ne_eqb}
use Rattle.basics.specs.Choose.{pick}
use Rattle.basics.proofs.Picks.{lt_or_ge, pick_yes, pick_no, pick_both}
use Rattle.segment.specs.Constants.{sidx, styp, levels as mostLevels}
use Rattle.machine.specs.Faults.{shows}
use Rattle.machine.specs.Run.{Sub, go, done, bad, lift, Res, okay, either, after, cont_by, run, cont}
use Rattle.machine.specs.Heads.{box_end}
use Rattle.machine.specs.Lists.{BoxPhase, in_head, in_body, step_box, step_boxes, boxes_d}
use Rattle.machine.specs.declared.Header.{Header}
use Rattle.machine.specs.declared.Head.TheVariants as at
use Rattle.machine.proofs.Faults.{unless_both, none_first, none_second, shows_none}
use Rattle.machine.proofs.Runs.{inside, after_cong, after_assoc, after_okay, consumed_run}
use Rattle.machine.proofs.Fields.{skip_run}
use Rattle.machine.proofs.Lists.{box_run, boxes_run}
use Rattle.machine.proofs.Readings.{Anyhow, Never, each_any, says_okay, says_box}
use Rattle.state.specs.declared.Seen.{Seen}
use Rattle.state.specs.declared.Top.{Top}
use Rattle.state.specs.declared.Level.{Level}
use Rattle.state.specs.declared.Levels.{Levels}
use Rattle.state.specs.declared.Levels.TheVariants as levels
use Rattle.state.specs.declared.Slot.{Slot}
use Rattle.state.specs.declared.IndexRead.{IndexRead}
use Rattle.state.specs.declared.GapBoxes.{GapBoxes}
use Rattle.state.specs.declared.GapBoxes.TheVariants as gaps
use Rattle.state.specs.Boxed.{OpeningBoxes}
use Rattle.machine.specs.declared.BoxesSo.TheVariants as inBoxes
use Rattle.state.specs.Boxed.{LeafBoxes}
use Rattle.state.specs.declared.Stage.{Stage}
use Rattle.state.specs.declared.Stage.TheVariants as stage
use Rattle.state.specs.Flow.{Flow, Left, left, with_now, listed}
use Rattle.state.specs.Rows.{is, top_lengths, inner_faults}
use Rattle.state.specs.Opening.{span_of, step_opening}
use Rattle.state.specs.Sidx.{under, sidx_start, step_sidx}
use Rattle.state.specs.Leaf.{leaf_so0, step_leaf}
use Rattle.state.specs.Levels.{entry_at, entry_place, inmost, depth, took, took_entry, push, passed_all, still_one, still_two, still_three, still_open, entry_faults, slot_of}
use Rattle.state.specs.declared.StoredEntry.{StoredEntry}
use Rattle.state.specs.Stages.{gap_kind, gap_boxes, wrap_gap, step_gap, onward, follow, top_of, top_level, index_ends}
use Rattle.state.specs.Stages.{InnerBody, inner_kind, begin_inner, wrap_inner, inner_level, lift_inner, step_inner, leaf_record, lift_leaf, step_slot, step_entry, step_stage}
use Rattle.state.specs.Step.{stage0}
use Rattle.descent.specs.Sidx.{sidx_d}
use Rattle.descent.specs.Opening.{skip_to}
use Rattle.descent.specs.Leaf.{leaf_d}
use Rattle.descent.specs.Whole.{gap_d, UnderD, inner_d, slot_d, read_back_d, entry_part_d, entry_parts_d, under_d, material_d, segment_d}
use Rattle.law_d.proofs.SidxRun.{sidx_run}
use Rattle.law_d.proofs.OpeningRun.{opening_run}
use Rattle.law_d.proofs.LeafRun.{leaf_run}

-- what follows an answer of the segment's machine
abbrev pub S : ℕ → List ℕ → Sub Stage Top Flow Left → Res Top Flow Left
S n bs r = cont left step_stage n bs r

-- The gap.
pub gap_steps : (end : ℕ) (a : Unit {0}) (s : BoxPhase ℕ) (f : Flow) (n b : ℕ) → step_gap end (wrap_gap a s) f n b ≡ step_boxes (gap_boxes end) wrap_gap a s f n b
unfolding step_gap
gap_steps end tt (in_head h) f n b = refl
gap_steps end tt (in_body s) f n b = refl

pub gap_run : (end : ℕ) (f : Flow) (n : ℕ) (bs : List ℕ) →
    boxes_d (gap_boxes end) (λ u h g m cs. skip_to tt (box_end h) g m cs) (length bs) tt f n bs ≡ run left (step_gap end) (gaps.Head at.First) f n bs
gap_run end f n bs =
    boxes_run (gap_boxes end) wrap_gap (step_gap end) (gap_steps end) (λ a. refl) (λ u h g m cs. skip_to tt (box_end h) g m cs)
    (λ a h g m cs. skip_run left (gap_kind end).body (box_end h) (box_end h) tt (λ i l b. refl) g m cs) (length bs) tt f n bs (omega arith)

-- a gap that is accepted, and what is left, are all the bytes
pub gap_consumed : (offset : ℕ) (f : Flow) (n : ℕ) (bs : List ℕ) (u : Unit {0}) (g : Flow) (m : ℕ) (cs : List ℕ) → gap_d offset f n bs ≡ okay u g m cs → m + length cs ≡ n + length bs
unfolding gap_d pick
gap_consumed offset f n bs u g m cs e = by (eqb offset 0) e
  where
    by : (t : Bool) → pick t (okay tt f n bs) (boxes_d (gap_boxes (n + offset)) (λ v h g' m' cs'. skip_to tt (box_end h) g' m' cs') (length bs) tt f n bs) ≡ okay u g m cs →
        m + length cs ≡ n + length bs
    by true q = let a : n ≡ m = cc in let b : bs ≡ cs = cc in rw (a, b)
    by false q = consumed_run left (step_gap (n + offset)) (gaps.Head at.First) f n bs u g m cs (sym (gap_run (n + offset) f n bs) ∙ q)

-- The first box of an index entry.
module _ (top : Top) (slot : Slot) (around : ℕ) where
  inner_body : (h : Header) (f : Flow) (n : ℕ) (bs : List ℕ) →
      sidx_d (under top slot around) (span_of h) f n bs ≡ cont left (inner_kind top slot around).body n bs (begin_inner h f n)
  unfolding lift cont_by
  inner_body h f n bs =
      sidx_run (under top slot around) (span_of h) f n bs
      ∙ sym (after_okay (cont left (step_sidx (under top slot around) (span_of h)) n bs (go sidx_start f)))
      ∙ sym (inside left (step_sidx (under top slot around) (span_of h)) (inner_kind top slot around).body (λ s. record { span = span_of h; sidx = s }) (λ m. done)
      (λ s g m b. refl) n bs (go sidx_start f))

  pub inner_run : (f : Flow) (n : ℕ) (bs : List ℕ) → inner_d top slot around f n bs ≡ run left (step_box (inner_kind top slot around)) (in_head at.First) f n bs
  inner_run f n bs = box_run (inner_kind top slot around) (λ h g m cs. sidx_d (under top slot around) (span_of h) g m cs) inner_body f n bs

-- a header where level 5 would be always shows a fault
deep_faults : (h : Header) → inner_faults 4 h ≡ [] → ⊥
unfolding inner_faults
deep_faults h e =
    let a = none_second (top_lengths h) _ e in
    let b = none_second (shows (is h styp) 7 h.pos) _ a in
    at (is h sidx) (shows_none (not (is h sidx)) 9 h.pos (none_first (shows (not (is h sidx)) 9 h.pos) _ b))
    (shows_none (is h sidx && leb mostLevels 4) 13 h.pos (none_second (shows (not (is h sidx)) 9 h.pos) _ b))
  where
    at : (t : Bool) → not t ≡ false → (t && leb mostLevels 4) ≡ false → ⊥
    at true p q = true≢false q
    at false p q = true≢false p

-- no index is read on level 5
pub too_deep : (top : Top) (slot : Slot) (f : Flow) (n : ℕ) (bs : List ℕ) (x : IndexRead) (g : Flow) (m : ℕ) (cs : List ℕ) → inner_d top slot 4 f n bs ≡ okay x g m cs → ⊥
too_deep top slot f n bs x g m cs e =
    says_okay Never Anyhow (inner_d top slot 4 f n bs) x g m cs e
    (says_box Never Anyhow (inner_kind top slot 4) (λ h g' m' cs'. sidx_d (under top slot 4) (span_of h) g' m' cs') f n bs (λ m'. tt) (λ m'. tt) (λ h m' p. each_any (inner_faults 4 h))
    (λ h m' cs' p q r shown. absurd (deep_faults h shown)))

-- The parts of the segment inside its machine.
in_opening : (brand n : ℕ) (bs : List ℕ) (r : Sub OpeningBoxes IndexRead Flow Left) →
    S n bs (lift (stage.Opening brand) (λ x g. index_ends x g n) bad r) ≡ after (cont left (step_opening brand) n bs r) (λ x g m cs. S m cs (index_ends x g m))
unfolding step_stage
in_opening brand n bs r = inside left (step_opening brand) step_stage (stage.Opening brand) (λ m x g. index_ends x g m) (λ s g m b. refl) n bs r

in_gap : (top : Top) (l : Level) (end n : ℕ) (bs : List ℕ) (r : Sub GapBoxes (Unit {0}) Flow Left) →
    S n bs (lift (stage.Gap top l end) (λ u g. follow top (levels.One l) g) bad r) ≡ after (cont left (step_gap end) n bs r) (λ u g m cs. S m cs (follow top (levels.One l) g))
unfolding step_stage
in_gap top l end n bs r = inside left (step_gap end) step_stage (stage.Gap top l end) (λ m u g. follow top (levels.One l) g) (λ s g m b. refl) n bs r

in_leaf : (top : Top) (ls : Levels) (slot : Slot) (n : ℕ) (bs : List ℕ) (r : Sub LeafBoxes Seen Flow Left) →
    S n bs (lift_leaf top ls slot r)
    ≡ after (cont left (step_leaf top.id slot) n bs r) (λ seen g m cs. S m cs (follow top ls (listed g (leaf_record slot g.now seen.first) slot.until seen.last)))
unfolding step_stage
in_leaf top ls slot n bs r =
    inside left (step_leaf top.id slot) step_stage (stage.Leaf top ls slot) (λ m seen g. follow top ls (listed g (leaf_record slot g.now seen.first) slot.until seen.last))
    (λ s g m b. refl) n bs r

pub inner_steps : (top : Top) (ls : Levels) (slot : Slot) (s : BoxPhase InnerBody) (f : Flow) (n b : ℕ) → step_stage (stage.Inner top ls slot (wrap_inner s)) f n b ≡ step_inner top ls slot s f n b
unfolding step_stage
inner_steps top ls slot (in_head h) f n b = refl
inner_steps top ls slot (in_body s) f n b = refl

in_inner : (top : Top) (ls : Levels) (slot : Slot) (n : ℕ) (bs : List ℕ) (r : Sub (BoxPhase InnerBody) IndexRead Flow Left) →
    S n bs (lift_inner top ls slot r) ≡ after (cont left (step_box (inner_kind top slot (depth ls))) n bs r) (λ x g m cs. S m cs (follow top (push ls (inner_level x slot)) g))
in_inner top ls slot n bs r =
    inside left (step_box (inner_kind top slot (depth ls))) step_stage (λ s. stage.Inner top ls slot (wrap_inner s))
    (λ m x g. follow top (push ls (inner_level x slot)) g) (inner_steps top ls slot) n bs r

-- The open indexes around the innermost one that still have an entry to come.
unfoldable pub outer_open : Levels → Option Levels
outer_open (levels.One a) = none
outer_open (levels.Two a b) = still_one a
outer_open (levels.Three a b c) = still_two a b
outer_open (levels.Four a b c d) = still_three a b c

pub still : (ls : Levels) → still_open ls ≡ pick (passed_all (inmost ls)) (outer_open ls) (some ls)
unfolding still_open still_one still_two still_three outer_open inmost
still (levels.One a) = refl
still (levels.Two a b) = refl
still (levels.Three a b c) = refl
still (levels.Four a b c d) = refl

-- an entry is taken: the innermost index stands at the next one, and nothing else moves
pub record Took (ls : Levels) : Type 0 where
  pub inner : inmost (took_entry ls) ≡ took (inmost ls)
  pub deep : depth (took_entry ls) ≡ depth ls
  pub outer : outer_open (took_entry ls) ≡ outer_open ls

pub taking : (ls : Levels) → Took ls
unfolding inmost took_entry depth outer_open
taking (levels.One a) = record { inner = refl; deep = refl; outer = refl }
taking (levels.Two a b) = record { inner = refl; deep = refl; outer = refl }
taking (levels.Three a b c) = record { inner = refl; deep = refl; outer = refl }
taking (levels.Four a b c d) = record { inner = refl; deep = refl; outer = refl }

-- an index is opened inside the innermost one
record Pushed (ls : Levels) (l : Level) : Type 0 where
  inner : inmost (push ls l) ≡ l
  deeper : depth (push ls l) ≡ suc (depth ls)
  outer : outer_open (push ls l) ≡ still_open ls

pushed : (ls : Levels) (l : Level) → depth ls < 4 → Pushed ls l
unfolding inmost push depth outer_open still_open still_two still_three
pushed (levels.One a) l h = record { inner = refl; deeper = refl; outer = refl }
pushed (levels.Two a b) l h = record { inner = refl; deeper = refl; outer = refl }
pushed (levels.Three a b c) l h = record { inner = refl; deeper = refl; outer = refl }
pushed (levels.Four a b c d) l h = absurd (omega arith)

depth_most : (ls : Levels) → depth ls ≤ 4
unfolding depth
depth_most (levels.One a) = omega arith
depth_most (levels.Two a b) = omega arith
depth_most (levels.Three a b c) = omega arith
depth_most (levels.Four a b c d) = omega arith

-- Levels. What a descent of the innermost index is: the rest of its entries, and then what stands open around it.
module _ (top : Top) where
  abbrev rest : Option Levels → Unit {0} → Flow → ℕ → List ℕ → Res Top Flow Left
  rest o u g m cs = S m cs (onward top o g)

  -- what is known of an index opened inside: its entries, all to come
  abbrev Opens : UnderD → Levels → Type 0
  Opens inner ls = (l : Level) → l.next ≡ 0 → (f : Flow) (n : ℕ) (bs : List ℕ) →
      S n bs (follow top (push (took_entry ls) l) f) ≡ after (inner (suc (depth ls)) l f n bs) (λ u g m cs. S m cs (follow top (took_entry ls) g))

  module _ (inner : UnderD) (ls : Levels) (ih : depth ls < 4 → Opens inner ls) where
    abbrev next : Unit {0} → Flow → ℕ → List ℕ → Res Top Flow Left
    next u g m cs = S m cs (follow top (took_entry ls) g)

    -- below level 4 the index is read on; on it there is none
    deeper : (slot : Slot) (f : Flow) (n : ℕ) (bs : List ℕ) (x : IndexRead) (g : Flow) (m : ℕ) (cs : List ℕ) → inner_d top slot (depth ls) f n bs ≡ okay x g m cs →
        S m cs (follow top (push (took_entry ls) (inner_level x slot)) g) ≡ after (inner (suc (depth ls)) (inner_level x slot) g m cs) next
    deeper slot f n bs x g m cs e =
        ⊎_elim (λ (h : depth ls < 4). ih h (inner_level x slot) refl g m cs)
        (λ (h : 4 ≤ depth ls).
        let four : depth ls ≡ 4 = omega (arith, depth_most ls) in
        absurd (too_deep top slot f n bs x g m cs (ap (λ d. inner_d top slot d f n bs) (sym four) ∙ e)))
        (lt_or_ge (depth ls) 4)

    slot_run : (t : Bool) (slot : Slot) (f : Flow) (n b : ℕ) (bs : List ℕ) →
        S (suc n) bs (step_slot top (took_entry ls) t slot f n b) ≡ after (slot_d inner top (depth ls) t slot f n (b ∷ bs)) next
    unfolding step_slot slot_d run either
    slot_run true slot f n b bs =
        in_inner top (took_entry ls) slot (suc n) bs (step_box (inner_kind top slot (depth (took_entry ls))) (in_head at.First) f n b)
        ∙ ap (λ d. after (run left (step_box (inner_kind top slot d)) (in_head at.First) f n (b ∷ bs)) (λ x g m cs. S m cs (follow top (push (took_entry ls) (inner_level x slot)) g))) (taking ls).deep
        ∙ ap (λ (r : Res IndexRead Flow Left). after r (λ x g m cs. S m cs (follow top (push (took_entry ls) (inner_level x slot)) g))) (sym (inner_run top slot (depth ls) f n (b ∷ bs)))
        ∙ after_cong (inner_d top slot (depth ls) f n (b ∷ bs)) _ _ (λ x g m cs e. deeper slot f n (b ∷ bs) x g m cs e)
        ∙ sym (after_assoc (inner_d top slot (depth ls) f n (b ∷ bs)) (λ x g m cs. inner (suc (depth ls)) (inner_level x slot) g m cs) next)
    slot_run false slot f n b bs =
        in_leaf top (took_entry ls) slot (suc n) bs (step_leaf top.id slot (inBoxes.Head (leaf_so0 f.last) at.First) f n b)
        ∙ ap (λ (r : Res Seen Flow Left). after r (λ seen g m cs. next tt (listed g (leaf_record slot g.now seen.first) slot.until seen.last) m cs))
        (sym (leaf_run top.id slot f n (b ∷ bs)))
        ∙ sym (after_assoc (leaf_d top.id slot f n (b ∷ bs)) (λ seen g m cs. okay tt (listed g (leaf_record slot g.now seen.first) slot.until seen.last) m cs) next)

    entry_run : (f : Flow) (n : ℕ) (bs : List ℕ) → run left step_stage (stage.Entry top ls) f n bs ≡ after (entry_part_d inner top (depth ls) (inmost ls) f n bs) next
    unfolding run step_stage step_entry entry_part_d read_back_d either cont_by
    entry_run f n [] = refl
    entry_run f n (b ∷ bs) =
        let e : StoredEntry = entry_at f.work (entry_place ls) in
        unless_both (S (suc n) bs) (λ r. after r next) _ _ _ _ (entry_faults (inmost ls) e f.now n) (λ x. refl) (slot_run e.inner (slot_of e f.now n) f n b bs)

  entries_run : (inner : UnderD) (k : ℕ) (ls : Levels) → k + (inmost ls).next ≡ (inmost ls).count → ((ms : Levels) → depth ms ≡ depth ls → depth ms < 4 → Opens inner ms) →
      (f : Flow) (n : ℕ) (bs : List ℕ) →
      S n bs (follow top ls f) ≡ after (entry_parts_d inner top (depth ls) k (inmost ls) f n bs) (rest (outer_open ls))
  unfolding entry_parts_d either onward cont_by
  entries_run inner zero ls e ih f n bs = ap (λ o. S n bs (onward top o f)) (still ls ∙ pick_yes (passed_all (inmost ls)) _ _ (eq-eqb (inmost ls).next (inmost ls).count (omega arith)))
  entries_run inner (suc k) ls e ih f n bs =
      ap (λ o. S n bs (onward top o f)) (still ls ∙ pick_no (passed_all (inmost ls)) _ _ (ne_eqb (inmost ls).next (inmost ls).count (λ z. omega arith)))
      ∙ entry_run inner ls (λ h. ih ls refl h) f n bs
      ∙ after_cong (entry_part_d inner top (depth ls) (inmost ls) f n bs) _ _
      (λ u g m cs q.
      entries_run inner k (took_entry ls) (rw (taking ls).inner (omega arith)) (λ ms d h. ih ms (d ∙ (taking ls).deep) h) g m cs
      ∙ rw ((taking ls).inner, (taking ls).deep) (ap (λ o. after (entry_parts_d inner top (depth ls) k (took (inmost ls)) g m cs) (rest o)) (taking ls).outer))
      ∙ sym (after_assoc (entry_part_d inner top (depth ls) (inmost ls) f n bs) (λ u g m cs. entry_parts_d inner top (depth ls) k (took (inmost ls)) g m cs) (rest (outer_open ls)))

  -- an index opened inside, so many levels being left
  opens : (k : ℕ) (ls : Levels) → k + depth ls ≡ 4 → depth ls < 4 → Opens (under_d k top) ls
  unfolding under_d
  opens zero ls e h l z f n bs = absurd (omega arith)
  opens (suc k) ls e h l z f n bs =
      let ps : Levels = push (took_entry ls) l in
      let p : Pushed (took_entry ls) l = pushed (took_entry ls) l (rw (taking ls).deep h) in
      let dp : depth ps ≡ suc (depth ls) = p.deeper ∙ ap (λ (d : ℕ). suc d) (taking ls).deep in
      entries_run (λ d l' g m cs. under_d k top d l' g m cs) l.count ps (rw p.inner (omega arith)) (λ ms d h'. opens k ms (omega arith) h') f n bs
      ∙ rw (p.inner, dp) (ap (λ o. after (entry_parts_d (λ d l' g m cs. under_d k top d l' g m cs) top (suc (depth ls)) l.count l f n bs) (rest o)) p.outer)

  -- the top index
  pub top_run : (l : Level) → l.next ≡ 0 → (f : Flow) (n : ℕ) (bs : List ℕ) → S n bs (follow top (levels.One l) f) ≡ after (under_d 4 top 1 l f n bs) (λ u g m cs. okay top g m cs)
  unfolding under_d inmost depth outer_open onward cont_by
  top_run l z f n bs = entries_run (λ d l' g m cs. under_d 3 top d l' g m cs) l.count (levels.One l) (omega arith) (λ ms d h. opens 3 ms (omega arith) h) f n bs

-- what follows the top index
material_run : (x : IndexRead) (f : Flow) (n : ℕ) (bs : List ℕ) → S n bs (index_ends x f n) ≡ material_d x f n bs
unfolding index_ends material_d gap_d either cont_by lift
material_run x f n bs =
    let K : Unit {0} → Flow → ℕ → List ℕ → Res Top Flow Left = λ u g m cs. after (under_d 4 (top_of x) 1 (top_level x n) g m cs) (λ v h k ds. okay (top_of x) h k ds) in
    pick_both (eqb x.offset 0) (S n bs) (λ r. after r K) _ _ _ _
    (top_run (top_of x) (top_level x n) refl (with_now f x.time) n bs)
    (in_gap (top_of x) (top_level x n) (n + x.offset) n bs (go (gaps.Head at.First) (with_now f x.time))
    ∙ ap (λ (r : Res (Unit {0}) Flow Left). after r (λ u g m cs. S m cs (follow (top_of x) (levels.One (top_level x n)) g))) (sym (gap_run (n + x.offset) (with_now f x.time) n bs))
    ∙ after_cong (boxes_d (gap_boxes (n + x.offset)) (λ u h g m cs. skip_to tt (box_end h) g m cs) (length bs) tt (with_now f x.time) n bs) _ K
    (λ u g m cs e. top_run (top_of x) (top_level x n) refl g m cs))

-- the whole segment
pub segment_run : (brand : ℕ) (f : Flow) (n : ℕ) (bs : List ℕ) → segment_d brand f n bs ≡ run left step_stage (stage0 brand) f n bs
unfolding segment_d cont_by lift
segment_run brand f n bs =
    ap (λ (r : Res IndexRead Flow Left). after r (λ x g m cs. material_d x g m cs)) (opening_run brand f n bs)
    ∙ after_cong (run left (step_opening brand) (inBoxes.Head false at.First) f n bs) _ _ (λ x g m cs e. sym (material_run x g m cs))
    ∙ sym (in_opening brand n bs (go (inBoxes.Head false at.First) f))
