-- The leap over whole leaves, one and many, and over an inner index, from the entry's first byte.
use Prim.Native.Nat.{ℕ, zero, suc, ◌+◌, ◌-◌, ◌≤◌, ◌<◌}
use mathlib.Core.Path.{◌≡◌, refl, ap, sym, ◌∙◌}
use mathlib.Core.List.{List, [], ◌∷◌, ◌++◌}
use mathlib.Core.Bool.{Bool, true, false}
use mathlib.Core.Option.{some}
use native.Mathlib.Omega.{arith}
use lib.ListN.{length, take, drop}
use lib.Seq.{take-add}
use borrow.Author.Tests.{ne_eqb}
use Rattle.basics.proofs.Picks.{pick_no}
use Rattle.segment.specs.Constants.{limit}
use Rattle.machine.specs.Faults.{unless}
use Rattle.machine.specs.Run.{Res, okay, fail, cut, bad, either, after}
use Rattle.machine.specs.Lists.{in_head, step_box}
use Rattle.machine.specs.declared.Refusal.{Refusal}
use Rattle.machine.specs.declared.Head.TheVariants as at
use Rattle.machine.proofs.Runs.{consumed_run, shrink_run}
use Rattle.state.specs.declared.Seen.{Seen}
use Rattle.state.specs.declared.Top.{Top}
use Rattle.state.specs.declared.Level.{Level}
use Rattle.state.specs.declared.Levels.{Levels}
use Rattle.state.specs.declared.Levels.TheVariants as levels
use Rattle.state.specs.declared.Slot.{Slot}
use Rattle.state.specs.declared.IndexRead.{IndexRead}
use Rattle.state.specs.declared.StoredEntry.{StoredEntry}
use Rattle.machine.specs.declared.BoxesSo.TheVariants as inBoxes
use Rattle.state.specs.declared.Stage.{Stage}
use Rattle.state.specs.declared.Stage.TheVariants as stage
use Rattle.state.specs.Flow.{Flow, Left, left, listed}
use Rattle.state.specs.Leaf.{leaf_so0, step_leaf}
use Rattle.state.specs.Levels.{entry_at, entry_place, inmost, depth, took, took_entry, push, passed_all, still_open, entry_faults, slot_of}
use Rattle.state.specs.Stages.{onward, follow, inner_kind, inner_level, wrap_inner, leaf_record, step_slot, step_entry, step_stage}
use Rattle.state.specs.Step.{World, reading, refused, settle, step_all}
use Rattle.state.proofs.Cuts.{steps_join}
use Rattle.descent.specs.Leaf.{leaf_d}
use Rattle.descent.specs.Whole.{UnderD, inner_d, slot_d, read_back_d, entry_part_d, entry_parts_d}
use Rattle.law_d.proofs.LeafRun.{leaf_run}
use Rattle.law_d.proofs.SegmentRun.{inner_run, inner_steps, Took, taking, outer_open, still}
use Rattle.law_leap.specs.Levels.{level_at, entry_next}
use Rattle.law_leap.proofs.Leaps.{step_below, first_taken, fails_later, left_over, to_result, to_refusal}

-- One entry, which stands as its index stored it.
module _ (top : Top) (ls : Levels) (f : Flow) (n : ℕ) where
  abbrev stored : StoredEntry
  stored = entry_at f.work (entry_place ls)

  abbrev slot : Slot
  slot = slot_of stored f.now n

  abbrev before : World
  before = reading n (stage.Entry top ls) f

  module _ (sound : entry_faults (inmost ls) stored f.now n ≡ []) where
    -- its first byte is the first of its leaf, or of its inner index
    leaf_first : stored.inner ≡ false → (b : ℕ) (bs : List ℕ) → n < limit →
        step_all before (b ∷ bs) ≡ step_all (reading n (stage.Leaf top (took_entry ls) slot (inBoxes.Head (leaf_so0 f.last) at.First)) f) (b ∷ bs)
    unfolding step_all step_stage step_entry step_slot unless
    leaf_first leaf b bs low =
        rw (step_below (stage.Entry top ls) f n b low, step_below (stage.Leaf top (took_entry ls) slot (inBoxes.Head (leaf_so0 f.last) at.First)) f n b low, sound, leaf) refl

    inner_first : stored.inner ≡ true → (b : ℕ) (bs : List ℕ) → n < limit →
        step_all before (b ∷ bs) ≡ step_all (reading n (stage.Inner top (took_entry ls) slot (wrap_inner (in_head at.First))) f) (b ∷ bs)
    unfolding step_all step_stage step_entry step_slot unless
    inner_first inner b bs low =
        rw (step_below (stage.Entry top ls) f n b low, step_below (stage.Inner top (took_entry ls) slot (wrap_inner (in_head at.First))) f n b low, sound, inner) refl

    -- bytes up to a later count begin with the first
    from_first : (w : World) → ((b : ℕ) (cs : List ℕ) → n < limit → step_all before (b ∷ cs) ≡ step_all w (b ∷ cs)) →
        (bs : List ℕ) (m : ℕ) → 1 ≤ length bs → suc n ≤ m → m ≤ limit → step_all before (take (m - n) bs) ≡ step_all w (take (m - n) bs)
    from_first w h [] m any later low = absurd (omega (arith, any))
    from_first w h (b ∷ bs) m any later low = rw (first_taken n m b bs later) (h b (take (m - suc n) bs) (omega (arith, later, low)))

    pub leaf_passed : stored.inner ≡ false → (bs : List ℕ) (seen : Seen) (g : Flow) (m : ℕ) (cs : List ℕ) → leaf_d top.id slot f n bs ≡ okay seen g m cs → m ≤ limit →
        step_all before (take (m - n) bs) ≡ settle m (follow top (took_entry ls) (listed g (leaf_record slot g.now seen.first) slot.until seen.last))
    unfolding step_stage
    leaf_passed leaf bs seen g m cs e low =
        let start = inBoxes.Head (leaf_so0 f.last) at.First in
        let ran = sym (leaf_run top.id slot f n bs) ∙ e in
        let all = consumed_run left (step_leaf top.id slot) start f n bs seen g m cs ran in
        let fewer = shrink_run left (step_leaf top.id slot) start f n bs seen g m cs ran in
        from_first (reading n (stage.Leaf top (took_entry ls) slot start) f) (leaf_first leaf) bs m (omega (arith, fewer)) (omega (arith, all, fewer)) low
        ∙ to_result (step_leaf top.id slot) (stage.Leaf top (took_entry ls) slot)
        (λ m' seen' g'. follow top (took_entry ls) (listed g' (leaf_record slot g'.now seen'.first) slot.until seen'.last)) (λ m'. bad) (λ s f' n' b. refl)
        bs start f n seen g m cs ran low

    -- the inner index of an entry, by structure
    abbrev pub indexed : List ℕ → Res IndexRead Flow Left
    indexed bs = inner_d top slot (depth ls) f n bs

    abbrev inner_begins : World
    inner_begins = reading n (stage.Inner top (took_entry ls) slot (wrap_inner (in_head at.First))) f

    -- the machine of the box inside the segment's, at the depth of the indexes after this entry was taken
    same_depth : (bs : List ℕ) → indexed bs ≡ inner_d top slot (depth (took_entry ls)) f n bs
    same_depth bs = ap (λ d. inner_d top slot d f n bs) (sym (taking ls).deep)

    pub index_passed : stored.inner ≡ true → (bs : List ℕ) (x : IndexRead) (g : Flow) (m : ℕ) (cs : List ℕ) → indexed bs ≡ okay x g m cs → m ≤ limit →
        step_all before (take (m - n) bs) ≡ settle m (follow top (push (took_entry ls) (inner_level x slot)) g)
    index_passed inner bs x g m cs e low =
        let around = depth (took_entry ls) in
        let ran = sym (inner_run top slot around f n bs) ∙ sym (same_depth bs) ∙ e in
        let all = consumed_run left (step_box (inner_kind top slot around)) (in_head at.First) f n bs x g m cs ran in
        let fewer = shrink_run left (step_box (inner_kind top slot around)) (in_head at.First) f n bs x g m cs ran in
        from_first inner_begins (inner_first inner) bs m (omega (arith, fewer)) (omega (arith, all, fewer)) low
        ∙ to_result (step_box (inner_kind top slot around)) (λ s. stage.Inner top (took_entry ls) slot (wrap_inner s))
        (λ m' x' g'. follow top (push (took_entry ls) (inner_level x' slot)) g') (λ m'. bad) (inner_steps top (took_entry ls) slot)
        bs (in_head at.First) f n x g m cs ran low

    -- a refusal of it comes with a byte that was read
    pub index_later : (bs : List ℕ) (x : Refusal) (l : Left) (m : ℕ) → indexed bs ≡ fail x l m → n < m
    index_later bs x l m e =
        let around = depth (took_entry ls) in
        fails_later (step_box (inner_kind top slot around)) bs (in_head at.First) f n x l m (sym (inner_run top slot around f n bs) ∙ sym (same_depth bs) ∙ e)

    pub index_refused : stored.inner ≡ true → (bs : List ℕ) (x : Refusal) (l : Left) (m : ℕ) → 1 ≤ length bs → indexed bs ≡ fail x l m → m ≤ limit →
        step_all before (take (m - n) bs) ≡ refused m x l
    unfolding settle
    index_refused inner bs x l m any e low =
        let around = depth (took_entry ls) in
        let ran = sym (inner_run top slot around f n bs) ∙ sym (same_depth bs) ∙ e in
        from_first inner_begins (inner_first inner) bs m any (index_later bs x l m e) low
        ∙ to_refusal (step_box (inner_kind top slot around)) (λ s. stage.Inner top (took_entry ls) slot (wrap_inner s))
        (λ m' x' g'. follow top (push (took_entry ls) (inner_level x' slot)) g') (λ m'. bad) (inner_steps top (took_entry ls) slot)
        bs (in_head at.First) f n x l m ran low

-- Nothing that an inner index covers is read.
abbrev pub none_inside : UnderD
none_inside d l g m cs = cut (left g) m

-- An entry that the descent passes without reading what an index covers is a leaf.
module _ (top : Top) (ls : Levels) (f : Flow) (n : ℕ) (g : Flow) (m : ℕ) (cs : List ℕ) (low : m ≤ limit) where
  abbrev e : StoredEntry
  e = entry_at f.work (entry_place ls)

  -- bytes were read, the rest is left, and the entry is taken
  abbrev Passed : List ℕ → Type 0
  Passed bs = (suc n ≤ m) × (cs ≡ drop (m - n) bs) × (step_all (reading n (stage.Entry top ls) f) (take (m - n) bs) ≡ settle m (follow top (took_entry ls) g))

  leaf_gave : entry_faults (inmost ls) e f.now n ≡ [] → e.inner ≡ false → (bs : List ℕ) (r : Res Seen Flow Left) → leaf_d top.id (slot_of e f.now n) f n bs ≡ r → (u : Unit {0}) →
      after r (λ seen h k ds. okay u (listed h (leaf_record (slot_of e f.now n) h.now seen.first) (slot_of e f.now n).until seen.last) k ds) ≡ okay tt g m cs → Passed bs
  unfolding either
  leaf_gave sound leaf bs (okay seen h k ds) read u q =
      let a : listed h (leaf_record (slot_of e f.now n) h.now seen.first) (slot_of e f.now n).until seen.last ≡ g = cc in
      let b : k ≡ m = cc in
      let d : ds ≡ cs = cc in
      let slot' = slot_of e f.now n in
      let start = inBoxes.Head (leaf_so0 f.last) at.First in
      let ran = sym (leaf_run top.id slot' f n bs) ∙ read in
      let all = consumed_run left (step_leaf top.id slot') start f n bs seen h k ds ran in
      let fewer = shrink_run left (step_leaf top.id slot') start f n bs seen h k ds ran in
      rw (← a, ← b, ← d) (omega (arith, all, fewer), left_over (step_leaf top.id slot') bs start f n seen h k ds ran, leaf_passed top ls f n sound leaf bs seen h k ds read (rw b low))
  leaf_gave sound leaf bs (fail x l k) read u q = let z : ◌≡◌ {A = ℕ} 0 1 = cc in absurd (omega arith)
  leaf_gave sound leaf bs (cut l k) read u q = let z : ◌≡◌ {A = ℕ} 0 1 = cc in absurd (omega arith)

  inner_gave : (r : Res IndexRead Flow Left) → after r (λ x h k ds. none_inside (suc (depth ls)) (inner_level x (slot_of e f.now n)) h k ds) ≡ okay tt g m cs → ⊥
  unfolding either
  inner_gave (okay x h k ds) q = let z : ◌≡◌ {A = ℕ} 0 1 = cc in omega arith
  inner_gave (fail x l k) q = let z : ◌≡◌ {A = ℕ} 0 1 = cc in omega arith
  inner_gave (cut l k) q = let z : ◌≡◌ {A = ℕ} 0 1 = cc in omega arith

  slot_gave : entry_faults (inmost ls) e f.now n ≡ [] → (t : Bool) → e.inner ≡ t → (bs : List ℕ) →
      slot_d none_inside top (depth ls) t (slot_of e f.now n) f n bs ≡ okay tt g m cs → Passed bs
  unfolding slot_d
  slot_gave sound true inner bs q = absurd (inner_gave (inner_d top (slot_of e f.now n) (depth ls) f n bs) q)
  slot_gave sound false leaf bs q = leaf_gave sound leaf bs (leaf_d top.id (slot_of e f.now n) f n bs) refl tt q

  entry_gave : (xs : List Refusal) → entry_faults (inmost ls) e f.now n ≡ xs → (bs : List ℕ) →
      unless xs (λ x. fail x (left f) (suc n)) (slot_d none_inside top (depth ls) e.inner (slot_of e f.now n) f n bs) ≡ okay tt g m cs → Passed bs
  unfolding unless
  entry_gave [] sound bs q = slot_gave sound e.inner refl bs q
  entry_gave (x ∷ xs) shown bs q = let z : ◌≡◌ {A = ℕ} 0 1 = cc in absurd (omega arith)

  entry_passed : (bs : List ℕ) → entry_part_d none_inside top (depth ls) (inmost ls) f n bs ≡ okay tt g m cs → Passed bs
  unfolding entry_part_d read_back_d
  entry_passed [] q = let z : ◌≡◌ {A = ℕ} 0 1 = cc in absurd (omega arith)
  entry_passed (b ∷ bs) q = entry_gave (entry_faults (inmost ls) e f.now n) refl (b ∷ bs) q

-- The innermost index at an entry.
next_twice : (ls : Levels) (k : ℕ) → entry_next (took_entry ls) k ≡ entry_next ls k
unfolding entry_next took_entry
next_twice (levels.One a) k = refl
next_twice (levels.Two a b) k = refl
next_twice (levels.Three a b c) k = refl
next_twice (levels.Four a b c d) k = refl

next_one : (ls : Levels) → took_entry ls ≡ entry_next ls (suc (inmost ls).next)
unfolding entry_next took_entry inmost
next_one (levels.One a) = refl
next_one (levels.Two a b) = refl
next_one (levels.Three a b c) = refl
next_one (levels.Four a b c d) = refl

-- an index with an entry to come stands open
still_there : (ls : Levels) → ((inmost ls).next ≡ (inmost ls).count → ⊥) → still_open ls ≡ some ls
still_there ls more = still ls ∙ pick_no (passed_all (inmost ls)) _ _ (ne_eqb (inmost ls).next (inmost ls).count more)

-- Leaves one after the other, so many after the first.
module _ (top : Top) where
  abbrev Passes : ℕ → Levels → Flow → ℕ → List ℕ → Flow → ℕ → Type 0
  Passes k ls f n bs g m =
      (suc n ≤ m) × (step_all (reading n (stage.Entry top ls) f) (take (m - n) bs) ≡ settle m (follow top (entry_next ls ((inmost ls).next + suc k)) g))

  module _ (k : ℕ) (ls : Levels) (few : (inmost ls).next + suc (suc k) ≤ (inmost ls).count) (f : Flow) (n : ℕ) (bs : List ℕ) (g : Flow) (m : ℕ) (cs : List ℕ) (low : m ≤ limit) where
    -- one, and then those after it
    leaf_then : (h : Flow) (j : ℕ) (ds : List ℕ) → entry_part_d none_inside top (depth ls) (inmost ls) f n bs ≡ okay tt h j ds → Passes k (took_entry ls) h j ds g m → Passes (suc k) ls f n bs g m
    unfolding onward settle
    leaf_then h j ds one (later, rest) =
        let (first, left', passed) = entry_passed top ls f n h j ds (omega (arith, later, low)) bs one in
        let stays_open = still_there (took_entry ls) (rw (taking ls).inner (λ z. omega (arith, z, few))) in
        let stands = passed ∙ ap (λ o. settle j (onward top o h)) stays_open in
        let parts : m - n ≡ (j - n) + (m - j) = omega (arith, first, later) in
        let split = ap (λ i. take i bs) parts ∙ take-add (j - n) (m - j) bs in
        let next : (inmost (took_entry ls)).next + suc k ≡ (inmost ls).next + suc (suc k) = rw (taking ls).inner (omega arith) in (
          omega (arith, first, later),
          ap (step_all (reading n (stage.Entry top ls) f)) split
              ∙ steps_join (reading n (stage.Entry top ls) f) (take (j - n) bs) (take (m - j) (drop (j - n) bs))
              ∙ ap (λ w. step_all w (take (m - j) (drop (j - n) bs))) stands
              ∙ ap (λ xs. step_all (reading j (stage.Entry top (took_entry ls)) h) (take (m - j) xs)) (sym left')
              ∙ rest
              ∙ ap (λ i. settle m (follow top (entry_next (took_entry ls) i) g)) next
              ∙ ap (λ ms. settle m (follow top ms g)) (next_twice ls ((inmost ls).next + suc (suc k))),
        )

  -- one alone
  last_leaf : (ls : Levels) (f : Flow) (n : ℕ) (bs : List ℕ) (g : Flow) (m : ℕ) (cs : List ℕ) → m ≤ limit → (r : Res (Unit {0}) Flow Left) →
      entry_part_d none_inside top (depth ls) (inmost ls) f n bs ≡ r → after r (λ u h j ds. entry_parts_d none_inside top (depth ls) 0 (took (inmost ls)) h j ds) ≡ okay tt g m cs →
      Passes 0 ls f n bs g m
  unfolding either entry_parts_d
  last_leaf ls f n bs g m cs low (okay tt h j ds) one q =
      let a : h ≡ g = cc in let b : j ≡ m = cc in
      let (first, left', passed) = entry_passed top ls f n h j ds (rw b low) bs one in
      let next : (inmost ls).next + 1 ≡ suc (inmost ls).next = omega arith in
      rw (← a, ← b, next) (first, passed ∙ ap (λ ms. settle j (follow top ms h)) (next_one ls))
  last_leaf ls f n bs g m cs low (fail x l j) one q = let z : ◌≡◌ {A = ℕ} 0 1 = cc in absurd (omega arith)
  last_leaf ls f n bs g m cs low (cut l j) one q = let z : ◌≡◌ {A = ℕ} 0 1 = cc in absurd (omega arith)

  -- one of many, given those after it
  more_leaves : (k : ℕ) (ls : Levels) → (inmost ls).next + suc (suc k) ≤ (inmost ls).count → (f : Flow) (n : ℕ) (bs : List ℕ) (g : Flow) (m : ℕ) (cs : List ℕ) → m ≤ limit →
      ((h : Flow) (j : ℕ) (ds : List ℕ) → entry_parts_d none_inside top (depth ls) (suc k) (took (inmost ls)) h j ds ≡ okay tt g m cs → Passes k (took_entry ls) h j ds g m) →
      (r : Res (Unit {0}) Flow Left) → entry_part_d none_inside top (depth ls) (inmost ls) f n bs ≡ r →
      after r (λ u h j ds. entry_parts_d none_inside top (depth ls) (suc k) (took (inmost ls)) h j ds) ≡ okay tt g m cs → Passes (suc k) ls f n bs g m
  unfolding either
  more_leaves k ls few f n bs g m cs low rest (okay tt h j ds) one q = leaf_then k ls few f n bs g m cs low h j ds one (rest h j ds q)
  more_leaves k ls few f n bs g m cs low rest (fail x l j) one q = let z : ◌≡◌ {A = ℕ} 0 1 = cc in absurd (omega arith)
  more_leaves k ls few f n bs g m cs low rest (cut l j) one q = let z : ◌≡◌ {A = ℕ} 0 1 = cc in absurd (omega arith)

  pub leaves_passed : (k : ℕ) (ls : Levels) → (inmost ls).next + suc k ≤ (inmost ls).count → (f : Flow) (n : ℕ) (bs : List ℕ) (g : Flow) (m : ℕ) (cs : List ℕ) →
      entry_parts_d none_inside top (depth ls) (suc k) (inmost ls) f n bs ≡ okay tt g m cs → m ≤ limit → Passes k ls f n bs g m
  unfolding entry_parts_d
  leaves_passed zero ls few f n bs g m cs e low = last_leaf ls f n bs g m cs low (entry_part_d none_inside top (depth ls) (inmost ls) f n bs) refl e
  leaves_passed (suc k) ls few f n bs g m cs e low =
      more_leaves k ls few f n bs g m cs low
      (λ h j ds q.
      leaves_passed k (took_entry ls) (rw (taking ls).inner (omega (arith, few))) h j ds g m cs
      (ap (λ d. entry_parts_d none_inside top d (suc k) (inmost (took_entry ls)) h j ds) (taking ls).deep
      ∙ ap (λ l. entry_parts_d none_inside top (depth ls) (suc k) l h j ds) (taking ls).inner ∙ q) low)
      (entry_part_d none_inside top (depth ls) (inmost ls) f n bs) refl e
