-- An index entry, read by structure, comes to what the tree says of it, at every level.
use Prim.Native.Nat.{ℕ, zero, suc, ◌+◌, ◌-◌, ◌*◌, ◌≤◌, ◌<◌}
use mathlib.Core.Path.{◌≡◌, refl, ap, sym, ◌∙◌}
use mathlib.Core.List.{List, ◌∷◌, ◌++◌}
use mathlib.Core.Option.{Option, some, none}
use mathlib.Core.Bool.{Bool, true, false, not}
use native.Mathlib.Omega.{arith}
use lib.Dec.{eqb, ltb}
use lib.ListN.{length, drop, length-drop}
use Rattle.basics.specs.Choose.{pick, and_then}
use Rattle.basics.proofs.Tests.{same_test}
use Rattle.basics.proofs.Options.{then_cong, then_assoc, then_pick}
use Rattle.segment.specs.Constants.{entry_bytes, sidx}
use Rattle.segment.specs.Boxes as tree
use Rattle.segment.specs.Boxes.{Box, first_box, sidx_index, sizes, durations}
use Rattle.segment.specs.Tree.{Opened, open_index, Part, index_part, suits_entry, inner_index, under_index, tile}
use Rattle.segment.proofs.Said.{FirstBox, first_box_lem, Inner, inner_says}
use Rattle.machine.specs.Run.{Res, after}
use Rattle.machine.specs.declared.Header.{Header}
use Rattle.state.specs.declared.Top.{Top}
use Rattle.state.specs.declared.Span.{Span}
use Rattle.state.specs.declared.Level.{Level}
use Rattle.state.specs.declared.Slot.{Slot}
use Rattle.state.specs.declared.IndexRead.{IndexRead}
use Rattle.state.specs.Flow.{Flow, Left, work_bytes, level_bytes}
use Rattle.basics.specs.Put.{put_all}
use Rattle.state.specs.Rows.{inner_faults}
use Rattle.state.specs.Opening.{span_of}
use Rattle.state.specs.Sidx.{under, part_of}
use Rattle.state.specs.Levels.{slot_of}
use Rattle.state.specs.Stages.{inner_kind, inner_level}
use Rattle.descent.specs.Sidx.{sidx_d}
use Rattle.descent.specs.Whole.{inner_d, under_d}
use Rattle.law_d.proofs.SegmentRun.{too_deep}
use Rattle.demands.specs.Told.{upon, clean, head_length, header_of, index_from, entry_part, with_entries, suits}
use Rattle.demands.specs.Verdict.{Verdict, judge, told, enlist, Meets}
use Rattle.demands.proofs.Verdicts.{judge_after, judge_not, judge_told, told_then}
use Rattle.demands.proofs.Shown.{kind_of, inner_shown}
use Rattle.demands.proofs.HeadTree.{box_tree}
use Rattle.demands.proofs.SidxTree.{suits_under, sidx_fitting, SidxFacts, sidx_facts}
use Rattle.demands.proofs.Stored.{alike_trans, alike_less, put_alike, entry_from, holds}
use Rattle.basics.proofs.Put.{put_length}
use Rattle.demands.proofs.TileTree.{Like, Goes, Follows, Deeper, tile_meets}

-- An inner index suits its place where it suits its entry.
suits_inner : (top : Top) (slot : Slot) (d : ℕ) (span : Span) (o : Opened) (now n dur all : ℕ) → 0 < o.index.scale → span.end ≡ n + o.box.size → slot.end ≡ n + all → slot.until ≡ now + dur →
    suits (under top slot d) span o.index now ≡ suits_entry top.id top.scale now dur all o
unfolding suits_entry
suits_inner top slot d span o now n dur all sc se sl su =
    let es = o.index.entries in
    let e1 = same_test (span.end + sizes es) slot.end (o.box.size + sizes es) all (λ q. omega arith) (λ q. omega arith) in
    let e2 = same_test (now + durations es) slot.until (durations es) dur (λ q. omega arith) (λ q. omega arith) in
    suits_under top slot d span o.index now sc ∙ rw (e1, e2)

-- The first box of an index entry is read where rule 4 allows it.
module _ {X : Type 0} (top : Top) (slot : Slot) (d : ℕ) (f : Flow) (n dur : ℕ) (xs ys : List ℕ) (shallow : d < 4) (ends : slot.end ≡ n + length xs) (lasts : slot.until ≡ f.now + dur)
    (k : IndexRead → Flow → ℕ → List ℕ → Option X) where
  abbrev body_at : Header → Flow → ℕ → List ℕ → Res IndexRead Flow Left
  body_at h g m cs = sidx_d (under top slot d) (span_of h) g m cs

  -- what is made of an index of the tree
  abbrev opened : Opened → Option X
  opened o = k (index_from o.index) (with_entries f (under top slot d) o.index o.box.body) (n + o.box.size) (o.rest ++ ys)

  abbrev suiting : Opened → Option Opened
  suiting o = pick (suits_entry top.id top.scale f.now dur (length xs) o) (some o) none

  body_read : (b : Box) → FirstBox xs b →
      pick (not (ltb (length b.body) 24)) (upon (body_at (header_of n b) f (n + head_length b) (b.body ++ (drop b.size xs ++ ys))) k) none ≡ and_then (and_then (open_index b xs) suiting) opened
  unfolding open_index and_then
  body_read b fb =
      sidx_fitting (under top slot d) (span_of (header_of n b)) f (n + head_length b) b.body (drop b.size xs ++ ys) k (omega (arith, fb.bodied))
      ∙ then_cong (sidx_index b.body) _ _
      (λ i e.
      let o : Opened = record { box = b; index = i; rest = drop b.size xs } in
      ap (λ (t : Bool). pick t (opened o) none) (suits_inner top slot d (span_of (header_of n b)) o f.now n dur (length xs) (sidx_facts b.body i e).scaled refl ends lasts)
      ∙ sym (then_pick (suits_entry top.id top.scale f.now dur (length xs) o) (some o) opened))
      ∙ sym (ap (λ (z : Option Opened). and_then z opened) (then_assoc (sidx_index b.body) _ suiting) ∙ then_assoc (sidx_index b.body) _ opened)

  one_box : (b : Box) → FirstBox xs b →
      pick (clean (inner_faults d (header_of n b))) (upon (body_at (header_of n b) f (n + head_length b) (b.body ++ (drop b.size xs ++ ys))) k) none
      ≡ and_then (pick (eqb b.kind sidx) (and_then (open_index b xs) suiting) none) opened
  unfolding pick and_then
  one_box b fb =
      let same : b.size - head_length b ≡ length b.body = omega (arith, fb.bodied) in
      rw (inner_shown d (header_of n b) shallow (kind_of b.kind), same) (at (eqb b.kind sidx))
    where
      at : (t : Bool) → pick (pick t (not (ltb (length b.body) 24)) false) (upon (body_at (header_of n b) f (n + head_length b) (b.body ++ (drop b.size xs ++ ys))) k) none
          ≡ and_then (pick t (and_then (open_index b xs) suiting) none) opened
      at false = refl
      at true = body_read b fb

  inner_tree : upon (inner_d top slot d f n (xs ++ ys)) k ≡ and_then (inner_index top.id top.scale f.now dur xs) opened
  unfolding inner_index
  inner_tree =
      box_tree (inner_kind top slot d) refl body_at f n xs ys k ends
      ∙ then_cong (first_box xs) _ _ (λ b e. one_box b (first_box_lem xs b e))
      ∙ sym (then_assoc (first_box xs) _ opened)

-- One level: an index entry, given what is known of the level below.
module _ (X : Type 0) (top : Top) (k depth : ℕ) (one : 1 ≤ depth) (shallow : depth < 4) (deeper : Deeper X top (suc depth) (under_d k top) (under_index top.id top.scale k)) where
  module _ (e : tree.Entry) (f g : Flow) (n : ℕ) (xs ys : List ℕ) (h : Goes X) (K : Flow → Verdict X) (sz : e.size ≡ length xs) (long : work_bytes ≤ length f.work) (lk : Like f g)
      (fo : Follows (level_bytes * depth) f.work (f.now + e.duration) h (n + e.size) ys K) where
    abbrev slot : Slot
    slot = slot_of (entry_from e) f.now n

    abbrev below : IndexRead → Flow → ℕ → List ℕ → Verdict X
    below x f' m cs = judge (under_d (suc k) top (suc depth) (inner_level x slot) f' m cs) h

    abbrev said : List Part → Verdict X
    said ps = enlist ps g K

    abbrev tiled : Opened → Option (List Part)
    tiled o = tile top.id (under_index top.id top.scale k) (n + o.box.size) f.now o.index.entries o.rest

    -- an index that rule 4 allows: its entries tile what is left of the entry
    index_meets : (o : Opened) → Inner top.id top.scale f.now e.duration xs o →
        Meets (below (index_from o.index) (with_entries f (under top slot depth) o.index o.box.body) (n + o.box.size) (o.rest ++ ys)) (told (tiled o) said)
    unfolding under_d part_of
    index_meets o i =
        let es = o.index.entries in
        let fa : SidxFacts o.box.body o.index = sidx_facts o.box.body o.index i.says in
        let part : List ℕ = entry_part o.index o.box.body in
        let base : ℕ = level_bytes * depth in
        let F : Flow = with_entries f (under top slot depth) o.index o.box.body in
        let L : Level = inner_level (index_from o.index) slot in
        let fills = i.fills in
        let du = i.lasts in
        let lr : length o.rest ≡ length xs - o.box.size = ap length (sym i.rest) ∙ length-drop o.box.size xs in
        let lp : length (put_all f.work base part) ≡ length f.work = put_length f.work base part in
        let at : level_bytes * (suc depth - 1) + entry_bytes * 0 ≡ base = omega arith in
        let m : n + o.box.size + length o.rest ≡ n + e.size = omega arith in
        tile_meets X top (suc depth) (under_d k top) (under_index top.id top.scale k) deeper es L F g (n + o.box.size) o.rest ys h K (omega arith)
        (record { counted = omega arith; few = fa.few; ends = omega arith; lasts = omega arith; sized = fa.sized })
        (rw at (holds f.work base (length es) part es (omega (arith, fa.few, fa.part_long)) (omega (arith, fa.part_long)) fa.part_read))
        (omega arith) (omega arith) (record { leaves = lk.leaves; last = lk.last; table = lk.table })
        (λ f2 g2 t2 al2 lk2. rw m (fo f2 g2 (omega arith) (alike_trans (put_alike base f.work base part (omega arith)) (alike_less (omega arith) al2)) lk2))

    entry_deeper : Meets (judge (after (inner_d top slot depth f n (xs ++ ys)) (λ x f' m cs. under_d (suc k) top (suc depth) (inner_level x slot) f' m cs)) h)
        (told (under_index top.id top.scale (suc k) n f.now e.duration xs) said)
    unfolding under_index told enlist
    entry_deeper =
        let inner : Option Opened = inner_index top.id top.scale f.now e.duration xs in
        let listing : Opened → Option (List Part) = λ o. and_then (tiled o) (λ ps. some (index_part n o.box.size ∷ ps)) in
        rw (judge_after (inner_d top slot depth f n (xs ++ ys)) (λ x f' m cs. under_d (suc k) top (suc depth) (inner_level x slot) f' m cs) h, told_then inner listing said)
        (judge_told (inner_d top slot depth f n (xs ++ ys)) below inner _ (λ o. told (listing o) said)
        (inner_tree top slot depth f n e.duration xs ys shallow (ap (λ (z : ℕ). n + z) sz) refl (λ x f' m cs. some (below x f' m cs)))
        (λ o q. rw (told_then (tiled o) (λ ps. some (index_part n o.box.size ∷ ps)) said) (index_meets o (inner_says top.id top.scale f.now e.duration xs o q))))

-- Every level.
pub at_level : (X : Type 0) (top : Top) (k depth : ℕ) → k + depth ≡ 4 → 1 ≤ depth → Deeper X top depth (under_d k top) (under_index top.id top.scale k)
unfolding under_index told
at_level X top zero depth q one e f g n xs ys h K sz some_bytes long lk fo =
    let slot : Slot = slot_of (entry_from e) f.now n in
    let four : depth ≡ 4 = omega arith in
    rw (judge_after (inner_d top slot depth f n (xs ++ ys)) (λ x f' m cs. under_d 0 top (suc depth) (inner_level x slot) f' m cs) h)
    (judge_not (inner_d top slot depth f n (xs ++ ys)) _
    (λ x f' m cs r. absurd (too_deep top slot f n (xs ++ ys) x f' m cs (ap (λ (d : ℕ). inner_d top slot d f n (xs ++ ys)) (sym four) ∙ r))))
at_level X top (suc k) depth q one e f g n xs ys h K sz some_bytes long lk fo =
    entry_deeper X top k depth one (omega arith) (at_level X top k (suc depth) (omega arith) (omega arith)) e f g n xs ys h K sz long lk fo
