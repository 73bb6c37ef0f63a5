-- The entries of an index, read by structure, come to what the tree says of them.
use Prim.Native.Nat.{ℕ, suc, ◌+◌, ◌-◌, ◌*◌, ◌≤◌, ◌<◌}
use mathlib.Core.Path.{◌≡◌, refl, ap, sym, subst, ◌∙◌}
use mathlib.Core.List.{List, [], ◌∷◌, ◌++◌, append_assoc}
use mathlib.Core.Option.{Option, some, none}
use mathlib.Core.Bool.{Bool, true, false, not}
use native.Mathlib.Omega.{arith}
use lib.Dec.{eqb}
use lib.ListN.{length, take, drop, take-append-drop, length-drop}
use lib.Seq.{length-take-le}
use borrow.Author.Tests.{eq-eqb, ne_eqb, le-ltb, lt-leb}
use Rattle.basics.specs.Choose.{pick, and_then}
use Rattle.segment.specs.Constants.{entry_bytes, most_entries}
use Rattle.segment.specs.Boxes as tree
use Rattle.segment.specs.Boxes.{sizes, durations}
use Rattle.segment.specs.Leaves.{leaf_times}
use Rattle.segment.specs.Tree as tree'
use Rattle.segment.specs.Tree.{Part, leaf_part, leaf_of, first_time, entry_parts, tile}
use Rattle.segment.proofs.NonEmpty.{Sized}
use Rattle.machine.specs.Faults.{shows, unless}
use Rattle.machine.specs.Run.{Res, after}
use Rattle.state.specs.declared.Seen.{Seen}
use Rattle.state.specs.declared.Top.{Top}
use Rattle.state.specs.declared.Level.{Level}
use Rattle.state.specs.declared.Slot.{Slot}
use Rattle.state.specs.Flow.{Flow, Left, listed, work_bytes, level_bytes}
use Rattle.state.specs.Rows.{no_room}
use Rattle.state.specs.Levels.{entry_at, altered, slot_of, took}
use Rattle.state.specs.Stages.{inner_level, leaf_record}
use Rattle.descent.specs.Leaf.{leaf_d}
use Rattle.descent.specs.Whole.{UnderD, inner_d, slot_d, read_back_d, entry_part_d, entry_parts_d}
use Rattle.demands.specs.Told.{climb}
use Rattle.covering.specs.Records.{record_of}
use Rattle.demands.specs.Verdict.{Verdict, judge, told, seen0, enlist, Meets}
use Rattle.demands.proofs.Verdicts.{meets_trans, judge_after, judge_not, judge_told, told_then, told_meets, enlist_both}
use Rattle.demands.proofs.Stored.{Alike, alike_trans, alike_refl, entry_from, Holds, holds_alike}
use Rattle.demands.proofs.LeafTree.{leaf_tree, leaf_first, leaf_full, leaf_no_room}

-- The same but for the work area and the time.
pub record Like (f g : Flow) : Type 0 where
  pub leaves : f.leaves ≡ g.leaves
  pub last : f.last ≡ g.last
  pub table : f.table ≡ g.table

abbrev pub Goes : Type 0 → Type 0
Goes X = Unit {0} → Flow → ℕ → List ℕ → Verdict X

-- What follows in the reading meets what follows in the tree: at the time `t`, at byte n, before the bytes `ys`, whatever stands in the
-- work area from the place `a` on; below it stands what stands in `w`.
abbrev pub Follows : {X : Type 0} → ℕ → List ℕ → ℕ → Goes X → ℕ → List ℕ → (Flow → Verdict X) → Type 0
Follows a w t h n ys K = (f g : Flow) → f.now ≡ t → Alike a w f.work → Like f g → Meets (h tt f n ys) (K g)

-- How an index stands before its entries `es`: they are those left, and what they take of bytes and of time is all that is left.
pub record Stands (l : Level) (es : List tree.Entry) (n now : ℕ) : Type 0 where
  pub counted : l.next + length es ≡ l.count
  pub few : l.count ≤ most_entries
  pub ends : l.end ≡ n + sizes es
  pub lasts : l.until ≡ now + durations es
  pub sized : Sized es

-- an entry that was not altered shows no fault
not_altered : (l : Level) (e : tree.Entry) (es : List tree.Entry) (n now : ℕ) → Stands l (e ∷ es) n now → altered l (entry_from e) now n ≡ false
unfolding altered sizes durations pick
not_altered l e [] n now st =
    let s : 0 < e.size = st.sized.0 in
    rw (
      ne_eqb e.size 0 (λ q. omega arith),
      le-ltb l.until (now + e.duration) (omega (arith, st.lasts)),
      eq-eqb (suc l.next) l.count (omega (arith, st.counted)),
      eq-eqb (n + e.size) l.end (omega (arith, st.ends)),
      eq-eqb (now + e.duration) l.until (omega (arith, st.lasts)),
    )
not_altered l e (d ∷ es) n now st =
    let s : 0 < e.size = st.sized.0 in
    let s' : 0 < d.size = st.sized.1.0 in
    rw (
      ne_eqb e.size 0 (λ q. omega arith),
      le-ltb l.until (now + e.duration) (omega (arith, st.lasts)),
      ne_eqb (suc l.next) l.count (λ q. omega (arith, st.counted)),
      lt-leb l.end (n + e.size) (omega (arith, st.ends)),
    )

-- the next entry stands as the last one did
stands_next : (l : Level) (e : tree.Entry) (es : List tree.Entry) (n now : ℕ) → Stands l (e ∷ es) n now → Stands (took l) es (n + e.size) (now + e.duration)
unfolding sizes durations
stands_next l e es n now st =
    record { counted = omega (arith, st.counted); few = st.few; ends = omega (arith, st.ends); lasts = omega (arith, st.lasts); sized = st.sized.1 }

-- what the tree says of parts, with what follows them
abbrev pub tells : {X : Type 0} → Option (List Part) → Flow → (Flow → Verdict X) → Verdict X
tells parts g K = told parts (λ ps. enlist ps g K)

module _ (X : Type 0) (top : Top) (depth : ℕ) where
  -- A leaf: its record is written where there is room.
  module _ (e : tree.Entry) (f g : Flow) (n : ℕ) (xs ys : List ℕ) (h : Goes X) (K : Flow → Verdict X) (sized : e.size ≡ length xs) (some_bytes : 0 < length xs)
      (lk : Like f g) (follows : Follows (level_bytes * depth) f.work (f.now + e.duration) h (n + e.size) ys K) where
    abbrev slot : Slot
    slot = slot_of (entry_from e) f.now n

    abbrev leaf_out : Seen → Flow → ℕ → List ℕ → Verdict X
    leaf_out s f' m cs = h tt (listed f' (leaf_record slot f'.now s.first) slot.until s.last) m cs

    abbrev leaf_told : List ℕ → Verdict X
    leaf_told ts = enlist (leaf_part (leaf_of n f.now e ts) ts ∷ []) g K

    listed_like : (ts : List ℕ) (s : Seen) → s.first ≡ first_time ts →
        Meets (leaf_out s f slot.end ys) (K (listed g (record_of (leaf_of n f.now e ts)) (f.now + e.duration) s.last))
    unfolding listed
    listed_like ts s q =
        let e1 : n + e.size - n ≡ e.size = omega arith in
        let e2 : f.now + e.duration - f.now ≡ e.duration = omega arith in
        follows (listed f (leaf_record slot f.now s.first) slot.until s.last) (listed g (record_of (leaf_of n f.now e ts)) (f.now + e.duration) s.last) refl (alike_refl _ _)
        (record { leaves = ap (λ (k : ℕ). suc k) lk.leaves; last = refl; table = rw (e1, e2, q, lk.table, lk.leaves) })

    same_room : (t : Bool) → no_room f.leaves f.table ≡ t → no_room g.leaves g.table ≡ t
    same_room t r = rw (← lk.leaves, ← lk.table) r

    -- a leaf that there is room for
    room_told : (ts : List ℕ) → leaf_times top.id xs ≡ some ts → no_room f.leaves f.table ≡ false → Meets (told (climb (seen0 f.last) ts) (λ s. leaf_out s f slot.end ys)) (leaf_told ts)
    unfolding enlist told pick listed
    room_told ts q r =
        rw (same_room false r, ← lk.last) (told_meets (climb (seen0 f.last) ts) _ _ (λ s c. listed_like ts s (leaf_first top.id f.last xs ts s q c)))

    with_room : no_room f.leaves f.table ≡ false → Meets (judge (leaf_d top.id slot f n (xs ++ ys)) leaf_out) (told (leaf_times top.id xs) leaf_told)
    unfolding told
    with_room r =
        judge_told (leaf_d top.id slot f n (xs ++ ys)) leaf_out (leaf_times top.id xs) _ leaf_told
        (leaf_tree top.id slot f n xs ys (λ q f' m cs. some (leaf_out q f' m cs)) (ap (λ (k : ℕ). n + k) sized) some_bytes r)
        (λ ts q. rw (told_then (climb (seen0 f.last) ts) (λ s. some (leaf_out s f slot.end ys)) (λ v. v)) (room_told ts q r))

    -- a leaf beyond the room
    no_room_lem : no_room f.leaves f.table ≡ true → Meets (judge (leaf_d top.id slot f n (xs ++ ys)) leaf_out) (told (leaf_times top.id xs) leaf_told)
    unfolding told judge enlist pick
    no_room_lem r = at (leaf_times top.id xs) refl
      where
        at : (o : Option (List ℕ)) → leaf_times top.id xs ≡ o → Meets (judge (leaf_d top.id slot f n (xs ++ ys)) leaf_out) (told o leaf_told)
        at none q =
            judge_not (leaf_d top.id slot f n (xs ++ ys)) leaf_out
            (λ s f' m cs e'. absurd (leaf_no_room top.id slot f n (xs ++ ys) refl r s f' m cs e'))
        at (some ts) q = rw ((leaf_full top.id slot f n xs ys ts r refl (ap (λ (k : ℕ). n + k) sized) q).1, same_room true r) refl

    leaf_meets : Meets (judge (leaf_d top.id slot f n (xs ++ ys)) leaf_out) (told (leaf_times top.id xs) leaf_told)
    leaf_meets = at (no_room f.leaves f.table) refl
      where
        at : (t : Bool) → no_room f.leaves f.table ≡ t → Meets (judge (leaf_d top.id slot f n (xs ++ ys)) leaf_out) (told (leaf_times top.id xs) leaf_told)
        at true r = no_room_lem r
        at false r = with_room r

  -- A reading of an entry meets what the tree says of it.
  abbrev pub Entered : (tree.Entry → Flow → ℕ → List ℕ → Res (Unit {0}) Flow Left) → (tree.Entry → ℕ → ℕ → List ℕ → Option (List Part)) → Type 0
  Entered read parts = (e : tree.Entry) (f g : Flow) (n : ℕ) (xs ys : List ℕ) (h : Goes X) (K : Flow → Verdict X) → e.size ≡ length xs → 0 < length xs → work_bytes ≤ length f.work →
      Like f g → Follows (level_bytes * depth) f.work (f.now + e.duration) h (n + e.size) ys K → Meets (judge (read e f n (xs ++ ys)) h) (tells (parts e n f.now xs) g K)

  module _ (inner : UnderD) (underT : tree'.PartsUnder) where
    -- an inner index and all that it indexes
    abbrev pub Deeper : Type 0
    Deeper = Entered
        (λ e f n bs. after (inner_d top (slot_of (entry_from e) f.now n) depth f n bs) (λ x f' m cs. inner (suc depth) (inner_level x (slot_of (entry_from e) f.now n)) f' m cs))
        (λ e n t xs. underT n t e.duration xs)

    module _ (deeper : Deeper) where
      slot_meets : Entered (λ e f n bs. slot_d inner top depth (not (eqb e.kind 0)) (slot_of (entry_from e) f.now n) f n bs) (λ e n t xs. entry_parts top.id underT n t e xs)
      unfolding slot_d entry_parts pick told judge
      slot_meets e f g n xs ys h K sz some_bytes long lk fo = at (eqb e.kind 0)
        where
          leaf : List ℕ → Option (List Part)
          leaf ts = some (leaf_part (leaf_of n f.now e ts) ts ∷ [])

          at : (t : Bool) → Meets (judge (slot_d inner top depth (not t) (slot_of (entry_from e) f.now n) f n (xs ++ ys)) h)
              (tells (pick t (and_then (leaf_times top.id xs) leaf) (underT n f.now e.duration xs)) g K)
          at true =
              rw (judge_after (leaf_d top.id (slot_of (entry_from e) f.now n) f n (xs ++ ys)) _ h, told_then (leaf_times top.id xs) leaf (λ ps. enlist ps g K))
              (leaf_meets e f g n xs ys h K sz some_bytes lk fo)
          at false = deeper e f g n xs ys h K sz some_bytes long lk fo

      -- where the level keeps its next entry
      abbrev place : Level → ℕ
      place l = level_bytes * (depth - 1) + entry_bytes * l.next

      entry_meets : (l : Level) (e : tree.Entry) (es : List tree.Entry) (f g : Flow) (n : ℕ) (xs ys : List ℕ) (h : Goes X) (K : Flow → Verdict X) →
          Stands l (e ∷ es) n f.now → entry_at f.work (place l) ≡ entry_from e → e.size ≡ length xs → work_bytes ≤ length f.work → Like f g →
          Follows (level_bytes * depth) f.work (f.now + e.duration) h (n + e.size) ys K →
          Meets (judge (entry_part_d inner top depth l f n (xs ++ ys)) h) (tells (entry_parts top.id underT n f.now e xs) g K)
      unfolding entry_part_d read_back_d unless shows
      entry_meets l e es f g n [] ys h K st he sz long lk fo = absurd (omega (arith, st.sized.0))
      entry_meets l e es f g n (x ∷ xs) ys h K st he sz long lk fo =
          rw (he, not_altered l e es n f.now st) (slot_meets e f g n (x ∷ xs) ys h K sz (omega arith) long lk fo)

      pub tile_meets : (es : List tree.Entry) (l : Level) (f g : Flow) (n : ℕ) (xs ys : List ℕ) (h : Goes X) (K : Flow → Verdict X) →
          1 ≤ depth → Stands l es n f.now → Holds f.work (place l) es → sizes es ≡ length xs → work_bytes ≤ length f.work → Like f g →
          Follows (level_bytes * depth) f.work (f.now + durations es) h (n + length xs) ys K →
          Meets (judge (entry_parts_d inner top depth (length es) l f n (xs ++ ys)) h) (tells (tile top.id underT n f.now es xs) g K)
      unfolding entry_parts_d tile sizes durations told enlist judge
      tile_meets [] l f g n [] ys h K one st ho sz long lk fo =
          let q : n + 0 ≡ n = omega arith in
          rw q at (fo f g (omega arith) (alike_refl _ _) lk)
      tile_meets [] l f g n (x ∷ xs) ys h K one st ho sz long lk fo = absurd (omega arith)
      tile_meets (e ∷ es) l f g n xs ys h K one st ho sz long lk fo =
          let B = take e.size xs in
          let R = drop e.size xs in
          let lb : length B ≡ e.size = length-take-le e.size xs (omega arith) in
          let lr : length R ≡ length xs - e.size = length-drop e.size xs in
          let tiled : ℕ → Option (List Part) = λ t. tile top.id underT (n + e.size) t es R in
          let rest : Option (List Part) = tiled (f.now + e.duration) in
          let h' : Goes X = λ u f' m cs. judge (entry_parts_d inner top depth (length es) (took l) f' m cs) h in
          let K' : Flow → Verdict X = λ g'. tells rest g' K in
          let cut_at : xs ++ ys ≡ B ++ (R ++ ys) = ap (λ (z : List ℕ). z ++ ys) (sym (take-append-drop e.size xs)) ∙ append_assoc B R ys in
          let next : place l + entry_bytes ≡ place (took l) = omega arith in
          let room : place (took l) + entry_bytes * length es ≤ level_bytes * depth = omega (arith, st.counted, st.few) in
          let follows : Follows (level_bytes * depth) f.work (f.now + e.duration) h' (n + e.size) (R ++ ys) K' =
          λ f1 g1 t1 al lk1.
          let m : n + e.size + length R ≡ n + length xs = omega arith in
          let go_on : Meets (h' tt f1 (n + e.size) (R ++ ys)) (tells (tiled f1.now) g1 K) =
          tile_meets es (took l) f1 g1 (n + e.size) R ys h K one (rw t1 (stands_next l e es n f.now st)) (holds_alike es (place (took l)) al room (rw next at ho.1))
          (omega arith) (omega (arith, al.long)) lk1 (λ f2 g2 t2 al2 lk2. rw m (fo f2 g2 (omega arith) (alike_trans al al2) lk2)) in
          subst (λ (t : ℕ). Meets (h' tt f1 (n + e.size) (R ++ ys)) (tells (tiled t) g1 K)) t1 go_on in
          let parts : Option (List Part) = entry_parts top.id underT n f.now e B in
          let read : Verdict X = judge (entry_part_d inner top depth l f n (B ++ (R ++ ys))) h' in
          let one_entry : Meets read (tells parts g K') = entry_meets l e es f g n B (R ++ ys) h' K' st ho.0 (sym lb) long lk follows in
          rw (ap (λ (z : List ℕ). judge (after (entry_part_d inner top depth l f n z) (λ u g' m cs. entry_parts_d inner top depth (length es) (took l) g' m cs)) h) cut_at
          ∙ judge_after (entry_part_d inner top depth l f n (B ++ (R ++ ys))) _ h)
          (meets_trans read (tells parts g K') (tells (and_then parts (λ ps. and_then rest (λ qs. some (ps ++ qs)))) g K) one_entry (enlist_both parts rest g K))
