-- Law T: the descent comes to what the tree says: it accepts exactly the tree's segments whose leaves the table has room for, and lists
-- exactly their leaves; where the room ends before the leaves do, it refuses the first leaf beyond with 15.
use Rattle.std.specs.Prelude.{Err}
use Prim.Native.Nat.{ℕ, ◌+◌, ◌-◌, ◌*◌, ◌≤◌, ◌<◌}
use mathlib.Core.Path.{◌≡◌, refl, ap, sym, subst, ◌∙◌}
use mathlib.Core.Logic.{◌≢◌, ⊎_elim}
use mathlib.Core.List.{List, [], ◌∷◌, ◌++◌, append-nil}
use mathlib.Core.Option.{Option, some, none}
use mathlib.Core.Bool.{Bool, true, false, not, ◌||◌}
use native.Mathlib.Omega.{arith}
use lib.Dec.{eqb, ltb, leb}
use lib.ListN.{length, take, drop, replicate, take-append-drop, length-drop, length-append, length-replicate, drop_of_length-le}
use lib.Seq.{length-take-le, take_all}
use borrow.Author.Tests.{eq-eqb, ne_eqb, lt-ltb, le-ltb, ltb-true, leb-true, leb-false}
use Rattle.basics.specs.Choose.{pick, and_then}
use Rattle.basics.proofs.Picks.{lt_or_ge, pick_yes, pick_no}
use Rattle.segment.specs.Constants.{limit, time_limit, entry_bytes}
use Rattle.segment.specs.Boxes as tree
use Rattle.segment.specs.Boxes.{sizes, durations}
use Rattle.segment.specs.Leaves.{never_fall}
use Rattle.segment.specs.Tree.{Part, Opened, top_index, boxes_of_gap, material, tile, under_index, times_in, leaves_in, segment_parts, segment}
use Rattle.segment.proofs.Stands.{top_stands}
use Rattle.machine.specs.Faults.{shows, refusal, lowest}
use Rattle.machine.specs.Run.{Res, okay, fail, cut, either, after}
use Rattle.machine.specs.Limit.{beyond}
use Rattle.machine.specs.declared.Refusal.{Refusal}
use Rattle.machine.proofs.Limits.{beyond_none}
use Rattle.machine.proofs.Runs.{okay_more}
use Rattle.state.specs.declared.Top.{Top}
use Rattle.state.specs.declared.Level.{Level}
use Rattle.state.specs.declared.Levels.TheVariants as levels
use Rattle.state.specs.declared.IndexRead.{IndexRead}
use Rattle.state.specs.Flow.{Flow, Left, left, with_now, work_bytes, level_bytes}
use Rattle.basics.specs.Put.{put_all}
use Rattle.state.specs.Sidx.{topmost, part_of}
use Rattle.state.specs.Stages.{follow, top_of, top_level, step_stage}
use Rattle.state.specs.Step.{past_material, flow0}
use Rattle.descent.specs.Opening.{opening_d}
use Rattle.descent.specs.Whole.{gap_d, under_d, material_d, segment_d, outcome, read_d, whole_d}
use Rattle.law_d.proofs.SegmentRun.{S, gap_consumed, top_run}
use Rattle.demands.specs.Told.{index_from, entry_part, with_entries}
use Rattle.demands.specs.Verdict.{Verdict, wrong, full, fine, judge, told, enlist, NotFine, Meets, Listing, seat, verdict_by, verdict_of}
use Rattle.demands.proofs.Verdicts.{meets_equal, meets_trans, judge_after, judge_cong, judge_not, judge_told, told_then, told_cong, told_meets, told_not, enlist_not, pick_not}
use Rattle.demands.proofs.Stored.{holds}
use Rattle.basics.proofs.Put.{put_length}
use Rattle.demands.proofs.SidxTree.{SidxFacts, sidx_facts}
use Rattle.demands.proofs.TileTree.{Like, Goes, Follows, tells, tile_meets}
use Rattle.demands.proofs.InnerTree.{at_level}
use Rattle.demands.proofs.GapTree.{gap_tree, gap_ends}
use Rattle.demands.proofs.OpeningTree.{at_top, top_end, top_span, opening_tree, top_sums}
use Rattle.demands.proofs.Seats.{listing, enlist_seat, enlist_falls}

pub meets_not : {X : Type 0} (v w : Verdict X) → Meets v w → NotFine w → NotFine v
meets_not v wrong m n = m
meets_not v (full p) m n = rw m tt
meets_not v (fine x) m n = absurd n

-- what a reading gives at its end: its list where no byte is left
unfoldable pub final : Top → Flow → ℕ → List ℕ → Verdict Listing
final top f n [] = listing f
final top f n (b ∷ bs) = wrong

-- what the tree says of parts: their leaves in a table
abbrev seated : List ℕ → List Part → Verdict Listing
seated table ps = seat (leaves_in ps) 0 table

-- whether bytes are left
unfoldable peek : Unit {0} → Flow → ℕ → List ℕ → Verdict (Unit {0})
peek u f n [] = wrong
peek u f n (b ∷ bs) = fine tt

peek_left : (u : Unit {0}) (f : Flow) (n : ℕ) (bs : List ℕ) → 0 < length bs → peek u f n bs ≡ fine tt
unfolding peek
peek_left u f n [] l = absurd (omega arith)
peek_left u f n (b ∷ bs) l = refl

-- The entries of the top index, where the material begins.
module _ (o : Opened) (f0 : Flow) (n : ℕ) (read : tree.sidx_index o.box.body ≡ some o.index) (long : work_bytes ≤ length f0.work) where
  abbrev i : tree.Index
  i = o.index

  abbrev body : List ℕ
  body = o.box.body

  abbrev x : IndexRead
  x = index_from i

  abbrev top : Top
  top = top_of x

  -- what flows there, and the top index's level, which ends at byte n
  abbrev flow : Flow
  flow = with_now (with_entries f0 topmost i body) x.time

  abbrev level : Level
  level = top_level x n

  abbrev under : {X : Type 0} → List ℕ → Goes X → Verdict X
  under bs h = judge (under_d 4 top 1 level flow (n + x.offset) bs) h

  abbrev parts : List ℕ → Option (List Part)
  parts bs = tile top.id (under_index top.id top.scale 3) (n + x.offset) x.time i.entries bs

  same : Like flow flow
  same = record { leaves = refl; last = refl; table = refl }

  -- entries that fill the bytes `A`, with the bytes `B` after them
  entries_meet : {X : Type 0} (A B : List ℕ) (h : Goes X) (K : Flow → Verdict X) → sizes i.entries ≡ length A →
      Follows (level_bytes * 1) flow.work (x.time + durations i.entries) h (n + x.offset + length A) B K →
      Meets (under (A ++ B) h) (tells (parts A) flow K)
  unfolding under_d part_of
  entries_meet {X} A B h K sz fo =
      let fa : SidxFacts body i = sidx_facts body i read in
      let part : List ℕ = entry_part i body in
      let lp : length (put_all f0.work 0 part) ≡ length f0.work = put_length f0.work 0 part in
      let at : level_bytes * (1 - 1) + entry_bytes * 0 ≡ 0 = refl in
      tile_meets X top 1 (under_d 3 top) (under_index top.id top.scale 3) (at_level X top 3 1 refl (omega arith)) i.entries level flow flow (n + x.offset) A B h K (omega arith)
      (record { counted = omega arith; few = fa.few; ends = omega arith; lasts = refl; sized = fa.sized })
      (holds f0.work 0 (length i.entries) part i.entries (omega (arith, fa.few, fa.part_long)) (omega (arith, fa.part_long)) fa.part_read)
      sz (omega arith) same fo

  -- what follows the material in a reading
  abbrev ending : Goes Listing
  ending u f m cs = final top f m cs

  abbrev said : List ℕ → List Part → Verdict Listing
  said table ps = told (pick (never_fall 0 (times_in ps)) (some ps) none) (seated table)

  -- the leaves listed are those that the tree seats
  parts_meet : f0.leaves ≡ 0 → f0.last ≡ 0 → (ps : List Part) → Meets (enlist ps flow listing) (said f0.table ps)
  unfolding told pick enlist
  parts_meet l0 t0 ps = at (never_fall 0 (times_in ps)) refl
    where
      at : (t : Bool) → never_fall 0 (times_in ps) ≡ t → Meets (enlist ps flow listing) (told (pick t (some ps) none) (seated f0.table))
      at true q = meets_equal (enlist ps flow listing) (seated f0.table ps) (enlist_seat ps flow (rw t0 q) ∙ ap (λ (n : ℕ). seat (leaves_in ps) n f0.table) l0)
      at false q = enlist_falls ps flow listing (rw t0 q)

  -- the bytes are those that the entries cover
  exact : f0.leaves ≡ 0 → f0.last ≡ 0 → (A : List ℕ) → sizes i.entries ≡ length A → Meets (under A ending) (told (parts A) (said f0.table))
  unfolding final
  exact l0 t0 A sz =
      meets_trans (under A ending) (told (parts A) (λ is. enlist is flow listing)) (told (parts A) (said f0.table))
      (subst (λ (bs : List ℕ). Meets (under bs ending) (told (parts A) (λ is. enlist is flow listing))) (append-nil A)
      (entries_meet A [] ending listing sz (λ f g t al lk. meets_equal (listing f) (listing g) (rw (lk.leaves, lk.table)))))
      (told_meets (parts A) (λ is. enlist is flow listing) (said f0.table) (λ is e. parts_meet l0 t0 is))

  -- more bytes follow
  longer : (A B : List ℕ) → sizes i.entries ≡ length A → 0 < length B → NotFine (under (A ++ B) ending)
  unfolding final
  longer A [] sz more = absurd (omega arith)
  longer A (b ∷ B) sz more =
      meets_not (under (A ++ (b ∷ B)) ending) (told (parts A) (λ is. enlist is flow (λ g. wrong)))
      (entries_meet A (b ∷ B) ending (λ g. wrong) sz (λ f g t al lk. tt))
      (told_not (parts A) (λ is. enlist is flow (λ g. wrong)) (λ is e. enlist_not is flow (λ g. wrong) (λ g. tt)))

  -- entries that reach past the last byte: with as many bytes more none would be left, and with fewer some would
  none_left : (A : List ℕ) → sizes i.entries ≡ length A → NotFine (under A peek)
  unfolding peek
  none_left A sz =
      meets_not (under A peek) (told (parts A) (λ is. enlist is flow (λ g. wrong)))
      (subst (λ (bs : List ℕ). Meets (under bs peek) (told (parts A) (λ is. enlist is flow (λ g. wrong)))) (append-nil A) (entries_meet A [] peek (λ g. wrong) sz (λ f g t al lk. tt)))
      (told_not (parts A) (λ is. enlist is flow (λ g. wrong)) (λ is e. enlist_not is flow (λ g. wrong) (λ g. tt)))

  some_left : (bs zs : List ℕ) → 0 < length zs → (u : Unit {0}) (g : Flow) (m : ℕ) (cs : List ℕ) → under_d 4 top 1 level flow (n + x.offset) bs ≡ okay u g m cs → under (bs ++ zs) peek ≡ fine tt
  unfolding either judge
  some_left bs zs more u g m cs e =
      let at : ℕ = n + x.offset in
      let ends : Top → Flow → ℕ → List ℕ → Verdict (Unit {0}) = λ t f k ds. peek tt f k ds in
      let done-here : S at bs (follow top (levels.One level) flow) ≡ okay top g m cs =
      top_run top level refl flow at bs ∙ ap (λ (r : Res (Unit {0}) Flow Left). after r (λ v f k ds. okay top f k ds)) e in
      let done-there : S at (bs ++ zs) (follow top (levels.One level) flow) ≡ okay top g m (cs ++ zs) = okay_more left step_stage zs at bs (follow top (levels.One level) flow) top g m cs done-here in
      sym (judge_after (under_d 4 top 1 level flow at (bs ++ zs)) (λ v f k ds. okay top f k ds) ends)
      ∙ ap (λ (r : Res Top Flow Left). judge r ends) (sym (top_run top level refl flow at (bs ++ zs)) ∙ done-there)
      ∙ peek_left tt g m (cs ++ zs) (omega (arith, length-append cs zs))

  shorter : (bs : List ℕ) → length bs < sizes i.entries → NotFine (under bs ending)
  shorter bs short =
      let zs : List ℕ = replicate (sizes i.entries - length bs) 0 in
      let lz : length zs ≡ sizes i.entries - length bs = length-replicate (sizes i.entries - length bs) 0 in
      judge_not (under_d 4 top 1 level flow (n + x.offset) bs) ending
      (λ u g m cs e. absurd (rw (some_left bs zs (omega arith) u g m cs e) at (none_left (bs ++ zs) (omega (arith, length-append bs zs)))))

  -- What follows the top index: the gap, and what the entries cover.
  abbrev past : Unit {0} → Flow → ℕ → List ℕ → Verdict Listing
  past u g m cs = judge (under_d 4 top 1 level g m cs) ending

  material_read : (rest : List ℕ) → judge (material_d x (with_entries f0 topmost i body) n rest) final ≡ judge (gap_d x.offset flow n rest) past
  unfolding material_d judge
  material_read rest =
      judge_after (gap_d x.offset flow n rest) (λ u g m cs. after (under_d 4 top 1 level g m cs) (λ v h k ds. okay top h k ds)) final
      ∙ judge_cong (gap_d x.offset flow n rest) (λ u g m cs. judge (after (under_d 4 top 1 level g m cs) (λ v h k ds. okay top h k ds)) final) past
      (λ u g m cs e. judge_after (under_d 4 top 1 level g m cs) (λ v h k ds. okay top h k ds) final)

  -- a gap that reaches past the last byte
  gap_short : (rest : List ℕ) → length rest < x.offset → NotFine (judge (gap_d x.offset flow n rest) past)
  gap_short rest short =
      judge_not (gap_d x.offset flow n rest) past
      (λ u g m cs e. absurd (omega (arith, gap_ends x.offset flow n rest u g m cs e, gap_consumed x.offset flow n rest u g m cs e)))

  -- a gap that is all there
  gap_meets : (A B : List ℕ) (say : Verdict Listing) → length A ≡ x.offset → Meets (under B ending) say → Meets (judge (gap_d x.offset flow n (A ++ B)) past) (told (boxes_of_gap A) (λ gap. say))
  unfolding told
  gap_meets A B say la h =
      judge_told (gap_d x.offset flow n (A ++ B)) past (boxes_of_gap A) _ (λ gap. say) (gap_tree x.offset flow n A B (λ u g m cs. some (past u g m cs)) la) (λ gap e. h)

  module _ (all : ℕ) (ends : all ≡ n + length o.rest) (l0 : f0.leaves ≡ 0) (t0 : f0.last ≡ 0) where
    abbrev A : List ℕ
    A = take x.offset o.rest

    abbrev B : List ℕ
    B = drop x.offset o.rest

    -- what the tree says from the material on
    abbrev tiled : List ℕ → Option (List Part)
    tiled ys = and_then (tile i.id (under_index i.id i.scale 3) (all - length ys) i.time i.entries ys) (λ ps. pick (never_fall 0 (times_in ps)) (some ps) none)

    -- the material is not as long as the entries say
    wrong_length : length o.rest ≢ i.offset + sizes i.entries → told (and_then (material o) tiled) (seated f0.table) ≡ wrong
    unfolding told and_then pick material
    wrong_length ne = rw (ne_eqb (length o.rest) (i.offset + sizes i.entries) ne)

    right_length : length o.rest ≡ i.offset + sizes i.entries → told (and_then (material o) tiled) (seated f0.table) ≡ told (boxes_of_gap A) (λ gap. told (parts B) (said f0.table))
    unfolding told and_then material
    right_length e =
        let lb : length B ≡ length o.rest - x.offset = length-drop x.offset o.rest in
        let q : all - length B ≡ n + x.offset = omega arith in
        ap (λ (z : Option (List ℕ)). told (and_then z tiled) (seated f0.table))
        (pick_yes (eqb (length o.rest) (i.offset + sizes i.entries)) _ _ (eq-eqb (length o.rest) (i.offset + sizes i.entries) e))
        ∙ told_then (and_then (boxes_of_gap A) (λ gap. some B)) tiled (seated f0.table)
        ∙ told_then (boxes_of_gap A) (λ gap. some B) (λ ys. told (tiled ys) (seated f0.table))
        ∙ told_cong (boxes_of_gap A) (λ gap. told (tiled B) (seated f0.table)) (λ gap. told (parts B) (said f0.table))
        (λ gap r. told_then (tile i.id (under_index i.id i.scale 3) (all - length B) i.time i.entries B) _ (seated f0.table) ∙ rw q)

    rest_meets : Meets (judge (material_d x (with_entries f0 topmost i body) n o.rest) final) (told (and_then (material o) tiled) (seated f0.table))
    rest_meets =
        rw (material_read o.rest)
        (⊎_elim (λ (short : length o.rest < x.offset). rw (wrong_length (λ q. omega arith)) (gap_short o.rest short))
        (λ (long' : x.offset ≤ length o.rest). by_sizes long') (lt_or_ge (length o.rest) x.offset))
      where
        la : x.offset ≤ length o.rest → length A ≡ x.offset
        la l = length-take-le x.offset o.rest l

        read_gap : x.offset ≤ length o.rest → (say : Verdict Listing) → Meets (under B ending) say → Meets (judge (gap_d x.offset flow n o.rest) past) (told (boxes_of_gap A) (λ gap. say))
        read_gap l say h =
            subst (λ (bs : List ℕ). Meets (judge (gap_d x.offset flow n bs) past) (told (boxes_of_gap A) (λ gap. say))) (take-append-drop x.offset o.rest) (gap_meets A B say (la l) h)

        not_exact : x.offset ≤ length o.rest → length o.rest ≢ i.offset + sizes i.entries → NotFine (under B ending) →
            Meets (judge (gap_d x.offset flow n o.rest) past) (told (and_then (material o) tiled) (seated f0.table))
        not_exact l ne nf = rw (wrong_length ne) (meets_not _ (told (boxes_of_gap A) (λ gap. wrong)) (read_gap l wrong nf) (told_not (boxes_of_gap A) (λ gap. wrong) (λ gap e. tt)))

        more_bytes : x.offset ≤ length o.rest → sizes i.entries < length B → NotFine (under B ending)
        more_bytes l lt =
            let z : ℕ = sizes i.entries in
            let ld : length (drop z B) ≡ length B - z = length-drop z B in
            subst (λ (bs : List ℕ). NotFine (under bs ending)) (take-append-drop z B) (longer (take z B) (drop z B) (sym (length-take-le z B (omega arith))) (omega arith))

        by_sizes : x.offset ≤ length o.rest → Meets (judge (gap_d x.offset flow n o.rest) past) (told (and_then (material o) tiled) (seated f0.table))
        by_sizes l =
            let lb : length B ≡ length o.rest - x.offset = length-drop x.offset o.rest in
            ⊎_elim (λ (lt : sizes i.entries < length B). not_exact l (λ q. omega arith) (more_bytes l lt))
            (λ (ge : length B ≤ sizes i.entries).
            ⊎_elim (λ (lt : length B < sizes i.entries). not_exact l (λ q. omega arith) (shorter B lt))
            (λ (le : sizes i.entries ≤ length B).
            rw (right_length (omega arith)) (read_gap l (told (parts B) (said f0.table)) (exact l0 t0 B (omega arith))))
            (lt_or_ge (length B) (sizes i.entries)))
            (lt_or_ge (sizes i.entries) (length B))

-- The whole list, within the limit.
module _ (brand : ℕ) (xs work table : List ℕ) (small : length xs ≤ limit) (long : work_bytes ≤ length work) where
  abbrev f0 : Flow
  f0 = flow0 work table

  abbrev after_top : IndexRead → Flow → ℕ → List ℕ → Verdict Listing
  after_top x g m cs = judge (material_d x g m cs) final

  -- what the reading makes of a top index, and what the tree does
  abbrev read_top : Opened → Verdict Listing
  read_top o = told (at_top f0 (λ x g m cs. some (after_top x g m cs)) (length xs) o) (λ v. v)

  abbrev parts_of : Opened → Option (List Part)
  parts_of o =
      and_then (material o) (λ ys. and_then (tile o.index.id (under_index o.index.id o.index.scale 3) (length xs - length ys) o.index.time o.index.entries ys)
      (λ ps. pick (never_fall 0 (times_in ps)) (some ps) none))

  abbrev say_top : Opened → Verdict Listing
  say_top o = told (pick (ltb (o.index.time + durations o.index.entries) time_limit) (parts_of o) none) (seated table)

  say_is : told (segment brand xs) (λ ls. seat ls 0 table) ≡ told (top_index brand xs) say_top
  unfolding segment segment_parts told
  say_is =
      told_then (segment_parts brand xs) (λ ps. some (leaves_in ps)) (λ ls. seat ls 0 table)
      ∙ ap (λ (z : Option (List Part)). told z (seated table)) (pick_no (ltb limit (length xs)) none _ (le-ltb limit (length xs) small))
      ∙ told_then (top_index brand xs) _ (seated table)

  module _ (o : Opened) (e : top_index brand xs ≡ some o) where
    abbrev index_end_lem : ℕ
    index_end_lem = top_end (length xs) o

    abbrev goes_on : Verdict Listing
    goes_on = after_top (index_from o.index) (with_entries f0 topmost o.index o.box.body) index_end_lem o.rest

    ends : length xs ≡ index_end_lem + length o.rest
    ends = omega (arith, (top_stands brand xs o e).ends)

    rest_told : Meets goes_on (told (parts_of o) (seated table))
    rest_told = rest_meets o f0 index_end_lem (top_stands brand xs o e).says long (length xs) ends refl refl

    too_far : limit < index_end_lem + o.index.offset + sizes o.index.entries → told (parts_of o) (seated table) ≡ wrong
    too_far far = let q = ends in wrong_length o f0 index_end_lem (top_stands brand xs o e).says long (length xs) ends refl refl (λ z. omega arith)

    -- the sums of the top index
    sums_meet : (a b : Bool) → ltb limit (index_end_lem + o.index.offset + sizes o.index.entries) ≡ a → leb time_limit (o.index.time + durations o.index.entries) ≡ b →
        Meets (told (pick (not (a || b)) (some goes_on) none) (λ v. v)) (say_top o)
    unfolding told pick
    sums_meet a true p q =
        let late = leb-true time_limit (o.index.time + durations o.index.entries) q in
        rw (le-ltb (o.index.time + durations o.index.entries) time_limit late) (or-true a)
      where
        or-true : (t : Bool) → Meets (told (pick (not (t || true)) (some goes_on) none) (λ v. v)) wrong
        or-true true = tt
        or-true false = tt
    sums_meet true false p q =
        let early = leb-false time_limit (o.index.time + durations o.index.entries) q in
        rw (lt-ltb (o.index.time + durations o.index.entries) time_limit early, too_far (ltb-true limit (index_end_lem + o.index.offset + sizes o.index.entries) p)) tt
    sums_meet false false p q =
        let early = leb-false time_limit (o.index.time + durations o.index.entries) q in
        rw (lt-ltb (o.index.time + durations o.index.entries) time_limit early) rest_told

    top_meets : Meets (read_top o) (say_top o)
    top_meets =
        rw (top_sums (top_span (length xs) o) (index_from o.index) 0 index_end_lem)
        (sums_meet (ltb limit (index_end_lem + o.index.offset + sizes o.index.entries)) (leb time_limit (o.index.time + durations o.index.entries)) refl refl)

  pub read_meets : Meets (judge (segment_d brand f0 0 xs) final) (told (segment brand xs) (λ ls. seat ls 0 table))
  unfolding segment_d
  read_meets =
      rw (judge_after (opening_d brand f0 0 xs) (λ x g m cs. material_d x g m cs) final, say_is)
      (judge_told (opening_d brand f0 0 xs) after_top (top_index brand xs) _ say_top (opening_tree brand f0 (λ x g m cs. some (after_top x g m cs)) xs small) top_meets)

-- a byte after the material is refused with 21, or with 3
past_end : (n : ℕ) (table : List ℕ) (t : Bool) → verdict_by (Err (lowest (past_material n) (shows t 3 limit))) table ≡ wrong
unfolding verdict_by shows lowest pick
past_end n table true = refl
past_end n table false = refl

-- The whole list.
judged : (r : Res Top Flow Left) → verdict_of (outcome r) ≡ judge r final
unfolding verdict_by outcome judge final pick shows lowest
judged (okay top f n []) = refl
judged (okay top f n (b ∷ bs)) = past_end n f.table (eqb n limit)
judged (fail x l n) = refl
judged (cut l n) = refl

-- bytes past the limit are never accepted
beyond_not : (x : Refusal) (r : Res Top Flow Left) (y : ℕ) (ys : List ℕ) → NotFine (judge (beyond x r (y ∷ ys)) final)
unfolding beyond judge final
beyond_not x (okay top f n bs) y ys = at bs
  where
    at : (cs : List ℕ) → NotFine (final top f n (cs ++ (y ∷ ys)))
    at [] = tt
    at (c ∷ cs) = tt
beyond_not x (fail z l n) y ys = pick_not (eqb z.number 15) (full z.place) wrong tt tt
beyond_not x (cut l n) y ys = pick_not (eqb x.number 15) (full x.place) wrong tt tt

-- and are no segment
segment_long : (brand : ℕ) (bytes : List ℕ) → limit < length bytes → segment brand bytes ≡ none
unfolding segment segment_parts and_then pick
segment_long brand bytes over = rw (lt-ltb limit (length bytes) over)

-- Law T.
pub law_t : (brand : ℕ) (bytes work table : List ℕ) → work_bytes ≤ length work → Meets (verdict_of (whole_d brand bytes work table)) (told (segment brand bytes) (λ ls. seat ls 0 table))
unfolding whole_d told
law_t brand bytes work table long =
    rw (pick_no (ltb (length work) work_bytes) _ (outcome (read_d brand bytes work table)) (le-ltb (length work) work_bytes long), judged (read_d brand bytes work table))
    (⊎_elim (λ (over : limit < length bytes). too_long over) (λ (small : length bytes ≤ limit). within small) (lt_or_ge limit (length bytes)))
  where
    read_long : (ys : List ℕ) → 0 < length ys → NotFine (judge (beyond (refusal 3 limit) (segment_d brand (flow0 work table) 0 (take limit bytes)) ys) final)
    read_long [] l = absurd (omega arith)
    read_long (y ∷ ys) l = beyond_not (refusal 3 limit) (segment_d brand (flow0 work table) 0 (take limit bytes)) y ys

    too_long : limit < length bytes → Meets (judge (read_d brand bytes work table) final) (told (segment brand bytes) (λ ls. seat ls 0 table))
    too_long over = rw (segment_long brand bytes over) (read_long (drop limit bytes) (omega (arith, length-drop limit bytes)))

    within : length bytes ≤ limit → Meets (judge (read_d brand bytes work table) final) (told (segment brand bytes) (λ ls. seat ls 0 table))
    within small =
        let d : drop limit bytes ≡ [] = drop_of_length-le bytes {i = limit} small in
        let t : take limit bytes ≡ bytes = take_all limit bytes small in
        rw (d, t, beyond_none (refusal 3 limit) (segment_d brand (flow0 work table) 0 bytes)) (read_meets brand bytes work table small long)
