-- A leaf by structure: accepted where its bytes are a leaf of the tree whose decode times never fall.
use Prim.Native.Nat.{ℕ, zero, suc, ◌+◌, ◌≤◌, ◌<◌}
use mathlib.Core.Path.{◌≡◌, refl, ap, sym, ◌∙◌}
use mathlib.Core.List.{List, [], ◌∷◌, ◌++◌}
use mathlib.Core.Option.{Option, some, none}
use mathlib.Core.Bool.{Bool, true, false, not, true≢false, ◌&&◌, ◌||◌, not-not}
use mathlib.Core.Logic.{◌≢◌}
use native.Mathlib.Omega.{arith}
use lib.Dec.{eqb, ltb}
use lib.ListN.{length, drop, get_elem?}
use borrow.Author.Tests.{not-true, eqb-true, eqb-false, eq-eqb, ne_eqb, ltb-false, lt-ltb}
use Rattle.basics.specs.Choose.{pick, and_then}
use Rattle.basics.proofs.Picks.{pick_with}
use Rattle.basics.proofs.Tests.{and_both, and_not}
use Rattle.basics.proofs.Options.{absurd_some, then_cong, then_none, then_assoc, then_pick, then_inv, pick_some}
use Rattle.segment.specs.Constants.{styp, sidx, moof, mdat, traf, tfhd, tfdt}
use Rattle.segment.specs.Boxes.{provided, Field, field, Box, first_box, cut_boxes, boxes, without, time_bytes, tfhd_track, tfdt_time}
use Rattle.segment.specs.Leaves.{moof_first, boxes_of_leaf, traf_times, gather, moof_times, non_empty, leaf_times}
use Rattle.segment.specs.Tree.{first_time}
use Rattle.segment.specs.Parts.{At}
use Rattle.segment.proofs.Said.{then_goes, field_some, field_rest}
use Rattle.segment.proofs.Rules.{leaf_holds}
use Rattle.machine.specs.Faults.{refusal, shows, lowest, unless}
use Rattle.machine.specs.Run.{Res, okay, fail, cut as cutOff, either, after, field_d, plain}
use Rattle.machine.specs.Heads.{head_d, size_faults}
use Rattle.machine.specs.Lists.{box_d, boxes_d}
use Rattle.machine.specs.declared.Header.{Header}
use Rattle.machine.proofs.Faults.{none_second, shows_none}
use Rattle.machine.proofs.Readings.{Says, Anyhow, Never, each_any, says_okay, says_either, says_box}
use Rattle.state.specs.declared.Span.{Span}
use Rattle.state.specs.declared.Seen.{Seen}
use Rattle.state.specs.declared.Slot.{Slot}
use Rattle.state.specs.declared.TrafPhase.{TrafPhase}
use Rattle.state.specs.Flow.{Flow, Left, left}
use Rattle.state.specs.Rows.{is, body_length, top_lengths, leaf_faults, no_room, traf_faults}
use Rattle.state.specs.Opening.{span_of}
use Rattle.state.specs.Traf.{Gave, nothing, headed, timed, tfdt_version_faults, fall_faults, reference, lacking, traf_now, traf_next, traf_boxes, traf_so0}
use Rattle.state.specs.Leaf.{Passed, skipped, seeing, moof_next, moof_boxes, leaf_now, leaf_lacks, leaf_next, leaf_so0}
use Rattle.state.specs.Leaf as state
use Rattle.descent.specs.Opening.{skip_to}
use Rattle.descent.specs.Leaf.{tfhd_d, width_d, tfdt_d, traf_body_d, traf_d, moof_body_d, moof_d, leaf_body_d, leaf_d}
use Rattle.demands.specs.Told.{upon, clean, climb, head_length, header_of}
use Rattle.demands.specs.Walks.{traf_item, traf_walk, moof_item, moof_walk, leaf_item, leaf_walk}
use Rattle.demands.proofs.Upons.{upon_here, skip_tree, clean_none, upon_after, upon_unless, clean_append, clean_shows}
use Rattle.demands.proofs.HeadTree.{head_tree}
use Rattle.demands.proofs.ListTree.{list_tree, start_tree}
use Rattle.demands.proofs.WalkTree.{not_or, body_length_lem, traf_faults_lem, cut_fits, traf_walk_lem, moof_walk_lem, leaf_walk_lem, first_seen}

-- A number of the tree, where there are enough bytes.
pub field_tree : {R X : Type 0} (k : ℕ → Flow → ℕ → List ℕ → Res R Flow Left) (h : R → Flow → ℕ → List ℕ → Option X) (m : ℕ) (f : Flow) (n : ℕ) (xs ys : List ℕ) → m ≤ length xs →
    upon (field_d left plain k m 0 f n (xs ++ ys)) h ≡ and_then (field m xs) (λ v. upon (k v.value f (n + m) (v.rest ++ ys)) h)
field_tree k h m f n xs ys l = upon_here k h m f n xs ys l ∙ sym (then_goes (field m xs) _ _ (field_some m xs l))

-- no bytes
nil : (xs : List ℕ) → length xs ≡ 0 → xs ≡ []
nil [] e = refl
nil (x ∷ xs) e = absurd (omega arith)

module _ {X : Type 0} (f : Flow) (k : Gave → Flow → ℕ → List ℕ → Option X) where
  -- `tfhd`
  tfhd_tree : (id end n : ℕ) (xs ys : List ℕ) → 8 ≤ length xs → end ≡ n + length xs →
      upon (tfhd_d id end f n (xs ++ ys)) k ≡ and_then (tfhd_track xs) (λ v. k (headed (eqb v id)) f end ys)
  unfolding tfhd_d tfhd_track and_then
  tfhd_tree id end n xs ys l e =
      field_tree _ k 4 f n xs ys (omega arith)
      ∙ then_cong (field 4 xs) _ _
      (λ flags p. let (a, b) = field_rest 4 xs flags p in
      field_tree _ k 4 f (n + 4) flags.rest ys (omega arith)
      ∙ then_cong (field 4 flags.rest) _ (λ track. k (headed (eqb track.value id)) f end ys)
      (λ track q. let (c, d) = field_rest 4 flags.rest track q in
      skip_tree (headed (eqb track.value id)) k end f (n + 4 + 4) track.rest ys (omega arith)))
      ∙ sym (then_assoc (field 4 xs) _ _ ∙ then_cong (field 4 xs) _ _ (λ flags p. then_assoc (field 4 flags.rest) _ _))

  -- a decode time to the end of its bytes
  time_tree : (r : Bool) (pos w n : ℕ) (xs ys : List ℕ) → length xs ≡ w →
      upon (field_d left plain (λ v g m cs. okay (timed r pos v) g m cs) w 0 f n (xs ++ ys)) k ≡ and_then (field w xs) (λ v. k (timed r pos v.value) f (n + w) ys)
  unfolding upon
  time_tree r pos w n xs ys e =
      field_tree _ k w f n xs ys (omega arith)
      ∙ then_cong (field w xs) _ _ (λ v p. let (a, b) = field_rest w xs v p in rw (nil v.rest (omega arith)))

  -- flags and a decode time
  flags_tree : (r : Bool) (pos w n : ℕ) (wide : Bool) (xs ys : List ℕ) →
      ((m : ℕ) (bs : List ℕ) → width_d wide r pos f m bs ≡ field_d left plain (λ v g m' cs. okay (timed r pos v) g m' cs) w 0 f m bs) → length xs ≡ 3 + w →
      upon (field_d left plain (λ flags h m ds. width_d wide r pos h m ds) 3 0 f n (xs ++ ys)) k
      ≡ and_then (field 3 xs) (λ flags. pick (eqb (length flags.rest) w) (and_then (field w flags.rest) (λ v. k (timed r pos v.value) f (n + 3 + w) ys)) none)
  unfolding pick
  flags_tree r pos w n wide xs ys width e =
      field_tree _ k 3 f n xs ys (omega arith)
      ∙ then_cong (field 3 xs) _ _
      (λ flags p. let (a, b) = field_rest 3 xs flags p in
      rw (width (n + 3) (flags.rest ++ ys), eq-eqb (length flags.rest) w (omega arith)) (time_tree r pos w (n + 3) flags.rest ys (omega arith)))

  flags_none : (w : ℕ) (xs : List ℕ) (g : Field → Option X) → length xs ≢ 3 + w → and_then (field 3 xs) (λ flags. pick (eqb (length flags.rest) w) (g flags) none) ≡ none
  unfolding pick
  flags_none w xs g e =
      then_cong (field 3 xs) _ (λ flags. none) (λ flags p. let (a, b) = field_rest 3 xs flags p in rw (ne_eqb (length flags.rest) w (λ q. e (omega arith))))
      ∙ then_none (field 3 xs)

  -- the version, and whether the length is that of the version
  version_clean : (pos end v m : ℕ) →
      clean (tfdt_version_faults pos end v m) ≡ not (ltb 1 v) && not (eqb v 0 && not (eqb end (m + 7)) || eqb v 1 && not (eqb end (m + 11)))
  unfolding tfdt_version_faults
  version_clean pos end v m = simp (clean_append, clean_shows)

  -- what follows the version
  abbrev versioned : Bool → ℕ → ℕ → ℕ → ℕ → List ℕ → Option X
  versioned r pos end v n bs =
      upon (unless (tfdt_version_faults pos end v n) (λ x. fail x (left f) n) (field_d left plain (λ flags h m ds. width_d (eqb v 1) r pos h m ds) 3 0 f n bs)) k

  abbrev timed_by : Bool → ℕ → ℕ → List ℕ → ℕ → List ℕ → Option X
  timed_by r pos end ys w xs =
      and_then (field 3 xs) (λ flags. pick (eqb (length flags.rest) w) (and_then (field w flags.rest) (λ v. k (timed r pos v.value) f end ys)) none)

  -- a length that is or is not that of the version
  version_length : (r : Bool) (pos end w n : ℕ) (wide t : Bool) (xs ys : List ℕ) →
      ((m : ℕ) (bs : List ℕ) → width_d wide r pos f m bs ≡ field_d left plain (λ v g m' cs. okay (timed r pos v) g m' cs) w 0 f m bs) → end ≡ n + length xs → t ≡ eqb end (n + (3 + w)) →
      pick t (upon (field_d left plain (λ flags h m ds. width_d wide r pos h m ds) 3 0 f n (xs ++ ys)) k) none ≡ timed_by r pos end ys w xs
  unfolding pick
  version_length r pos end w n wide true xs ys width e q =
      let s : end ≡ n + (3 + w) = eqb-true end (n + (3 + w)) (sym q) in
      let s' : n + 3 + w ≡ end = omega arith in
      rw s' at (flags_tree r pos w n wide xs ys width (omega arith))
  version_length r pos end w n wide false xs ys width e q =
      sym (flags_none w xs _ (λ s. eqb-false end (n + (3 + w)) (sym q) (omega arith)))

  version_tree : (r : Bool) (pos end v n : ℕ) (xs ys : List ℕ) → end ≡ n + length xs → versioned r pos end v n (xs ++ ys) ≡ and_then (time_bytes v) (λ w. timed_by r pos end ys w xs)
  unfolding time_bytes and_then pick width_d
  version_tree r pos end zero n xs ys e =
      upon_unless (tfdt_version_faults pos end 0 n) (left f) n _ k
      ∙ rw (version_clean pos end 0 n, not_or (eqb end (n + 7))) (version_length r pos end 4 n false (eqb end (n + 7)) xs ys (λ m bs. refl) e refl)
  version_tree r pos end (suc zero) n xs ys e =
      upon_unless (tfdt_version_faults pos end 1 n) (left f) n _ k
      ∙ rw (version_clean pos end 1 n, not-not (eqb end (n + 11))) (version_length r pos end 8 n true (eqb end (n + 11)) xs ys (λ m bs. refl) e refl)
  version_tree r pos end (suc (suc v)) n xs ys e =
      upon_unless (tfdt_version_faults pos end (suc (suc v)) n) (left f) n _ k
      ∙ rw (version_clean pos end (suc (suc v)) n, lt-ltb 1 (suc (suc v)) (omega arith), ne_eqb (suc (suc v)) 0 (λ q. omega arith), ne_eqb (suc (suc v)) 1 (λ q. omega arith))

  -- `tfdt`
  tfdt_tree : (r : Bool) (pos end n : ℕ) (xs ys : List ℕ) → 8 ≤ length xs → end ≡ n + length xs →
      upon (tfdt_d r pos end f n (xs ++ ys)) k ≡ and_then (tfdt_time xs) (λ v. k (timed r pos v) f end ys)
  unfolding tfdt_d tfdt_time and_then
  tfdt_tree r pos end n xs ys l e =
      field_tree _ k 1 f n xs ys (omega arith)
      ∙ then_cong (field 1 xs) _ _ (λ version p. let (a, b) = field_rest 1 xs version p in version_tree r pos end version.value (n + 1) version.rest ys (omega arith))
      ∙ sym (then_assoc (field 1 xs) _ _
      ∙ then_cong (field 1 xs) _ _ (λ version p.
      then_assoc (time_bytes version.value) _ _
      ∙ then_cong (time_bytes version.value) _ _ (λ w q.
      then_assoc (field 3 version.rest) _ _
      ∙ then_cong (field 3 version.rest) _ _ (λ flags s.
      then_pick (eqb (length flags.rest) w) _ _
      ∙ ap (λ o. pick (eqb (length flags.rest) w) o none) (then_assoc (field w flags.rest) _ _)))))

-- a `tfhd` or a `tfdt` that shows no fault has 8 bytes
traf_sound : (t : TrafPhase) (h : Header) → clean (traf_faults t h) ≡ true → is h tfhd || is h tfdt ≡ true → 8 ≤ body_length h
traf_sound t h e q =
    let p : not ((is h tfhd || is h tfdt) && ltb (body_length h) 8) ≡ true = (and_both _ _ (sym (traf_faults_lem t h) ∙ e)).0 in
    ltb-false (body_length h) 8 (not-true (ltb (body_length h) 8) (rw q at p))

or_second : (t : Bool) → t || true ≡ true
or_second true = refl
or_second false = refl

-- what a choice of two readings makes, given each
item_both : {A R X : Type 0} (t : Bool) (r r' : Res R Flow Left) (o o' : Option A) (k : R → Flow → ℕ → List ℕ → Option X) (g : A → Option X) →
    (t ≡ true → upon r k ≡ and_then o g) → (t ≡ false → upon r' k ≡ and_then o' g) → upon (pick t r r') k ≡ and_then (pick t o o') g
item_both t r r' o o' k g p q = pick_with t (λ z. upon z k) (λ z. and_then z g) r r' o o' p q

-- times seen in a box, for the list that it stands in
passing : {X : Type 0} (o : Option (List ℕ)) (seen : Seen) (k : Passed → Option X) →
    and_then o (λ ts. and_then (climb seen ts) (λ s. k (seeing s))) ≡ and_then (and_then o (λ ts. and_then (climb seen ts) (λ s. some (seeing s)))) k
unfolding and_then
passing none seen k = refl
passing (some ts) seen k = sym (then_assoc (climb seen ts) _ k)

module _ {X : Type 0} (f : Flow) where
  -- the body of a box in a `traf`
  traf_body : (id : ℕ) (t : TrafPhase) (b : Box) (pos : ℕ) (zs : List ℕ) (k : Gave → Flow → ℕ → List ℕ → Option X) → head_length b + length b.body ≡ b.size →
      clean (traf_faults t (header_of pos b)) ≡ true →
      upon (traf_body_d id t (header_of pos b) f (pos + head_length b) (b.body ++ zs)) k ≡ and_then (traf_item id t pos b) (λ r. k r f (pos + b.size) zs)
  unfolding traf_body_d traf_item and_then
  traf_body id t b pos zs k e sound =
      let h : Header = header_of pos b in
      let far : pos + b.size ≡ pos + head_length b + length b.body = omega arith in
      let whole : body_length h ≡ length b.body = body_length_lem b (omega arith) in
      item_both (is h tfhd) _ _ _ _ k _
      (λ q. tfhd_tree f k id (pos + b.size) (pos + head_length b) b.body zs (let m : 8 ≤ body_length h = traf_sound t h sound (rw q) in omega arith) far ∙ sym (then_assoc (tfhd_track b.body) _ _))
      (λ q. item_both (is h tfdt) _ _ _ _ k _
      (λ q'. tfdt_tree f k (reference t) pos (pos + b.size) (pos + head_length b) b.body zs (let m : 8 ≤ body_length h = traf_sound t h sound (rw q' (or_second (is h tfhd))) in omega arith) far
      ∙ sym (then_assoc (tfdt_time b.body) _ _))
      (λ q'. skip_tree nothing k (pos + b.size) f (pos + head_length b) b.body zs far))

  -- A `traf`.
  pub traf_tree : (id : ℕ) (span : Span) (seen : Seen) (n : ℕ) (xs ys : List ℕ) (k : Seen → Flow → ℕ → List ℕ → Option X) → span.end ≡ n + length xs →
      upon (traf_d id span seen f n (xs ++ ys)) k ≡ and_then (traf_times id xs) (λ ts. and_then (climb seen ts) (λ s. k s f span.end ys))
  unfolding traf_next traf_times
  traf_tree id span seen n xs ys k e =
      start_tree (traf_boxes id span) (λ so. traf_body_d id so.track) (traf_walk id) (λ so. so.seen) (λ so. lacking span.pos so.track) span.end f
      (λ so. refl) (λ so. refl) (λ so h. refl)
      (λ so b pos zs k' eight bodied sound. traf_body id so.track b pos zs k' bodied sound)
      (λ so r. fall_faults so.seen.last r ++ lacking span.pos (traf_now so r).track) (λ so r m. refl)
      (λ so r. clean_append (fall_faults so.seen.last r) (lacking span.pos (traf_now so r).track))
      (length (xs ++ ys)) (traf_next span (traf_so0 seen) [] n) (traf_so0 seen) n xs ys k refl e (omega arith)
      ∙ then_cong (boxes xs) _ _ (λ bs q. traf_walk_lem id span.pos seen n bs (λ s. k s f span.end ys) (cut_fits (length xs) xs bs q))
      ∙ sym (then_assoc (boxes xs) _ _)

  -- the body of a box that gives times where it is of a type, and is skipped where it is not
  passed_body : (kind : ℕ) (D : ℕ → List ℕ → Res Seen Flow Left) (o : Option (List ℕ)) (seen : Seen) (b : Box) (pos : ℕ) (zs : List ℕ) (k : Passed → Flow → ℕ → List ℕ → Option X) →
      head_length b + length b.body ≡ b.size →
      (pos + b.size ≡ pos + head_length b + length b.body → upon (D (pos + head_length b) (b.body ++ zs)) (λ s g m cs. k (seeing s) g m cs)
      ≡ and_then o (λ ts. and_then (climb seen ts) (λ s. k (seeing s) f (pos + b.size) zs))) →
      upon (pick (eqb b.kind kind) (after (D (pos + head_length b) (b.body ++ zs)) (λ s g m cs. okay (seeing s) g m cs)) (skip_to skipped (pos + b.size) f (pos + head_length b) (b.body ++ zs))) k
      ≡ and_then (pick (eqb b.kind kind) (and_then o (λ ts. and_then (climb seen ts) (λ s. some (seeing s)))) (some skipped)) (λ r. k r f (pos + b.size) zs)
  unfolding and_then upon
  passed_body kind D o seen b pos zs k e law =
      item_both (eqb b.kind kind) _ _ _ _ k _
      (λ q. upon_after (D (pos + head_length b) (b.body ++ zs)) _ k ∙ law (omega arith) ∙ passing o seen (λ r. k r f (pos + b.size) zs))
      (λ q. skip_tree skipped k (pos + b.size) f (pos + head_length b) b.body zs (omega arith))

  moof_body : (id : ℕ) (seen : Seen) (b : Box) (pos : ℕ) (zs : List ℕ) (k : Passed → Flow → ℕ → List ℕ → Option X) → head_length b + length b.body ≡ b.size →
      upon (moof_body_d id seen (header_of pos b) f (pos + head_length b) (b.body ++ zs)) k ≡ and_then (moof_item id seen pos b) (λ r. k r f (pos + b.size) zs)
  unfolding moof_body_d moof_item
  moof_body id seen b pos zs k e =
      passed_body traf (traf_d id (span_of (header_of pos b)) seen f) (traf_times id b.body) seen b pos zs k e (traf_tree id (span_of (header_of pos b)) seen (pos + head_length b) b.body zs _)

  -- A `moof`.
  pub moof_tree : (id end : ℕ) (seen : Seen) (n : ℕ) (xs ys : List ℕ) (k : Seen → Flow → ℕ → List ℕ → Option X) → end ≡ n + length xs →
      upon (moof_d id end seen f n (xs ++ ys)) k ≡ and_then (moof_times id xs) (λ ts. and_then (climb seen ts) (λ s. k s f end ys))
  unfolding moof_next moof_times clean pick
  moof_tree id end seen n xs ys k e =
      start_tree (moof_boxes id end) (moof_body_d id) (moof_walk id) (λ s. s) (λ s. []) end f
      (λ s. refl) (λ s. refl) (λ s h. refl)
      (λ s b pos zs k' eight bodied sound. moof_body id s b pos zs k' bodied)
      (λ s r. []) (λ s r m. refl) (λ s r. refl)
      (length (xs ++ ys)) (moof_next end seen n) seen n xs ys k refl e (omega arith)
      ∙ then_cong (boxes xs) _ _ (λ bs q. moof_walk_lem id seen n bs (λ s. k s f end ys))
      ∙ sym (then_assoc (boxes xs) _ _)

  -- the body of a box in a leaf
  leaf_body : (id : ℕ) (seen : Seen) (b : Box) (pos : ℕ) (zs : List ℕ) (k : Passed → Flow → ℕ → List ℕ → Option X) → head_length b + length b.body ≡ b.size →
      upon (leaf_body_d id seen (header_of pos b) f (pos + head_length b) (b.body ++ zs)) k ≡ and_then (leaf_item id seen pos b) (λ r. k r f (pos + b.size) zs)
  unfolding leaf_body_d leaf_item
  leaf_body id seen b pos zs k e = passed_body moof (moof_d id (pos + b.size) seen f) (moof_times id b.body) seen b pos zs k e (moof_tree id (pos + b.size) seen (pos + head_length b) b.body zs _)

-- A leaf, where there is room for it: accepted where its bytes are a leaf of the tree whose decode times never fall, with the times seen.
pub leaf_tree : {X : Type 0} (id : ℕ) (slot : Slot) (f : Flow) (n : ℕ) (xs ys : List ℕ) (k : Seen → Flow → ℕ → List ℕ → Option X) →
    slot.end ≡ n + length xs → 0 < length xs → no_room f.leaves f.table ≡ false →
    upon (leaf_d id slot f n (xs ++ ys)) k ≡ and_then (leaf_times id xs) (λ ts. and_then (climb (leaf_so0 f.last).seen ts) (λ s. k s f slot.end ys))
unfolding leaf_next leaf_times boxes_of_leaf clean
leaf_tree id slot f n xs ys k e some' room =
    list_tree (state.leaf_boxes id slot) (λ so. leaf_body_d id so.seen) (leaf_walk id slot f) (λ so. so.seen) (λ so. leaf_lacks slot so (left f)) slot.end f
    (λ so. refl) (λ so. refl) (λ so h. refl)
    (λ so b pos zs k' eight bodied sound. leaf_body f id so.seen b pos zs k' bodied)
    (λ so r. leaf_lacks slot (leaf_now so r) (left f)) (λ so r m. refl) (λ so r. refl)
    (length (xs ++ ys)) (leaf_so0 f.last) n xs ys k some' e (omega arith)
    ∙ then_cong (boxes xs) _ _ (λ bs q. leaf_walk_lem id slot f room f.last n bs (λ s. k s f slot.end ys))
    ∙ sym (then_assoc (boxes_of_leaf xs) _ _ ∙ then_assoc (boxes xs) _ _
    ∙ then_cong (boxes xs) _ _ (λ bs q. then_cong (provided (without (styp ∷ sidx ∷ []) bs) (provided (moof_first bs) (some bs))) _ _
    (λ cs q'. then_assoc (gather moof (moof_times id) cs) non_empty _)))

-- The first time that a leaf shows is the first of its times.
pub leaf_first : (id last : ℕ) (xs ts : List ℕ) (s : Seen) → leaf_times id xs ≡ some ts → climb (leaf_so0 last).seen ts ≡ some s → s.first ≡ first_time ts
unfolding leaf_times
leaf_first id last xs ts s e c =
    let (bs, _, p) = then_inv (boxes_of_leaf xs) _ ts e in
    let (us, _, q) = then_inv (gather moof (moof_times id) bs) non_empty ts p in
    first_seen last ts us s q c

-- An accepted reading, from what it gives.
boxes_same : (a b : List Box) → some a ≡ some b → a ≡ b
boxes_same a b e = cc

-- a header that is read and shows no fault of its size
head_read : (end : ℕ) (r : Res Header Flow Left) (h : Header) (f : Flow) (m : ℕ) (cs : List ℕ) →
    upon {X = Res Header Flow Left} r (λ h' g m' cs'. pick (clean (size_faults end h')) (some (okay h' g m' cs')) none) ≡ some (okay h f m cs) → (r ≡ okay h f m cs) × (size_faults end h ≡ [])
unfolding upon
head_read end (okay h' g m' cs') h f m cs e =
    let (sound, said) = pick_some (clean (size_faults end h')) _ (okay h f m cs) e in
    let same : h' ≡ h = cc in
    (cc, clean_none (size_faults end h) (rw same at sound))
head_read end (fail x l n) h f m cs e = absurd_some e
head_read end (cutOff l n) h f m cs e = absurd_some e

-- the first box of a leaf of the tree is no `styp`, `sidx` or `mdat`
leaf_starts : (id : ℕ) (xs ts : List ℕ) → leaf_times id xs ≡ some ts →
    (0 < length xs) × (b : Box) × (first_box xs ≡ some b) × (eqb b.kind styp ≡ false) × (eqb b.kind sidx ≡ false) × (eqb b.kind mdat ≡ false)
unfolding leaf_times boxes_of_leaf cut_boxes and_then pick without moof_first gather non_empty
leaf_starts id [] ts e = absurd_some e
leaf_starts id (x ∷ xs) ts e =
    let (bs, p, _) = then_inv (boxes_of_leaf (x ∷ xs)) _ ts e in
    let (whole, holds) = leaf_holds (x ∷ xs) bs p in
    let (b, first, q) = then_inv (first_box (x ∷ xs)) _ bs whole in
    let (ds, _, r) = then_inv (cut_boxes (length xs) (drop b.size (x ∷ xs))) _ bs q in
    let here : At bs 0 b = ap (λ (cs : List Box). get_elem? cs 0) (sym (boxes_same (b ∷ ds) bs r)) in
    let (no-styp, no-sidx) = holds.none 0 b here in
    (omega arith, b, first, ne_eqb b.kind styp no-styp, ne_eqb b.kind sidx no-sidx, ne_eqb b.kind mdat (λ is. let (i, a, before, there, is-moof) = holds.before 0 b here is in omega arith))

-- what the header of the first box of a leaf shows where there is no room
leaf_shows : (pos : ℕ) (h : Header) (f : Flow) → h.pos ≡ pos → is h styp ≡ false → is h sidx ≡ false → is h mdat ≡ false → no_room f.leaves f.table ≡ true →
    leaf_faults pos false h f ≡ refusal 15 pos ∷ []
unfolding leaf_faults top_lengths shows
leaf_shows pos h f e s x d full = rw (e, s, x, d, full, eq-eqb pos pos refl)

-- of the faults of a leaf beyond the room, that one is the lowest
lowest_full : (slot : Slot) (f : Flow) (t : Bool) → no_room f.leaves f.table ≡ true →
    lowest (refusal 15 slot.pos) (pick t (leaf_lacks slot (leaf_so0 f.last) (left f)) []) ≡ refusal 15 slot.pos
unfolding lowest leaf_lacks shows pick
lowest_full slot f true full = rw full
lowest_full slot f false full = refl

-- A leaf of the tree beyond the room is refused with 15, and leaves what flowed.
pub leaf_full : (id : ℕ) (slot : Slot) (f : Flow) (n : ℕ) (xs ys ts : List ℕ) → no_room f.leaves f.table ≡ true → slot.pos ≡ n → slot.end ≡ n + length xs → leaf_times id xs ≡ some ts →
    (m : ℕ) × (leaf_d id slot f n (xs ++ ys) ≡ fail (refusal 15 slot.pos) (left f) m)
unfolding boxes_d box_d either unless lowest
leaf_full id slot f n [] ys ts full p e q = absurd (let l = (leaf_starts id [] ts q).0 in omega arith)
leaf_full id slot f n (x ∷ xs) ys ts full p e q =
    let (_, b, first, st, si, md) = leaf_starts id (x ∷ xs) ts q in
    let (r, z) =
    head_read slot.end (head_d left slot.end f n (x ∷ xs ++ ys)) (header_of n b) f (n + head_length b) (b.body ++ (drop b.size (x ∷ xs) ++ ys))
    (head_tree {X = Res Header Flow Left} slot.end f n (x ∷ xs) ys (λ h g m cs. some (okay h g m cs)) e ∙ then_goes (first_box (x ∷ xs)) _ b first) in
    (n + head_length b, at b _ _ r z (leaf_shows slot.pos (header_of n b) f (sym p) st si md full))
  where
    at : (b : Box) (m : ℕ) (cs : List ℕ) → head_d left slot.end f n (x ∷ xs ++ ys) ≡ okay (header_of n b) f m cs → size_faults slot.end (header_of n b) ≡ [] →
        leaf_faults slot.pos false (header_of n b) f ≡ refusal 15 slot.pos ∷ [] → leaf_d id slot f n (x ∷ xs ++ ys) ≡ fail (refusal 15 slot.pos) (left f) m
    at b m cs r z s = rw (r, z, s) (ap (λ y. fail y (left f) m) (lowest_full slot f (eqb m slot.end) full))

-- A leaf beyond the room is not accepted: the header of its first box shows it.
pub leaf_no_room : (id : ℕ) (slot : Slot) (f : Flow) (n : ℕ) (bs : List ℕ) → slot.pos ≡ n → no_room f.leaves f.table ≡ true →
    (s : Seen) (g : Flow) (m : ℕ) (cs : List ℕ) → leaf_d id slot f n bs ≡ okay s g m cs → ⊥
unfolding leaf_faults boxes_d
leaf_no_room id slot f n bs p full s g m cs e = says_okay Never Anyhow (leaf_d id slot f n bs) s g m cs e (says bs)
  where
    shown : (h : Header) → h.pos ≡ n → leaf_faults slot.pos false h f ≡ [] → ⊥
    shown h q none_shown =
        let a = none_second (top_lengths h) _ none_shown in
        let b = none_second (shows (is h styp) 7 h.pos) _ a in
        let c = shows_none (eqb h.pos slot.pos && no_room f.leaves f.table) 15 slot.pos (none_second (shows (is h sidx || is h mdat && not false) 9 h.pos) _ b) in
        true≢false (sym full ∙ and_not (eqb h.pos slot.pos) _ (eq-eqb h.pos slot.pos (q ∙ sym p)) c)

    says : (bs : List ℕ) → Says Never Anyhow (leaf_d id slot f n bs)
    says [] = tt
    says (b ∷ bs) =
        says_either Never Anyhow Never Anyhow (box_d ((state.leaf_boxes id slot).box (leaf_so0 f.last)) (leaf_body_d id (leaf_so0 f.last).seen) f n (b ∷ bs)) _ _
        (says_box Never Anyhow ((state.leaf_boxes id slot).box (leaf_so0 f.last)) (leaf_body_d id (leaf_so0 f.last).seen) f n (b ∷ bs) (λ m. tt) (λ m. tt) (λ h m q. each_any _)
        (λ h m cs q r z none_shown. absurd (shown h q none_shown)))
        (λ r g m cs never. absurd never) (λ x kept m w. tt)
