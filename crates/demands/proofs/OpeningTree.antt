-- The boxes up to the top index by structure say what rule 1 says of them.
use Prim.Native.Nat.{ℕ, zero, suc, ◌+◌, ◌-◌, ◌≤◌, ◌<◌}
use mathlib.Core.Path.{◌≡◌, refl, ap, sym, ◌∙◌}
use mathlib.Core.List.{List, ◌++◌}
use mathlib.Core.Option.{Option, some, none}
use mathlib.Core.Bool.{Bool, true, false, not, ◌||◌}
use native.Mathlib.Omega.{arith}
use lib.ListN.{length, drop, length-drop}
use lib.Dec.{eqb, ltb, leb}
use Rattle.basics.specs.Choose.{pick, and_then}
use Rattle.basics.proofs.Picks.{pick_if, pick_both}
use Rattle.basics.proofs.Options.{then_cong, then_assoc}
use Rattle.segment.specs.Constants.{limit, time_limit, styp, sidx}
use Rattle.segment.specs.Boxes.{Index as BoxesIndex, Box, first_box, top_kinds, among, styp_brands, sidx_index}
use Rattle.segment.specs.Tree.{open_index, first_index, top_index}
use Rattle.segment.proofs.Said.{FirstBox, first_box_lem}
use Rattle.segment.specs.Tree as tree
use Rattle.machine.specs.Faults.{unless}
use Rattle.machine.specs.Run.{Res, okay, either, after}
use Rattle.machine.specs.Heads.{box_end}
use Rattle.machine.specs.Lists.{box_d, go_on_d, boxes_d}
use Rattle.machine.specs.declared.Header.{Header}
use Rattle.machine.proofs.Fields.{skip_short}
use Rattle.state.specs.declared.Span.{Span}
use Rattle.state.specs.declared.IndexRead.{IndexRead}
use Rattle.state.specs.Flow.{Flow, Left, left}
use Rattle.state.specs.Rows.{is, body_length, opening_faults}
use Rattle.state.specs.Sidx.{topmost, sum_faults}
use Rattle.state.specs.Opening.{OpeningGave, passed, indexed, span_of, opening_kind, close_opening, opening}
use Rattle.descent.specs.Sidx.{sidx_d}
use Rattle.descent.specs.Opening.{skip_to, styp_d, opening_body_d, opening_d}
use Rattle.demands.specs.Told.{upon, clean, head_length, header_of, index_from, with_entries}
use Rattle.demands.proofs.Upons.{skip_tree, upon_either, upon_after, clean_shows}
use Rattle.demands.proofs.HeadTree.{box_open}
use Rattle.demands.proofs.SidxTree.{sidx_fitting, sidx_cut, sidx_facts, suits_topmost}
use Rattle.demands.proofs.Shown.{kind_of, first_shown, later_shown}
use Rattle.demands.proofs.StypTree.{misfit, styp_checked, styp_cut}

-- Where the top index ends, in so many bytes in all, and where its box stands.
abbrev pub top_end : ℕ → tree.Opened → ℕ
top_end all top = all - length top.rest

abbrev pub top_span : ℕ → tree.Opened → Span
top_span all top = record { pos = top_end all top - top.box.size; end = top_end all top }

-- a header's body length is the length of the body
pub body_long : (n : ℕ) (xs : List ℕ) (b : Box) → FirstBox xs b → body_length (header_of n b) ≡ length b.body
body_long n xs b fb = omega (arith, fb.bodied)

-- the sums of the top index: the material ends within the limit, and its times are below theirs
pub top_sums : (span : Span) (x : IndexRead) (now n : ℕ) → clean (sum_faults topmost span x now n) ≡ not (ltb limit (n + x.offset + x.sizes) || leb time_limit (x.time + x.durations))
unfolding sum_faults
top_sums span x now n = clean_shows (ltb limit (n + x.offset + x.sizes) || leb time_limit (x.time + x.durations)) 14 span.pos

module _ {X : Type 0} (f : Flow) (k : IndexRead → Flow → ℕ → List ℕ → Option X) where
  -- what is made of the top index: where its box stands, its body, what it says, and what follows it
  abbrev pub from_top : Span → List ℕ → BoxesIndex → List ℕ → Option X
  from_top span body i rest =
      pick (clean (sum_faults topmost span (index_from i) f.now span.end)) (k (index_from i) (with_entries f topmost i body) span.end rest) none

  -- the same of an index found in so many bytes
  abbrev pub at_top : ℕ → tree.Opened → Option X
  at_top all top = from_top (top_span all top) top.box.body top.index top.rest

-- the top index, its body all there
top_fitting : {X : Type 0} (f : Flow) (k : IndexRead → Flow → ℕ → List ℕ → Option X) (span : Span) (n : ℕ) (xs ys : List ℕ) → n + length xs ≡ span.end →
    pick (not (ltb (length xs) 24)) (upon (sidx_d topmost span f n (xs ++ ys)) k) none ≡ and_then (sidx_index xs) (λ i. from_top f k span xs i ys)
top_fitting f k span n xs ys e =
    sidx_fitting topmost span f n xs ys k e
    ∙ then_cong (sidx_index xs) _ _
    (λ i r.
    ap (λ (t : Bool). pick t (k (index_from i) (with_entries f topmost i xs) span.end ys) none)
    (suits_topmost span i f.now (sidx_facts xs i r).scaled))

-- a body that is skipped
pub skip_body : {R X : Type 0} (r : R) (f : Flow) (b : Box) (pos : ℕ) (zs : List ℕ) (k : R → Flow → ℕ → List ℕ → Option X) → head_length b + length b.body ≡ b.size →
    upon (skip_to r (box_end (header_of pos b)) f (pos + head_length b) (b.body ++ zs)) k ≡ k r f (pos + b.size) zs
skip_body r f b pos zs k e = skip_tree r k (pos + b.size) f (pos + head_length b) b.body zs (omega arith)

module _ {X : Type 0} (brand : ℕ) (f : Flow) where
  -- a body that is cut off is not accepted
  body_cut : (K : OpeningGave → Flow → ℕ → List ℕ → Option X) (h : Header) (m : ℕ) (cs : List ℕ) → m + length cs < box_end h → upon (opening_body_d brand h f m cs) K ≡ none
  unfolding opening_body_d upon either
  body_cut K h m cs l =
      pick_if (is h styp) (λ (r : Res OpeningGave Flow Left). upon r K) _ _ none
      (λ e. styp_cut brand (span_of h) f K m cs l)
      (λ e. pick_if (is h sidx) (λ (r : Res OpeningGave Flow Left). upon r K) _ _ none
      (λ e'. upon_after (sidx_d topmost (span_of h) f m cs) (λ x g n ds. okay (indexed x) g n ds) K ∙ sidx_cut topmost (span_of h) f m cs (λ x g n ds. K (indexed x) g n ds) l)
      (λ e'. ap (λ (r : Res (Unit {0}) Flow Left). upon (after r (λ u g n ds. okay passed g n ds)) K) (skip_short left (box_end h - m) f m cs (omega arith))))

  module _ (k : IndexRead → Flow → ℕ → List ℕ → Option X) where
    -- the boxes from a place on, with so many turns
    abbrev boxes_from : ℕ → Bool → ℕ → List ℕ → Res IndexRead Flow Left
    boxes_from turns branded n bs = boxes_d (opening brand) (λ b. opening_body_d brand) turns branded f n bs

    -- what is made of a box
    abbrev next : ℕ → Bool → OpeningGave → Flow → ℕ → List ℕ → Option X
    next turns branded r g m cs = upon (go_on_d (opening brand) (λ b. opening_body_d brand) (boxes_d (opening brand) (λ b. opening_body_d brand) turns) (close_opening branded r g m) g m cs) k

    -- a box of the tree, and what follows it
    abbrev on_box : ℕ → Bool → ℕ → List ℕ → Box → Option X
    on_box turns branded n bs b =
        pick (clean (opening_faults branded (header_of n b))) (upon (opening_body_d brand (header_of n b) f (n + head_length b) (b.body ++ drop b.size bs)) (next turns branded)) none

    one_box : (turns : ℕ) (branded : Bool) (n : ℕ) (bs : List ℕ) → n + length bs ≤ limit → upon (boxes_from (suc turns) branded n bs) k ≡ and_then (first_box bs) (on_box turns branded n bs)
    unfolding boxes_d upon
    one_box turns branded n bs l =
        upon_either (box_d (opening_kind brand branded) (opening_body_d brand) f n bs) _ _ k (λ x kept m. refl)
        ∙ box_open (opening_kind brand branded) refl (opening_body_d brand) f n bs (next turns branded) l (λ h m cs q. body_cut (next turns branded) h m cs q)

    module _ (turns : ℕ) (branded : Bool) (n : ℕ) (bs : List ℕ) (b : Box) (fb : FirstBox bs b) where
      -- a body of each kind
      by_kind : upon (opening_body_d brand (header_of n b) f (n + head_length b) (b.body ++ drop b.size bs)) (next turns branded)
          ≡ pick (is (header_of n b) styp) (upon (styp_d brand (span_of (header_of n b)) f (n + head_length b) (b.body ++ drop b.size bs)) (next turns branded))
          (pick (is (header_of n b) sidx)
          (upon (after (sidx_d topmost (span_of (header_of n b)) f (n + head_length b) (b.body ++ drop b.size bs)) (λ x g m cs. okay (indexed x) g m cs)) (next turns branded))
          (upon (skip_to passed (box_end (header_of n b)) f (n + head_length b) (b.body ++ drop b.size bs)) (next turns branded)))
      unfolding opening_body_d
      by_kind =
          let K : Res OpeningGave Flow Left → Option X = λ r. upon r (next turns branded) in
          pick_both (is (header_of n b) styp) K (λ o. o) _ _ _ _ refl (pick_both (is (header_of n b) sidx) K (λ o. o) _ _ _ _ refl refl)

      -- a `styp`
      on_styp : pick (not (misfit (body_length (header_of n b)))) (upon (styp_d brand (span_of (header_of n b)) f (n + head_length b) (b.body ++ drop b.size bs)) (next turns branded)) none
          ≡ and_then (styp_brands b.body) (λ brands. pick (among brand brands) (upon (boxes_from turns true (n + b.size) (drop b.size bs)) k) none)
      unfolding go_on_d close_opening unless
      on_styp =
          ap (λ (m : ℕ). pick (not (misfit m)) (upon (styp_d brand (span_of (header_of n b)) f (n + head_length b) (b.body ++ drop b.size bs)) (next turns branded)) none) (body_long n bs b fb)
          ∙ styp_checked brand (span_of (header_of n b)) f (next turns branded) (n + head_length b) b.body (drop b.size bs) (omega (arith, fb.bodied))

      -- an index
      on_sidx : pick (not (ltb (body_length (header_of n b)) 24))
          (upon (after (sidx_d topmost (span_of (header_of n b)) f (n + head_length b) (b.body ++ drop b.size bs)) (λ x g m cs. okay (indexed x) g m cs)) (next turns branded)) none
          ≡ and_then (sidx_index b.body) (λ i. from_top f k (span_of (header_of n b)) b.body i (drop b.size bs))
      unfolding go_on_d close_opening unless upon
      on_sidx =
          ap (λ (o : Option X). pick (not (ltb (body_length (header_of n b)) 24)) o none)
          (upon_after (sidx_d topmost (span_of (header_of n b)) f (n + head_length b) (b.body ++ drop b.size bs)) (λ x g m cs. okay (indexed x) g m cs) (next turns branded))
          ∙ ap (λ (m : ℕ). pick (not (ltb m 24)) (upon (sidx_d topmost (span_of (header_of n b)) f (n + head_length b) (b.body ++ drop b.size bs)) k) none) (body_long n bs b fb)
          ∙ top_fitting f k (span_of (header_of n b)) (n + head_length b) b.body (drop b.size bs) (omega (arith, fb.bodied))

      -- a box that is skipped
      on_skip : upon (skip_to passed (box_end (header_of n b)) f (n + head_length b) (b.body ++ drop b.size bs)) (next turns branded) ≡ upon (boxes_from turns true (n + b.size) (drop b.size bs)) k
      unfolding go_on_d close_opening unless
      on_skip = skip_body passed f b n (drop b.size bs) (next turns branded) fb.bodied

    -- the index that the bytes start with
    here : (all n : ℕ) (bs : List ℕ) (b : Box) → first_box bs ≡ some b → n + length bs ≡ all →
        and_then (sidx_index b.body) (λ i. from_top f k (span_of (header_of n b)) b.body i (drop b.size bs)) ≡ and_then (open_index b bs) (at_top f k all)
    unfolding open_index and_then
    here all n bs b e l =
        then_cong (sidx_index b.body) _ _
        (λ i s.
        let fits : b.size ≤ length bs = (first_box_lem bs b e).fits in
        let d : length (drop b.size bs) ≡ length bs - b.size = length-drop b.size bs in
        let q : all - length (drop b.size bs) ≡ n + b.size = omega arith in
        let p : n + b.size - b.size ≡ n = omega arith in
        rw (q, p))
        ∙ sym (then_assoc (sidx_index b.body) (λ i. some (record { box = b; index = i; rest = drop b.size bs })) (at_top f k all))

    -- Boxes that are skipped, up to the first index. More turns than there are bytes, and more fuel, change nothing.
    later_tree : (fuel turns all n : ℕ) (bs : List ℕ) → length bs < fuel → length bs < turns → n + length bs ≡ all → all ≤ limit →
        upon (boxes_from turns true n bs) k ≡ and_then (first_index fuel bs) (at_top f k all)
    unfolding first_index and_then
    later_tree zero turns all n bs l t e m = absurd (omega arith)
    later_tree (suc fuel) zero all n bs l t e m = absurd (omega arith)
    later_tree (suc fuel) (suc turns) all n bs l t e m =
        one_box turns true n bs (omega arith)
        ∙ then_cong (first_box bs) _ _
        (λ b q.
        let fb = first_box_lem bs b q in
        ap (λ (o : Option X). pick (clean (opening_faults true (header_of n b))) o none) (by_kind turns true n bs b fb)
        ∙ later_shown (header_of n b) _ _ _ (kind_of b.kind)
        ∙ pick_both (eqb b.kind sidx) (λ o. o) (λ o. and_then o (at_top f k all)) _ _ _ _
        (on_sidx turns true n bs b fb ∙ here all n bs b q e)
        (pick_both (among b.kind top_kinds) (λ o. o) (λ o. and_then o (at_top f k all)) _ _ _ _ refl
        (on_skip turns true n bs b fb
        ∙ later_tree fuel turns all (n + b.size) (drop b.size bs) (omega (arith, fb.fits, fb.eight, length-drop b.size bs)) (omega (arith, fb.fits, fb.eight, length-drop b.size bs))
        (omega (arith, fb.fits, length-drop b.size bs)) m)))
        ∙ sym (then_assoc (first_box bs) _ (at_top f k all))

    -- The boxes up to the top index: accepted where rule 1 finds the index and its sums show no fault.
    pub opening_tree : (bs : List ℕ) → length bs ≤ limit → upon (opening_d brand f 0 bs) k ≡ and_then (top_index brand bs) (at_top f k (length bs))
    unfolding top_index and_then
    opening_tree bs m =
        one_box (length bs) false 0 bs (omega arith)
        ∙ then_cong (first_box bs) _ _
        (λ b q.
        let fb = first_box_lem bs b q in
        ap (λ (o : Option X). pick (clean (opening_faults false (header_of 0 b))) o none) (by_kind (length bs) false 0 bs b fb)
        ∙ first_shown (header_of 0 b) _ _ _ (kind_of b.kind)
        ∙ pick_both (eqb b.kind styp) (λ o. o) (λ o. and_then o (at_top f k (length bs))) _ _ _ _
        (on_styp (length bs) false 0 bs b fb
        ∙ then_cong (styp_brands b.body) _ _
        (λ brands r. pick_both (among brand brands) (λ o. o) (λ o. and_then o (at_top f k (length bs))) _ _ _ _
        (later_tree (length bs) (length bs) (length bs) (0 + b.size) (drop b.size bs) (omega (arith, fb.fits, fb.eight, length-drop b.size bs))
        (omega (arith, fb.fits, fb.eight, length-drop b.size bs)) (omega (arith, fb.fits, length-drop b.size bs)) m)
        refl)
        ∙ sym (then_assoc (styp_brands b.body) _ (at_top f k (length bs))))
        refl)
        ∙ sym (then_assoc (first_box bs) _ (at_top f k (length bs)))
