-- The boxes of a `moof` from a position on, and a box that is a list of boxes itself: a `traf` in a `moof`, a `moof` in a leaf.
use Prim.Native.Nat.{ℕ, ◌+◌, ◌-◌, ◌≤◌, ◌<◌}
use mathlib.Core.Path.{◌≡◌, refl, ap, sym, subst, ◌∙◌}
use mathlib.Core.List.{List}
use mathlib.Core.Bool.{Bool, true, false, ◌||◌}
use native.Mathlib.Omega.{arith}
use lib.Dec.{eqb}
use lib.ListN.{length, drop, length-drop}
use borrow.Author.Tests.{eq-eqb, ne_eqb}
use Rattle.fields.specs.declared.Halt.{Halt}
use Rattle.std.specs.Prelude.{Result, Ok, Err}
use Rattle.basics.proofs.Picks.{pick_yes, pick_no}
use Rattle.segment.specs.Constants.{moof, traf}
use Rattle.machine.specs.Faults.{lowest, unless}
use Rattle.machine.specs.Run.{Res, okay, fail, cut, either, after, skip_d}
use Rattle.machine.specs.Lists.{Next, go_on_d, boxes_d}
use Rattle.machine.specs.declared.Header.{Header}
use Rattle.machine.proofs.Runs.{after_assoc, after_okay}
use Rattle.state.specs.declared.Seen.{Seen}
use Rattle.state.specs.declared.LeafSo.{LeafSo}
use Rattle.state.specs.Flow.{Flow, Left, left}
use Rattle.state.specs.Opening.{span_of}
use Rattle.state.specs.Leaf.{Passed, skipped, seeing, seen_now, leaf_now, moof_next, moof_boxes}
use Rattle.descent.specs.Opening.{skip_to}
use Rattle.descent.specs.Leaf.{traf_d, moof_body_d, moof_d, leaf_body_d}
use Rattle.fields.specs.Answers.{head_at}
use Rattle.fields.specs.Onward.{placed, stopped, ended, from, halted}
use Rattle.fields.specs.declared.Stop.{Stop}
use Rattle.fields.proofs.Lists.{on_box, list_ended, list_stopped, list_headed}
use Rattle.walk_leaf.specs.Views.{walked_d}
use Rattle.walk_leaf.specs.declared.Nest.{Nest}
use Rattle.walk_leaf.specs.declared.Nest.TheVariants as nest
use Rattle.walk_leaf.specs.Walks.{Headed, WalkFixed, TrafWalked, moof_box_d, MoofBoxWalked, MoofWalked, leaf_box_d, LeafBoxWalked}
use Rattle.walk_leaf.specs.Walks.{nest_kind, ListWalked, BoxWalked}
use Rattle.walk_leaf.proofs.Loops.{walk_stays, walk_over, over_fixed, halt_fixed}
use Rattle.walk_leaf.proofs.Tracks.{skip_over, skip_cut}
use Rattle.fields.specs.declared.Halt.TheVariants as halt

-- The list goes on, or is over; nothing shows beside a refusal in it.
module _ (id e turns : ℕ) where
  abbrev more_d : Seen → Flow → ℕ → List ℕ → Res Seen Flow Left
  more_d = boxes_d (moof_boxes id e) (moof_body_d id) turns

  abbrev onward_d : Seen → Flow → ℕ → List ℕ → Res Seen Flow Left
  onward_d seen g m cs = go_on_d (moof_boxes id e) (moof_body_d id) more_d (moof_next e seen m) g m cs

  on_box_lem : (seen : Seen) (r : Res Passed Flow Left) → on_box (moof_boxes id e) (moof_body_d id) turns seen r ≡ after (after r (λ p g m cs. okay (seen_now seen p) g m cs)) onward_d
  unfolding on_box either lowest
  on_box_lem seen (okay p f n bs) = refl
  on_box_lem seen (fail x l n) = refl
  on_box_lem seen (cut l n) = refl

-- The boxes of a `moof` that ends at `end`, from a position on.
module _ (id : ℕ) (s : List ℕ) (end : ℕ) where
  abbrev rest_d : Flow → ℕ → ℕ → ℕ → Seen → Res Seen Flow Left
  rest_d f turns base at seen = from left base s f (onward_d id (base + end) turns seen) at

  abbrev pub MoofFrom : ℕ → Seen → Result Seen Halt → Type 0
  MoofFrom at seen r = (base : ℕ) (f : Flow) (turns : ℕ) → length s - at ≤ turns → walked_d base s end f r ≡ rest_d f turns base at seen

  module _ (at : ℕ) (seen : Seen) (here : at ≤ length s) (before : at < end) where
    module _ (base : ℕ) (f : Flow) (turns : ℕ) (enough : length s - at ≤ turns) where
      abbrev Rest : Res Seen Flow Left
      Rest = rest_d f turns base at seen

      goes : Rest ≡ from left base s f (boxes_d (moof_boxes id (base + end)) (moof_body_d id) turns seen) at
      unfolding go_on_d moof_next unless
      goes =
          ap (λ (z : Next Seen Seen). go_on_d (moof_boxes id (base + end)) (moof_body_d id) (more_d id (base + end) turns) z f (base + at) (drop at s))
          (pick_no _ _ _ (ne_eqb (base + at) (base + end) (λ q. omega arith)))

      ends_here : head_at s at end ≡ Err halt.Ended → Rest ≡ ended left base s f
      ends_here e = goes ∙ list_ended (moof_boxes id (base + end)) (moof_body_d id) (λ a. refl) base s seen f at here end refl (λ h. tt) turns enough e

      stops_here : {x : Stop} → head_at s at end ≡ Err (halt.Bad x) → Rest ≡ stopped left base s f x
      unfolding lowest
      stops_here {x} e = goes ∙ list_stopped (moof_boxes id (base + end)) (moof_body_d id) (λ a. refl) base s seen f at here end refl (λ h. tt) turns enough x e

      boxed_here : {h : Header} → head_at s at end ≡ Ok h → Headed s at h → {r : Result Seen Halt} → MoofBoxWalked s id at h seen r →
          Rest ≡ after (walked_d base s (at + h.size) f r) (onward_d id (base + end) (turns - 1))
      unfolding unless
      boxed_here {h} e hd told =
          goes ∙ list_headed (moof_boxes id (base + end)) (moof_body_d id) (λ a. refl) base s seen f at here end refl (λ h'. tt) turns enough h e
          ∙ on_box_lem id (base + end) (turns - 1) seen _
          ∙ ap (λ (p : ℕ). after (from left base s f (moof_box_d id seen (placed base h)) (p + h.head)) (onward_d id (base + end) (turns - 1))) hd.pos
          ∙ ap (λ (q : Res Seen Flow Left). after q (onward_d id (base + end) (turns - 1))) (sym (told.right base f))

    -- its header was not read
    pub moof_head : (x : Halt) → head_at s at end ≡ Err x → MoofFrom at seen (Err x)
    unfolding walked_d halted
    moof_head (halt.Bad x) e base f turns enough = sym (stops_here base f turns enough e)
    moof_head halt.Ended e base f turns enough = sym (ends_here base f turns enough e)

    -- where the box is not over, and where it is
    module _ {h : Header} (e : head_at s at end ≡ Ok h) (hd : Headed s at h) {r : Result Seen Halt} (told : MoofBoxWalked s id at h seen r) where
      pub moof_stays : (x : Halt) → r ≡ Err x → MoofFrom at seen (Err x)
      moof_stays x q base f turns enough =
          walk_stays base s (at + h.size) end f (onward_d id (base + end) (turns - 1)) fail x q (λ y z. refl)
          ∙ sym (boxed_here base f turns enough e hd told)

      pub moof_over : {k : Seen} → r ≡ Ok k → (w : Result Seen Halt) → MoofFrom (at + h.size) k w → MoofFrom at seen w
      moof_over q w d base f turns enough =
          let some = hd.short in
          let holds = hd.holds in
          d base f (turns - 1) (omega arith)
          ∙ sym (boxed_here base f turns enough e hd told ∙ walk_over base s (at + h.size) end f (onward_d id (base + end) (turns - 1)) fail q)

  -- the end of the `moof`
  pub moof_ends : (seen : Seen) → MoofFrom end seen (Ok seen)
  unfolding go_on_d moof_next unless walked_d
  moof_ends seen base f turns enough =
      sym
      (ap (λ (z : Next Seen Seen). go_on_d (moof_boxes id (base + end)) (moof_body_d id) (more_d id (base + end) turns) z f (base + end) (drop end s))
      (pick_yes _ _ _ (eq-eqb (base + end) (base + end) refl)))

-- an answer that is right for all its boxes is right for the `moof`
pub moof_walked : (id : ℕ) (s : List ℕ) (from end : ℕ) (seen : Seen) (r : Result Seen Halt) → MoofFrom id s end from seen r → WalkFixed s end r → MoofWalked s id from end seen r
moof_walked id s from end seen r d g = record { right = λ base f. d base f (length (drop from s)) (rw (length-drop from s) (omega arith)); fixed = g }

-- A box of a `moof` or of a leaf, by whether it is a list.
module _ (id : ℕ) (s : List ℕ) (at : ℕ) (h : Header) (hd : Headed s at h) where
  -- where it ends
  ends : (base : ℕ) → base + h.pos + h.size ≡ base + (at + h.size)
  ends base = let q = hd.pos in omega arith

  here : at + h.head ≤ at + h.size
  here = let holds = hd.holds in omega arith

  -- a box of a `moof`: a `traf`, or one that is skipped
  module _ (seen : Seen) where
    abbrev InMoof : ℕ → Flow → Res Seen Flow Left
    InMoof base f = from left base s f (moof_box_d id seen (placed base h)) (at + h.head)

    pub box_traf : h.kind ≡ traf → {r : Result Seen Halt} → TrafWalked s id at (at + h.head) (at + h.size) seen r → MoofBoxWalked s id at h seen r
    unfolding moof_body_d seen_now either
    box_traf kind told = record {
      right = λ base f.
          let q = hd.pos in
          let body : Res Seen Flow Left = from left base s f (traf_d id (span_of (placed base h)) seen) (at + h.head) in
          told.right base (span_of (placed base h)) f (omega arith) (ends base)
          ∙ sym
          (ap (λ (p : Res Passed Flow Left). after p (λ p' g m cs. okay (seen_now seen p') g m cs)) (pick_yes _ _ _ (eq-eqb h.kind traf kind))
          ∙ after_assoc body (λ seen g m cs. okay (seeing seen) g m cs) (λ p g m cs. okay (seen_now seen p) g m cs)
          ∙ after_okay body);
      fixed = told.fixed;
    }

    moof_skipped : (h.kind ≡ traf → ⊥) → (base : ℕ) (f : Flow) → from left base s f (skip_to seen (base + (at + h.size))) (at + h.head) ≡ InMoof base f
    unfolding moof_body_d seen_now either
    moof_skipped kind base f =
        sym
        (ap (λ (p : Res Passed Flow Left). after p (λ p' g m cs. okay (seen_now seen p') g m cs)) (pick_no _ _ _ (ne_eqb h.kind traf kind))
        ∙ after_assoc (skip_d left _ f (base + (at + h.head)) (drop (at + h.head) s)) (λ u g m cs. okay skipped g m cs) (λ p g m cs. okay (seen_now seen p) g m cs)
        ∙ ap (λ (e : ℕ). from left base s f (skip_to seen e) (at + h.head)) (ends base))

    pub moof_over_skipped : (h.kind ≡ traf → ⊥) → at + h.size ≤ length s → MoofBoxWalked s id at h seen (Ok seen)
    moof_over_skipped kind there = record {
      right = λ base f. skip_over seen base s f (at + h.head) (at + h.size) hd.here here there ∙ moof_skipped kind base f;
      fixed = there;
    }

    pub moof_cut_skipped : (h.kind ≡ traf → ⊥) → length s < at + h.size → MoofBoxWalked s id at h seen (Err halt.Ended)
    moof_cut_skipped kind gone = record {
      right = λ base f. skip_cut seen base s f (at + h.head) (at + h.size) hd.here here gone ∙ moof_skipped kind base f;
      fixed = tt;
    }

  -- a box of a leaf: a `moof`, or one that is skipped
  module _ (so : LeafSo) where
    abbrev InLeaf : ℕ → Flow → Res LeafSo Flow Left
    InLeaf base f = from left base s f (leaf_box_d id so (placed base h)) (at + h.head)

    moof_read : h.kind ≡ moof → (base : ℕ) (f : Flow) →
        after (from left base s f (moof_d id (base + (at + h.size)) so.seen) (at + h.head)) (λ seen g m cs. okay (record { moof = true; seen = seen }) g m cs) ≡ InLeaf base f
    unfolding leaf_body_d leaf_now either
    moof_read kind base f =
        let body : ℕ → Res Seen Flow Left = λ (e : ℕ). from left base s f (moof_d id e so.seen) (at + h.head) in
        sym
        (ap (λ (p : Res Passed Flow Left). after p (λ p' g m cs. okay (leaf_now so p') g m cs)) (pick_yes _ _ _ (eq-eqb h.kind moof kind))
        ∙ after_assoc (body (base + h.pos + h.size)) (λ seen g m cs. okay (seeing seen) g m cs) (λ p g m cs. okay (leaf_now so p) g m cs)
        ∙ ap (λ (e : ℕ). after (body e) (λ seen g m cs. okay (record { moof = true; seen = seen }) g m cs)) (ends base))

    module _ (kind : h.kind ≡ moof) {r : Result Seen Halt} (told : MoofWalked s id (at + h.head) (at + h.size) so.seen r) where
      pub box_moof : {seen : Seen} → r ≡ Ok seen → LeafBoxWalked s id at h so (Ok (record { moof = true; seen = seen }))
      unfolding walked_d either
      box_moof {seen} q = record {
        right = λ base f.
            ap (λ (w : Result Seen Halt). after (walked_d base s (at + h.size) f w) (λ seen g m cs. okay (record { moof = true; seen = seen }) g m cs)) (sym q)
            ∙ ap (λ (w : Res Seen Flow Left). after w (λ seen g m cs. okay (record { moof = true; seen = seen }) g m cs)) (told.right base f)
            ∙ moof_read kind base f;
        fixed = over_fixed s (at + h.size) q told.fixed;
      }

      pub box_moof_off : (x : Halt) → r ≡ Err x → LeafBoxWalked s id at h so (Err x)
      box_moof_off x q = record {
        right = λ base f.
            walk_stays base s (at + h.size) (at + h.size) f (λ seen g m cs. okay (record { moof = true; seen = seen }) g m cs) fail x q (λ y z. refl)
            ∙ ap (λ (w : Res Seen Flow Left). after w (λ seen g m cs. okay (record { moof = true; seen = seen }) g m cs)) (told.right base f)
            ∙ moof_read kind base f;
        fixed = halt_fixed s (at + h.size) q told.fixed;
      }

    leaf_skipped : (h.kind ≡ moof → ⊥) → (base : ℕ) (f : Flow) → from left base s f (skip_to so (base + (at + h.size))) (at + h.head) ≡ InLeaf base f
    unfolding leaf_body_d leaf_now either
    leaf_skipped kind base f =
        sym
        (ap (λ (p : Res Passed Flow Left). after p (λ p' g m cs. okay (leaf_now so p') g m cs)) (pick_no _ _ _ (ne_eqb h.kind moof kind))
        ∙ after_assoc (skip_d left _ f (base + (at + h.head)) (drop (at + h.head) s)) (λ u g m cs. okay skipped g m cs) (λ p g m cs. okay (leaf_now so p) g m cs)
        ∙ ap (λ (e : ℕ). from left base s f (skip_to so e) (at + h.head)) (ends base))

    pub leaf_over_skipped : (h.kind ≡ moof → ⊥) → at + h.size ≤ length s → LeafBoxWalked s id at h so (Ok so)
    leaf_over_skipped kind there = record {
      right = λ base f. skip_over so base s f (at + h.head) (at + h.size) hd.here here there ∙ leaf_skipped kind base f;
      fixed = there;
    }

    pub leaf_cut_skipped : (h.kind ≡ moof → ⊥) → length s < at + h.size → LeafBoxWalked s id at h so (Err halt.Ended)
    leaf_cut_skipped kind gone = record {
      right = λ base f. skip_cut so base s f (at + h.head) (at + h.size) hd.here here gone ∙ leaf_skipped kind base f;
      fixed = tt;
    }

-- A box of a list whose boxes of one type are containers: it is one, or it is skipped.
module _ (id : ℕ) (s : List ℕ) (at : ℕ) (h : Header) (hd : Headed s at h) (seen : Seen) where
  abbrev known : Bool → LeafSo
  known had = record { moof = had; seen = seen }

  with_moof : (had : Bool) → h.kind ≡ moof → true ≡ (had || eqb h.kind moof)
  with_moof true kind = refl
  with_moof false kind = sym (eq-eqb h.kind moof kind)

  with_none : (had : Bool) → (h.kind ≡ moof → ⊥) → had ≡ (had || eqb h.kind moof)
  with_none true kind = refl
  with_none false kind = sym (ne_eqb h.kind moof kind)

  moof_in_leaf : h.kind ≡ moof → (r : Result Seen Halt) → MoofWalked s id (at + h.head) (at + h.size) seen r → BoxWalked s nest.Moof id at h seen r
  moof_in_leaf kind (Ok k) told had =
      subst (λ (t : Bool). LeafBoxWalked s id at h (known had) (Ok (record { moof = t; seen = k }))) (with_moof had kind) (box_moof id s at h hd (known had) kind told refl)
  moof_in_leaf kind (Err x) told had = box_moof_off id s at h hd (known had) kind told x refl

  pub box_list : (list : Nest) → h.kind ≡ nest_kind list → (r : Result Seen Halt) → ListWalked s list id at (at + h.head) (at + h.size) seen r → BoxWalked s list id at h seen r
  unfolding nest_kind
  box_list nest.Moof kind r told = moof_in_leaf kind r told
  box_list nest.Traf kind r told = box_traf id s at h hd seen kind told

  pub box_passed : (list : Nest) → (h.kind ≡ nest_kind list → ⊥) → at + h.size ≤ length s → BoxWalked s list id at h seen (Ok seen)
  unfolding nest_kind
  box_passed nest.Moof kind there = λ had.
      subst (λ (t : Bool). LeafBoxWalked s id at h (known had) (Ok (known t))) (with_none had kind) (leaf_over_skipped id s at h hd (known had) kind there)
  box_passed nest.Traf kind there = moof_over_skipped id s at h hd seen kind there

  pub box_cut : (list : Nest) → (h.kind ≡ nest_kind list → ⊥) → length s < at + h.size → BoxWalked s list id at h seen (Err halt.Ended)
  unfolding nest_kind
  box_cut nest.Moof kind gone = λ had. leaf_cut_skipped id s at h hd (known had) kind gone
  box_cut nest.Traf kind gone = moof_cut_skipped id s at h hd seen kind gone
