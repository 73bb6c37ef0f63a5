-- A leaf by structure is the leaf read byte by byte: its boxes, those of a `moof` in it, and those of a `traf` in that.
use Prim.Native.Nat.{ℕ, suc}
use mathlib.Core.Path.{◌≡◌, refl, ap, sym, ◌∙◌}
use mathlib.Core.List.{List, []}
use mathlib.Core.Bool.{Bool, true, false}
use native.Mathlib.Omega.{arith}
use lib.Dec.{eqb}
use lib.ListN.{length}
use Rattle.basics.proofs.Picks.{pick_both}
use Rattle.segment.specs.Constants.{moof, traf, tfhd, tfdt}
use Rattle.machine.specs.Run.{Sub, go, done, bad, lift, Res, okay, after, cont_by, run, cont, field_d, plain}
use Rattle.machine.specs.Heads.{box_end}
use Rattle.machine.specs.Lists.{BoxPhase, in_head, in_body, step_boxes}
use Rattle.machine.specs.declared.Header.{Header}
use Rattle.machine.specs.declared.Head.TheVariants as at
use Rattle.machine.proofs.Faults.{unless_both}
use Rattle.machine.proofs.Runs.{inside}
use Rattle.machine.proofs.Fields.{field_run, skip_run}
use Rattle.machine.proofs.Lists.{boxes_run, go_on_run}
use Rattle.state.specs.declared.Span.{Span}
use Rattle.state.specs.declared.Seen.{Seen}
use Rattle.state.specs.declared.Slot.{Slot}
use Rattle.state.specs.declared.TrafPhase.{TrafPhase}
use Rattle.state.specs.declared.TrafSo.{TrafSo}
use Rattle.state.specs.declared.TrafPart.{TrafPart}
use Rattle.state.specs.declared.TrafPart.TheVariants as part
use Rattle.state.specs.declared.TrafBody.{TrafBody}
use Rattle.state.specs.declared.TrafBody.TheVariants as body
use Rattle.state.specs.Boxed.{TrafBoxes}
use Rattle.state.specs.declared.MoofBody.{MoofBody}
use Rattle.state.specs.declared.MoofBody.TheVariants as moofs
use Rattle.state.specs.Boxed.{MoofBoxes}
use Rattle.state.specs.declared.LeafSo.{LeafSo}
use Rattle.state.specs.declared.LeafBody.{LeafBody}
use Rattle.state.specs.declared.LeafBody.TheVariants as leaves
use Rattle.machine.specs.declared.BoxesSo.TheVariants as inBoxes
use Rattle.state.specs.Flow.{Flow, Left, left}
use Rattle.state.specs.Rows.{is}
use Rattle.state.specs.Opening.{span_of}
use Rattle.state.specs.Traf.{Gave, nothing, headed, tfdt_version_faults, reference, traf_ends, begin_traf, step_traf_body, traf_next, traf_boxes, wrap_traf, step_traf, traf_so0, begin_traf_boxes}
use Rattle.state.specs.Leaf.{Passed, skipped, seeing, begin_moof, step_moof_body, moof_next, moof_boxes, wrap_moof}
use Rattle.state.specs.Leaf.{step_moof, begin_moof_boxes, begin_leaf, step_leaf_body, leaf_boxes, wrap_leaf, step_leaf, leaf_so0}
use Rattle.descent.specs.Leaf.{tfhd_d, width_d, tfdt_d, traf_body_d, traf_d, moof_body_d, moof_d, leaf_body_d, leaf_d}

module _ (id : ℕ) (t : TrafPhase) where
  abbrev T : ℕ → List ℕ → Sub TrafBody Gave Flow Left → Res Gave Flow Left
  T n bs r = cont left (step_traf_body id t) n bs r

  -- a number of a `tfhd` or a `tfdt`
  number : (p : TrafPart) (k : ℕ → Flow → ℕ → List ℕ → Res Gave Flow Left) → ((v : ℕ) (f : Flow) (n : ℕ) (bs : List ℕ) → k v f n bs ≡ T n bs (traf_ends id t p v f n)) →
      (m : ℕ) (f : Flow) (n : ℕ) (bs : List ℕ) → field_d left plain k (suc m) 0 f n bs ≡ T n bs (go (body.Field p m 0) f)
  unfolding step_traf_body cont_by
  number p k ends m f n bs = field_run left (step_traf_body id t) plain (body.Field p) (traf_ends id t p) (λ acc g n' b. refl) (λ m' acc g n' b. refl) k ends m 0 f n bs

  tfhd_run : (end : ℕ) (f : Flow) (n : ℕ) (bs : List ℕ) → tfhd_d id end f n bs ≡ T n bs (go (body.Field (part.HeadFlags end) 3 0) f)
  unfolding tfhd_d traf_ends step_traf_body
  tfhd_run end f n bs =
      number (part.HeadFlags end) _
      (λ v g m cs. number (part.TrackId end) _ (λ u h k ds. skip_run left (step_traf_body id t) end (body.Rest end (eqb u id)) (headed (eqb u id)) (λ i l b. refl) h k ds) 3 g m cs)
      3 f n bs

  width_run : (wide : Bool) (pos v : ℕ) (f : Flow) (n : ℕ) (bs : List ℕ) → width_d wide (reference t) pos f n bs ≡ T n bs (traf_ends id t (part.TimeFlags pos wide) v f n)
  unfolding width_d traf_ends cont_by
  width_run true pos v f n bs = number (part.Time pos) _ (λ v g m cs. refl) 7 f n bs
  width_run false pos v f n bs = number (part.Time pos) _ (λ v g m cs. refl) 3 f n bs

  tfdt_run : (pos end : ℕ) (f : Flow) (n : ℕ) (bs : List ℕ) → tfdt_d (reference t) pos end f n bs ≡ T n bs (go (body.Field (part.Version pos end) 0 0) f)
  unfolding tfdt_d traf_ends cont_by
  tfdt_run pos end f n bs =
      number (part.Version pos end) _
      (λ v g m cs. unless_both (λ r. r) (T m cs) _ _ _ _ (tfdt_version_faults pos end v m) (λ x. refl)
      (number (part.TimeFlags pos (eqb v 1)) _ (λ flags h k ds. width_run (eqb v 1) pos flags h k ds) 2 g m cs))
      0 f n bs

  traf_body : (h : Header) (f : Flow) (n : ℕ) (bs : List ℕ) → traf_body_d id t h f n bs ≡ T n bs (begin_traf h f n)
  unfolding traf_body_d begin_traf step_traf_body
  traf_body h f n bs =
      pick_both (is h tfhd) (λ r. r) (T n bs) _ _ _ _ (tfhd_run (box_end h) f n bs)
      (pick_both (is h tfdt) (λ r. r) (T n bs) _ _ _ _ (tfdt_run h.pos (box_end h) f n bs)
      (skip_run left (step_traf_body id t) (box_end h) (body.Skip (box_end h)) nothing (λ g m b. refl) f n bs))

-- the boxes of a `traf`
traf_steps : (id : ℕ) (span : Span) (a : TrafSo) (s : BoxPhase TrafBody) (f : Flow) (n b : ℕ) → step_traf id span (wrap_traf a s) f n b ≡ step_boxes (traf_boxes id span) wrap_traf a s f n b
unfolding step_traf
traf_steps id span a (in_head h) f n b = refl
traf_steps id span a (in_body s) f n b = refl

traf_run : (id : ℕ) (span : Span) (seen : Seen) (f : Flow) (n : ℕ) (bs : List ℕ) → traf_d id span seen f n bs ≡ cont left (step_traf id span) n bs (begin_traf_boxes id span seen f n)
traf_run id span seen f n bs =
    go_on_run (traf_boxes id span) wrap_traf (step_traf id span) (traf_steps id span) (λ a. refl) (λ so. traf_body_d id so.track) (λ so. traf_body id so.track)
    (length bs) (traf_next span (traf_so0 seen) [] n) f n bs (omega arith)

module _ (id : ℕ) where
  abbrev M : ℕ → List ℕ → Sub MoofBody Passed Flow Left → Res Passed Flow Left
  M n bs r = cont left (step_moof_body id) n bs r

  -- a `traf` inside a `moof`
  in_moof : (span : Span) (n : ℕ) (bs : List ℕ) (r : Sub TrafBoxes Seen Flow Left) →
      after (cont left (step_traf id span) n bs r) (λ s g m cs. okay (seeing s) g m cs) ≡ M n bs (lift (moofs.Traf span) (λ s g. done (seeing s) g) bad r)
  unfolding step_moof_body cont_by
  in_moof span n bs r = sym (inside left (step_traf id span) (step_moof_body id) (moofs.Traf span) (λ m s g. done (seeing s) g) (λ s g n' b. refl) n bs r)

  moof_body : (seen : Seen) (h : Header) (f : Flow) (n : ℕ) (bs : List ℕ) → moof_body_d id seen h f n bs ≡ M n bs (begin_moof id seen h f n)
  unfolding moof_body_d begin_moof step_moof_body
  moof_body seen h f n bs =
      pick_both (is h traf) (λ r. r) (M n bs) _ _ _ _
      (ap (λ (r : Res Seen Flow Left). after r (λ s g m cs. okay (seeing s) g m cs)) (traf_run id (span_of h) seen f n bs) ∙ in_moof (span_of h) n bs (begin_traf_boxes id (span_of h) seen f n))
      (skip_run left (step_moof_body id) (box_end h) (moofs.Skip (box_end h)) skipped (λ g m b. refl) f n bs)

  moof_steps : (end : ℕ) (a : Seen) (s : BoxPhase MoofBody) (f : Flow) (n b : ℕ) → step_moof id end (wrap_moof a s) f n b ≡ step_boxes (moof_boxes id end) wrap_moof a s f n b
  unfolding step_moof
  moof_steps end a (in_head h) f n b = refl
  moof_steps end a (in_body s) f n b = refl

  moof_run : (end : ℕ) (seen : Seen) (f : Flow) (n : ℕ) (bs : List ℕ) → moof_d id end seen f n bs ≡ cont left (step_moof id end) n bs (begin_moof_boxes id end seen f n)
  moof_run end seen f n bs =
      go_on_run (moof_boxes id end) wrap_moof (step_moof id end) (moof_steps end) (λ a. refl) (moof_body_d id) moof_body (length bs) (moof_next end seen n) f n bs (omega arith)

  abbrev G : ℕ → List ℕ → Sub LeafBody Passed Flow Left → Res Passed Flow Left
  G n bs r = cont left (step_leaf_body id) n bs r

  -- a `moof` inside a leaf
  in_leaf : (end n : ℕ) (bs : List ℕ) (r : Sub MoofBoxes Seen Flow Left) →
      after (cont left (step_moof id end) n bs r) (λ s g m cs. okay (seeing s) g m cs) ≡ G n bs (lift (leaves.Moof end) (λ s g. done (seeing s) g) bad r)
  unfolding step_leaf_body cont_by
  in_leaf end n bs r = sym (inside left (step_moof id end) (step_leaf_body id) (leaves.Moof end) (λ m s g. done (seeing s) g) (λ s g n' b. refl) n bs r)

  leaf_body : (seen : Seen) (h : Header) (f : Flow) (n : ℕ) (bs : List ℕ) → leaf_body_d id seen h f n bs ≡ G n bs (begin_leaf id seen h f n)
  unfolding leaf_body_d begin_leaf step_leaf_body
  leaf_body seen h f n bs =
      pick_both (is h moof) (λ r. r) (G n bs) _ _ _ _
      (ap (λ (r : Res Seen Flow Left). after r (λ s g m cs. okay (seeing s) g m cs)) (moof_run (box_end h) seen f n bs) ∙ in_leaf (box_end h) n bs (begin_moof_boxes id (box_end h) seen f n))
      (skip_run left (step_leaf_body id) (box_end h) (leaves.Skip (box_end h)) skipped (λ g m b. refl) f n bs)

  leaf_steps : (slot : Slot) (a : LeafSo) (s : BoxPhase LeafBody) (f : Flow) (n b : ℕ) → step_leaf id slot (wrap_leaf a s) f n b ≡ step_boxes (leaf_boxes id slot) wrap_leaf a s f n b
  unfolding step_leaf
  leaf_steps slot a (in_head h) f n b = refl
  leaf_steps slot a (in_body s) f n b = refl

  -- a leaf, from its first byte on
  pub leaf_run : (slot : Slot) (f : Flow) (n : ℕ) (bs : List ℕ) → leaf_d id slot f n bs ≡ run left (step_leaf id slot) (inBoxes.Head (leaf_so0 f.last) at.First) f n bs
  leaf_run slot f n bs =
      boxes_run (leaf_boxes id slot) wrap_leaf (step_leaf id slot) (leaf_steps slot) (λ a. refl) (λ so. leaf_body_d id so.seen) (λ so. leaf_body so.seen)
      (length bs) (leaf_so0 f.last) f n bs (omega arith)
