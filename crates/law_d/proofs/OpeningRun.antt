-- The boxes up to the top index by structure are those boxes read byte by byte.
use Prim.Native.Nat.{ℕ, zero, suc, ◌≤◌, ◌<◌}
use mathlib.Core.Path.{◌≡◌, refl, ap, sym, ◌∙◌}
use mathlib.Core.List.{List}
use mathlib.Core.Bool.{Bool, false, ◌||◌}
use native.Mathlib.Omega.{arith}
use lib.Dec.{eqb}
use lib.ListN.{length}
use Rattle.basics.proofs.Picks.{pick_both}
use Rattle.segment.specs.Constants.{styp, sidx}
use Rattle.machine.specs.Run.{Sub, go, done, lift, Res, okay, after, cont_by, run, cont, field_d, plain}
use Rattle.machine.specs.Heads.{box_end}
use Rattle.machine.specs.Lists.{BoxPhase, in_head, in_body, step_boxes, boxes_d}
use Rattle.machine.specs.declared.Header.{Header}
use Rattle.machine.specs.declared.Head.TheVariants as at
use Rattle.machine.proofs.Faults.{unless_both}
use Rattle.machine.proofs.Runs.{inside}
use Rattle.machine.proofs.Fields.{field_within, skip_run}
use Rattle.machine.proofs.Lists.{boxes_run}
use Rattle.state.specs.declared.Span.{Span}
use Rattle.state.specs.declared.IndexRead.{IndexRead}
use Rattle.state.specs.declared.StypPart.{StypPart}
use Rattle.state.specs.declared.StypPart.TheVariants as styps
use Rattle.state.specs.declared.OpeningBody.{OpeningBody}
use Rattle.state.specs.declared.OpeningBody.TheVariants as body
use Rattle.machine.specs.declared.BoxesSo.TheVariants as inBoxes
use Rattle.state.specs.Flow.{Flow, Left, left}
use Rattle.state.specs.Rows.{is}
use Rattle.state.specs.Sidx.{topmost, sidx_start, step_sidx}
use Rattle.state.specs.Opening.{OpeningGave, passed, indexed, span_of, unlisted, brands_from, styp_ends, begin_opening, step_opening_body, opening, wrap_opening, step_opening}
use Rattle.descent.specs.Opening.{brands_d, styp_d, opening_body_d, opening_d}
use Rattle.law_d.proofs.SidxRun.{sidx_run}

module _ (brand : ℕ) where
  abbrev O : ℕ → List ℕ → Sub OpeningBody OpeningGave Flow Left → Res OpeningGave Flow Left
  O n bs r = cont left (step_opening_body brand) n bs r

  -- a number of a `styp`
  number : (span : Span) (p : StypPart) (found : Bool) (k : ℕ → Flow → ℕ → List ℕ → Res OpeningGave Flow Left) (N : ℕ) →
      ((v : ℕ) (f : Flow) (n : ℕ) (bs : List ℕ) → length bs < N → k v f n bs ≡ O n bs (styp_ends brand span p found v f n)) →
      (f : Flow) (n : ℕ) (bs : List ℕ) → length bs ≤ N → field_d left plain k 4 0 f n bs ≡ O n bs (go (body.Styp span p found 3 0) f)
  unfolding step_opening_body cont_by
  number span p found k N ends f n bs h =
      field_within left (step_opening_body brand) plain (body.Styp span p found) (styp_ends brand span p found) (λ acc g n' b. refl) (λ m acc g n' b. refl) k N ends 3 0 f n bs h

  brands : (turns : ℕ) (span : Span) (found : Bool) (f : Flow) (n : ℕ) (bs : List ℕ) → length bs < turns → brands_d turns brand span found f n bs ≡ O n bs (brands_from span found f n)
  unfolding brands_d brands_from cont_by styp_ends
  brands zero span found f n bs h = absurd (omega arith)
  brands (suc turns) span found f n bs h =
      pick_both (eqb n span.end) (λ r. r) (O n bs) _ _ _ _
      (unless_both (λ r. r) (O n bs) _ _ _ _ (unlisted span found) (λ x. refl) refl)
      (number span styps.Brand found _ (length bs) (λ v g m cs l. brands turns span (found || eqb v brand) g m cs (omega arith)) f n bs (omega arith))

  styp_run : (span : Span) (f : Flow) (n : ℕ) (bs : List ℕ) → styp_d brand span f n bs ≡ O n bs (go (body.Styp span styps.Major false 3 0) f)
  unfolding styp_d styp_ends
  styp_run span f n bs =
      number span styps.Major false _ (length bs)
      (λ v g m cs l. number span styps.Minor false _ (length cs) (λ u h k ds l'. brands (suc (length ds)) span false h k ds (omega arith)) g m cs (omega arith)) f n bs (omega arith)

  index_run : (span : Span) (f : Flow) (n : ℕ) (bs : List ℕ) →
      after (cont left (step_sidx topmost span) n bs (go sidx_start f)) (λ x g m cs. okay (indexed x) g m cs) ≡ O n bs (go (body.Index span sidx_start) f)
  unfolding step_opening_body cont_by lift
  index_run span f n bs = sym (inside left (step_sidx topmost span) (step_opening_body brand) (body.Index span) (λ m x g. done (indexed x) g) (λ s g n' b. refl) n bs (go sidx_start f))

  opening_body : (h : Header) (f : Flow) (n : ℕ) (bs : List ℕ) → opening_body_d brand h f n bs ≡ O n bs (begin_opening h f n)
  unfolding opening_body_d begin_opening step_opening_body
  opening_body h f n bs =
      pick_both (is h styp) (λ r. r) (O n bs) _ _ _ _ (styp_run (span_of h) f n bs)
      (pick_both (is h sidx) (λ r. r) (O n bs) _ _ _ _
      (ap (λ (r : Res IndexRead Flow Left). after r (λ x g m cs. okay (indexed x) g m cs)) (sidx_run topmost (span_of h) f n bs) ∙ index_run (span_of h) f n bs)
      (skip_run left (step_opening_body brand) (box_end h) (body.Skip (box_end h)) passed (λ g m b. refl) f n bs))

  -- from any box of the opening on; `branded` where the `styp` stands before it
  pub opening_from : (branded : Bool) (f : Flow) (n : ℕ) (bs : List ℕ) →
      boxes_d (opening brand) (λ b. opening_body_d brand) (suc (length bs)) branded f n bs ≡ run left (step_opening brand) (inBoxes.Head branded at.First) f n bs
  unfolding step_opening
  opening_from branded f n bs =
      boxes_run (opening brand) wrap_opening (step_opening brand) steps (λ a. refl) (λ a. opening_body_d brand) (λ a. opening_body) (suc (length bs)) branded f n bs (omega arith)
    where
      steps : (a : Bool) (s : BoxPhase OpeningBody) (g : Flow) (m b : ℕ) → step_opening brand (wrap_opening a s) g m b ≡ step_boxes (opening brand) wrap_opening a s g m b
      steps a (in_head h) g m b = refl
      steps a (in_body s) g m b = refl

  pub opening_run : (f : Flow) (n : ℕ) (bs : List ℕ) → opening_d brand f n bs ≡ run left (step_opening brand) (inBoxes.Head false at.First) f n bs
  opening_run f n bs = opening_from false f n bs
