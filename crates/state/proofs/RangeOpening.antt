-- The ranges up to the top index, and in the gap.
use Prim.Native.Nat.{ℕ, zero, suc, ◌+◌, ◌*◌, ◌≤◌, ◌<◌}
use mathlib.Core.List.{List, []}
use mathlib.Core.Bool.{Bool, ◌||◌}
use native.Mathlib.Omega.{arith}
use lib.Dec.{eqb, leb}
use Rattle.basics.proofs.Picks.{pick_holds}
use Rattle.segment.specs.Constants.{limit, styp, sidx}
use Rattle.machine.specs.Run.{done, bad}
use Rattle.machine.specs.Heads.{box_end}
use Rattle.machine.specs.Lists.{BoxPhase, in_head, in_body, step_boxes}
use Rattle.machine.specs.declared.Header.{Header}
use Rattle.machine.proofs.Kept.{lift_kept, Each, each_none}
use Rattle.state.specs.declared.Span.{Span}
use Rattle.state.specs.declared.StypPart.{StypPart}
use Rattle.state.specs.declared.StypPart.TheVariants as styps
use Rattle.state.specs.declared.OpeningBody.{OpeningBody}
use Rattle.state.specs.declared.OpeningBody.TheVariants as body
use Rattle.state.specs.Boxed.{OpeningBoxes}
use Rattle.machine.specs.declared.BoxesSo.TheVariants as inBoxes
use Rattle.state.specs.declared.GapBoxes.{GapBoxes}
use Rattle.state.specs.declared.GapBoxes.TheVariants as gaps
use Rattle.state.specs.Flow.{Flow, left}
use Rattle.state.specs.Rows.{is, opening_faults, gap_faults}
use Rattle.state.specs.Sidx.{topmost, step_sidx}
use Rattle.state.specs.Opening.{OpeningGave, passed, indexed, unlisted, brands_from, styp_ends, skip_opening, begin_opening, step_opening_body, opening_kind}
use Rattle.state.specs.Opening.{close_opening, opening, wrap_opening, step_opening}
use Rattle.state.specs.Stages.{skip_gap, gap_kind, gap_next, gap_boxes, wrap_gap, step_gap}
use Rattle.state.specs.Ranges.{Bound, Within, opening_body_bounds, opening_bounds, gap_bounds, sidx_bounds}
use Rattle.state.proofs.RangeTests.{spelled_first, spelled_next}
use Rattle.state.proofs.RangeKept.{Numbered, Flows, Refuses, Goes, KeptIn, shown, both, unless_kept, pick_kept, box_bounds, box_kept, Closes, boxes_kept}
use Rattle.state.proofs.RangeSidx.{Read, sidx_starts, step_sidx_lem}
use Rattle.state.proofs.RangeLeaf.{top_lengths_lem}

opening_faults_lem : (branded : Bool) (h : Header) → Each Numbered (opening_faults branded h)
unfolding opening_faults
opening_faults_lem branded h = both _ _ (top_lengths_lem h) (both _ _ (shown _ 7 _ (omega arith)) (shown _ 9 _ (omega arith)))

gap_faults_lem : (h : Header) → Each Numbered (gap_faults h)
unfolding gap_faults
gap_faults_lem h = both _ _ (top_lengths_lem h) (both _ _ (shown _ 7 _ (omega arith)) (shown _ 9 _ (omega arith)))

module _ (t : ℕ) where
  -- a box is passed, or it was the top index
  abbrev Opens : OpeningGave → Flow → Type 0
  Opens passed f = Flows t f
  Opens (indexed x) f = Read t topmost x f

  brands_from_lem : (span : Span) (found : Bool) (f : Flow) (n : ℕ) → Flows t f → KeptIn t opening_body_bounds Opens (brands_from span found f n)
  unfolding brands_from opening_body_bounds
  brands_from_lem span found f n k =
      pick_kept t opening_body_bounds Opens (eqb n span.end) _ _
      (unless_kept t opening_body_bounds Opens (unlisted span found) (left f) _ (shown _ 8 _ (omega arith)) k.0 (λ e. k))
      (spelled_first 3 3 (omega arith), k)

  styp_ends_lem : (brand : ℕ) (span : Span) (p : StypPart) (found : Bool) (v : ℕ) (f : Flow) (n : ℕ) → Flows t f → KeptIn t opening_body_bounds Opens (styp_ends brand span p found v f n)
  unfolding styp_ends opening_body_bounds
  styp_ends_lem brand span styps.Major found v f n k = (spelled_first 3 3 (omega arith), k)
  styp_ends_lem brand span styps.Minor found v f n k = brands_from_lem span found f n k
  styp_ends_lem brand span styps.Brand found v f n k = brands_from_lem span (found || eqb v brand) f n k

  skip_opening_lem : (stop : ℕ) (f : Flow) (n : ℕ) → Flows t f → KeptIn t opening_body_bounds Opens (skip_opening stop f n)
  unfolding opening_body_bounds
  skip_opening_lem stop f n k = pick_kept t opening_body_bounds Opens (leb stop n) _ _ k (tt, k)

  begin_opening_lem : (h : Header) (f : Flow) (n : ℕ) → Flows t f → KeptIn t opening_body_bounds Opens (begin_opening h f n)
  unfolding begin_opening opening_body_bounds
  begin_opening_lem h f n k =
      pick_kept t opening_body_bounds Opens (is h styp) _ _ (spelled_first 3 3 (omega arith), k)
      (pick_kept t opening_body_bounds Opens (is h sidx) _ _ (sidx_starts, k) (skip_opening_lem (box_end h) f n k))

  step_opening_body_lem : (brand : ℕ) (s : OpeningBody) (f : Flow) (n b : ℕ) → n ≤ limit → b < 256 → Within (opening_body_bounds s) → Flows t f →
      KeptIn t opening_body_bounds Opens (step_opening_body brand s f n b)
  unfolding step_opening_body opening_body_bounds
  step_opening_body_lem brand (body.Skip stop) f n b hn hb w k = skip_opening_lem stop f (suc n) k
  step_opening_body_lem brand (body.Styp span p found zero acc) f n b hn hb w k = styp_ends_lem brand span p found (acc * 256 + b) f (suc n) k
  step_opening_body_lem brand (body.Styp span p found (suc m) acc) f n b hn hb w k = (spelled_next 3 m acc b hb w, k)
  step_opening_body_lem brand (body.Index span s) f n b hn hb w k =
      lift_kept (Goes t sidx_bounds) (Read t topmost) Refuses (Goes t opening_body_bounds) Opens Refuses (body.Index span) (λ x g. done (indexed x) g) bad
      (step_sidx topmost span s f n b) (λ s' g y. y) (λ x g y. y) (λ x l y. y) (step_sidx_lem t topmost span s f n b hb w k)

  close_opening_lem : (branded : Bool) (r : OpeningGave) (f : Flow) (n : ℕ) → Opens r f → Closes t (Read t topmost) f (close_opening branded r f n)
  unfolding close_opening
  close_opening_lem branded passed f n k = (each_none Numbered, k)
  close_opening_lem branded (indexed x) f n k = (each_none Numbered, k.2.0, λ e. k)

  opening_box : (brand : ℕ) (branded : Bool) (s : BoxPhase OpeningBody) (f : Flow) (n b : ℕ) → n ≤ limit → b < 256 → Within (box_bounds opening_body_bounds s) → Flows t f →
      KeptIn t opening_bounds (Read t topmost) (step_boxes (opening brand) wrap_opening branded s f n b)
  unfolding opening_bounds
  opening_box brand branded s f n b hn hb w k =
      boxes_kept t (opening brand) wrap_opening opening_bounds (Read t topmost) (λ g h. h) (λ a h y. y) opening_body_bounds Opens (λ a x y. y) close_opening_lem
      (λ a kept m. each_none Numbered) branded s f n b
      (box_kept t (opening_kind brand branded) opening_body_bounds Opens (λ g h. h) (λ h g. opening_faults_lem branded h) (λ h g m e z. begin_opening_lem h g m z)
      (step_opening_body_lem brand) s f n b hn hb w k)

  pub step_opening_lem : (brand : ℕ) (s : OpeningBoxes) (f : Flow) (n b : ℕ) → n ≤ limit → b < 256 → Within (opening_bounds s) → Flows t f →
      KeptIn t opening_bounds (Read t topmost) (step_opening brand s f n b)
  unfolding step_opening opening_bounds
  step_opening_lem brand (inBoxes.Head branded h) f n b hn hb w k = opening_box brand branded (in_head h) f n b hn hb w k
  step_opening_lem brand (inBoxes.Body branded s) f n b hn hb w k = opening_box brand branded (in_body s) f n b hn hb w k

  -- The gap.
  abbrev pub Passes : Unit {0} → Flow → Type 0
  Passes u f = Flows t f

  abbrev no_bounds : ℕ → List Bound
  no_bounds stop = []

  skip_gap_lem : (stop : ℕ) (f : Flow) (n : ℕ) → Flows t f → KeptIn t no_bounds Passes (skip_gap stop f n)
  skip_gap_lem stop f n k = pick_kept t no_bounds Passes (leb stop n) _ _ k (tt, k)

  gap_next_lem : (end : ℕ) (f : Flow) (n : ℕ) → Flows t f → Closes t Passes f (gap_next end n)
  unfolding gap_next
  gap_next_lem end f n k = pick_holds (Closes t Passes f) (eqb n end) _ _ (λ e. (each_none Numbered, k.0, λ e'. k)) (λ e. (each_none Numbered, k))

  gap_box : (end : ℕ) (s : BoxPhase ℕ) (f : Flow) (n b : ℕ) → n ≤ limit → b < 256 → Within (box_bounds no_bounds s) → Flows t f →
      KeptIn t gap_bounds Passes (step_boxes (gap_boxes end) wrap_gap tt s f n b)
  unfolding gap_bounds
  gap_box end s f n b hn hb w k =
      boxes_kept t (gap_boxes end) wrap_gap gap_bounds Passes (λ g h. h) (λ a h y. y) no_bounds Passes (λ a x y. y) (λ a r g m h. gap_next_lem end g m h)
      (λ a kept m. each_none Numbered) tt s f n b
      (box_kept t (gap_kind end) no_bounds Passes (λ g h. h) (λ h g. gap_faults_lem h) (λ h g m e z. skip_gap_lem (box_end h) g m z)
      (λ stop g m c hm hc v z. skip_gap_lem stop g (suc m) z) s f n b hn hb w k)

  pub step_gap_lem : (end : ℕ) (s : GapBoxes) (f : Flow) (n b : ℕ) → n ≤ limit → b < 256 → Within (gap_bounds s) → Flows t f → KeptIn t gap_bounds Passes (step_gap end s f n b)
  unfolding step_gap gap_bounds
  step_gap_lem end (gaps.Head h) f n b hn hb w k = gap_box end (in_head h) f n b hn hb w k
  step_gap_lem end (gaps.Body stop) f n b hn hb w k = gap_box end (in_body stop) f n b hn hb w k
