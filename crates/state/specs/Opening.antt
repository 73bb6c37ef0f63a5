-- The boxes up to the top index: `styp`, skipped boxes, and the top index, which ends them.
use Rattle.std.specs.Prelude.{ℕ, suc, List, [], Bool, true, false, not, ◌||◌, eqb, leb}
use Rattle.basics.specs.Choose.{pick}
use Rattle.segment.specs.Constants.{limit, styp, sidx}
use Rattle.machine.specs.Faults.{shows, unless}
use Rattle.machine.specs.Run.{Sub, go, done, bad, lift, number_byte}
use Rattle.machine.specs.Heads.{box_end}
use Rattle.machine.specs.Lists.{BoxPhase, in_head, in_body, Kind, Next, again, over, Boxes, step_boxes}
use Rattle.machine.specs.declared.Refusal.{Refusal}
use Rattle.machine.specs.declared.Header.{Header}
use Rattle.state.specs.declared.Span.{Span}
use Rattle.state.specs.declared.IndexRead.{IndexRead}
use Rattle.state.specs.declared.StypPart.{StypPart}
use Rattle.state.specs.declared.StypPart.TheVariants as styps
use Rattle.state.specs.declared.OpeningBody.{OpeningBody}
use Rattle.state.specs.declared.OpeningBody.TheVariants as body
use Rattle.state.specs.Boxed.{OpeningBoxes}
use Rattle.machine.specs.declared.BoxesSo.TheVariants as inBoxes
use Rattle.state.specs.Flow.{Flow, Left, left}
use Rattle.state.specs.Rows.{is, opening_faults}
use Rattle.state.specs.Sidx.{topmost, sidx_start, step_sidx}

-- what a box up to the top index gives: it is passed, or it was the top index
pub data OpeningGave : Type 0 where
  passed : OpeningGave
  indexed : IndexRead → OpeningGave

abbrev Sub' : Type 0
Sub' = Sub OpeningBody OpeningGave Flow Left

abbrev pub span_of : Header → Span
span_of h = record { pos = h.pos; end = box_end h }

-- row 8: brand not listed (end of `styp`)
abbrev pub unlisted : Span → Bool → List Refusal
unlisted span listed = shows (not listed) 8 span.pos

-- compatible brands, to the end of the `styp`
unfoldable pub brands_from : Span → Bool → Flow → ℕ → Sub'
brands_from span listed f n =
    pick (eqb n span.end)
    (unless (unlisted span listed) (λ x. bad x (left f)) (done passed f))
    (go (body.Styp span styps.Brand listed 3 0) f)

-- `styp`: major brand, minor version, compatible brands; the brand wanted must be among the compatible ones
unfoldable pub styp_ends : ℕ → Span → StypPart → Bool → ℕ → Flow → ℕ → Sub'
styp_ends brand span styps.Major listed v f n = go (body.Styp span styps.Minor listed 3 0) f
styp_ends brand span styps.Minor listed v f n = brands_from span listed f n
styp_ends brand span styps.Brand listed v f n = brands_from span (listed || eqb v brand) f n

abbrev pub skip_opening : ℕ → Flow → ℕ → Sub'
skip_opening stop f n = pick (leb stop n) (done passed f) (go (body.Skip stop) f)

unfoldable pub begin_opening : Header → Flow → ℕ → Sub'
begin_opening h f n =
    pick (is h styp) (go (body.Styp (span_of h) styps.Major false 3 0) f)
    (pick (is h sidx) (go (body.Index (span_of h) sidx_start) f) (skip_opening (box_end h) f n))

unfoldable pub step_opening_body : ℕ → OpeningBody → Flow → ℕ → ℕ → Sub'
step_opening_body brand (body.Skip stop) f n b = skip_opening stop f (suc n)
step_opening_body brand (body.Styp span part listed more acc) f n b =
    number_byte (λ m v. go (body.Styp span part listed m v) f) (λ v. styp_ends brand span part listed v f (suc n)) more acc b
step_opening_body brand (body.Index span s) f n b = lift (body.Index span) (λ x g. done (indexed x) g) bad (step_sidx topmost span s f n b)

abbrev pub opening_kind : ℕ → Bool → Kind OpeningBody OpeningGave Flow Left
opening_kind brand branded =
    record { left = left; end = limit; shown = λ h f. opening_faults branded h; begin = begin_opening; body = step_opening_body brand }

-- after `styp` or a skipped box others follow; the top index ends the list
unfoldable pub close_opening : Bool → OpeningGave → Flow → ℕ → Next Bool IndexRead
close_opening branded passed f n = again true []
close_opening branded (indexed x) f n = over x []

abbrev pub opening : ℕ → Boxes Bool OpeningBody OpeningGave IndexRead Flow Left
opening brand = record { kept = left; box = opening_kind brand; close = close_opening; beside = λ branded kept n. [] }

abbrev pub wrap_opening : Bool → BoxPhase OpeningBody → OpeningBoxes
wrap_opening branded (in_head h) = inBoxes.Head branded h
wrap_opening branded (in_body s) = inBoxes.Body branded s

unfoldable pub step_opening : ℕ → OpeningBoxes → Flow → ℕ → ℕ → Sub OpeningBoxes IndexRead Flow Left
step_opening brand (inBoxes.Head branded h) f n b = step_boxes (opening brand) wrap_opening branded (in_head h) f n b
step_opening brand (inBoxes.Body branded s) f n b = step_boxes (opening brand) wrap_opening branded (in_body s) f n b
