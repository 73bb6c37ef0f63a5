-- The boxes up to the top index, by structure.
use Rattle.std.specs.Prelude.{ℕ, zero, suc, ◌-◌, List, Bool, false, ◌||◌, eqb, length}
use Rattle.basics.specs.Choose.{pick}
use Rattle.segment.specs.Constants.{styp, sidx}
use Rattle.machine.specs.Faults.{unless}
use Rattle.machine.specs.Run.{Res, okay, fail, cut, after, field_d, plain, skip_d}
use Rattle.machine.specs.Heads.{box_end}
use Rattle.machine.specs.Lists.{boxes_d}
use Rattle.machine.specs.declared.Header.{Header}
use Rattle.state.specs.declared.Span.{Span}
use Rattle.state.specs.declared.IndexRead.{IndexRead}
use Rattle.state.specs.Flow.{Flow, Left, left}
use Rattle.state.specs.Rows.{is}
use Rattle.state.specs.Sidx.{topmost}
use Rattle.state.specs.Opening.{OpeningGave, passed, indexed, span_of, unlisted, opening}
use Rattle.descent.specs.Sidx.{sidx_d}

-- a body that is skipped, up to a place
abbrev pub skip_to : {R : Type 0} → R → ℕ → Flow → ℕ → List ℕ → Res R Flow Left
skip_to r stop f n bs = after (skip_d left (stop - n) f n bs) (λ u g m cs. okay r g m cs)

-- compatible brands, to the end of the `styp`; each takes bytes, so that as many turns as there are bytes are enough
unfoldable pub brands_d : ℕ → ℕ → Span → Bool → Flow → ℕ → List ℕ → Res OpeningGave Flow Left
brands_d zero brand span listed f n bs = cut (left f) n
brands_d (suc turns) brand span listed f n bs =
    pick (eqb n span.end) (unless (unlisted span listed) (λ x. fail x (left f) n) (okay passed f n bs))
    (field_d left plain (λ v g m cs. brands_d turns brand span (listed || eqb v brand) g m cs) 4 0 f n bs)

-- `styp`: major brand, minor version, compatible brands
unfoldable pub styp_d : ℕ → Span → Flow → ℕ → List ℕ → Res OpeningGave Flow Left
styp_d brand span f n bs =
    field_d left plain (λ major g m cs. field_d left plain (λ minor h k ds. brands_d (suc (length ds)) brand span false h k ds) 4 0 g m cs) 4 0 f n bs

unfoldable pub opening_body_d : ℕ → Header → Flow → ℕ → List ℕ → Res OpeningGave Flow Left
opening_body_d brand h f n bs =
    pick (is h styp) (styp_d brand (span_of h) f n bs)
    (pick (is h sidx) (after (sidx_d topmost (span_of h) f n bs) (λ x g m cs. okay (indexed x) g m cs)) (skip_to passed (box_end h) f n bs))

abbrev pub opening_d : ℕ → Flow → ℕ → List ℕ → Res IndexRead Flow Left
opening_d brand f n bs = boxes_d (opening brand) (λ branded. opening_body_d brand) (suc (length bs)) false f n bs
