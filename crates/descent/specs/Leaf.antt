-- A leaf by structure: a list of boxes, in which a `moof` is a list of boxes, in which a `traf` is one.
use Rattle.std.specs.Prelude.{ℕ, List, [], Bool, true, false, eqb, length}
use Rattle.basics.specs.Choose.{pick}
use Rattle.segment.specs.Constants.{moof, traf, tfhd, tfdt}
use Rattle.machine.specs.Faults.{unless}
use Rattle.machine.specs.Run.{Res, okay, fail, after, field_d, plain}
use Rattle.machine.specs.Heads.{box_end}
use Rattle.machine.specs.Lists.{boxes_d, go_on_d}
use Rattle.machine.specs.declared.Header.{Header}
use Rattle.state.specs.declared.Span.{Span}
use Rattle.state.specs.declared.Seen.{Seen}
use Rattle.state.specs.declared.Slot.{Slot}
use Rattle.state.specs.declared.TrafPhase.{TrafPhase}
use Rattle.state.specs.Flow.{Flow, Left, left}
use Rattle.state.specs.Rows.{is}
use Rattle.state.specs.Opening.{span_of}
use Rattle.state.specs.Traf.{Gave, nothing, headed, timed, tfdt_version_faults, reference, traf_so0, traf_next, traf_boxes}
use Rattle.state.specs.Leaf.{Passed, skipped, seeing, moof_next, moof_boxes, leaf_boxes, leaf_so0}
use Rattle.descent.specs.Opening.{skip_to}

abbrev Gave' : Type 0
Gave' = Res Gave Flow Left

-- `tfhd`: version and flags, track ID; the rest is ignored
unfoldable pub tfhd_d : ℕ → ℕ → Flow → ℕ → List ℕ → Gave'
tfhd_d id end f n bs =
    field_d left plain (λ flags g m cs. field_d left plain (λ v h k ds. skip_to (headed (eqb v id)) end h k ds) 4 0 g m cs) 4 0 f n bs

-- a decode time of 32 or 64 bits, after the flags
unfoldable pub width_d : Bool → Bool → ℕ → Flow → ℕ → List ℕ → Gave'
width_d true r pos f n bs = field_d left plain (λ v g m cs. okay (timed r pos v) g m cs) 8 0 f n bs
width_d false r pos f n bs = field_d left plain (λ v g m cs. okay (timed r pos v) g m cs) 4 0 f n bs

-- `tfdt`: version, flags, decode time
unfoldable pub tfdt_d : Bool → ℕ → ℕ → Flow → ℕ → List ℕ → Gave'
tfdt_d r pos end f n bs =
    field_d left plain
    (λ v g m cs.
    unless (tfdt_version_faults pos end v m) (λ x. fail x (left g) m) (field_d left plain (λ flags h k ds. width_d (eqb v 1) r pos h k ds) 3 0 g m cs))
    1 0 f n bs

unfoldable pub traf_body_d : ℕ → TrafPhase → Header → Flow → ℕ → List ℕ → Gave'
traf_body_d id t h f n bs =
    pick (is h tfhd) (tfhd_d id (box_end h) f n bs)
    (pick (is h tfdt) (tfdt_d (reference t) h.pos (box_end h) f n bs) (skip_to nothing (box_end h) f n bs))

abbrev pub traf_d : ℕ → Span → Seen → Flow → ℕ → List ℕ → Res Seen Flow Left
traf_d id span seen f n bs =
    go_on_d (traf_boxes id span) (λ so. traf_body_d id so.track)
    (boxes_d (traf_boxes id span) (λ so. traf_body_d id so.track) (length bs)) (traf_next span (traf_so0 seen) [] n) f n bs

unfoldable pub moof_body_d : ℕ → Seen → Header → Flow → ℕ → List ℕ → Res Passed Flow Left
moof_body_d id seen h f n bs =
    pick (is h traf) (after (traf_d id (span_of h) seen f n bs) (λ s g m cs. okay (seeing s) g m cs)) (skip_to skipped (box_end h) f n bs)

abbrev pub moof_d : ℕ → ℕ → Seen → Flow → ℕ → List ℕ → Res Seen Flow Left
moof_d id end seen f n bs =
    go_on_d (moof_boxes id end) (moof_body_d id) (boxes_d (moof_boxes id end) (moof_body_d id) (length bs)) (moof_next end seen n) f n bs

unfoldable pub leaf_body_d : ℕ → Seen → Header → Flow → ℕ → List ℕ → Res Passed Flow Left
leaf_body_d id seen h f n bs =
    pick (is h moof) (after (moof_d id (box_end h) seen f n bs) (λ s g m cs. okay (seeing s) g m cs)) (skip_to skipped (box_end h) f n bs)

-- a leaf from its first byte on, with the decode times seen
abbrev pub leaf_d : ℕ → Slot → Flow → ℕ → List ℕ → Res Seen Flow Left
leaf_d id slot f n bs = boxes_d (leaf_boxes id slot) (λ so. leaf_body_d id so.seen) (length bs) (leaf_so0 f.last) f n bs
