-- A `traf`: one `tfhd`, then one `tfdt`, and no `tfad`.
use Rattle.std.specs.Prelude.{ℕ, suc, ◌+◌, List, [], ◌++◌, Bool, true, false, not, ◌&&◌, ◌||◌, eqb, ltb, leb}
use Rattle.basics.specs.Choose.{pick}
use Rattle.segment.specs.Constants.{tfhd, tfdt}
use Rattle.machine.specs.Faults.{shows, unless}
use Rattle.machine.specs.Run.{Sub, go, done, bad, number_byte}
use Rattle.machine.specs.Heads.{box_end}
use Rattle.machine.specs.Lists.{BoxPhase, in_head, in_body, Kind, Next, again, over, Boxes, step_boxes, go_on}
use Rattle.machine.specs.declared.Refusal.{Refusal}
use Rattle.machine.specs.declared.Header.{Header}
use Rattle.state.specs.declared.Span.{Span}
use Rattle.state.specs.declared.Seen.{Seen}
use Rattle.state.specs.declared.TrafPhase.{TrafPhase}
use Rattle.state.specs.declared.TrafPhase.TheVariants as track
use Rattle.state.specs.declared.TrafSo.{TrafSo}
use Rattle.state.specs.declared.TrafPart.{TrafPart}
use Rattle.state.specs.declared.TrafPart.TheVariants as part
use Rattle.state.specs.declared.TrafBody.{TrafBody}
use Rattle.state.specs.declared.TrafBody.TheVariants as body
use Rattle.state.specs.Boxed.{TrafBoxes}
use Rattle.machine.specs.declared.BoxesSo.TheVariants as inBoxes
use Rattle.state.specs.Flow.{Flow, Left, left}
use Rattle.state.specs.Rows.{is, traf_faults}

-- what a box of a `traf` gives: nothing; whether its track is the reference track; or whether it is, its place and its decode time
pub data Gave : Type 0 where
  nothing : Gave
  headed : Bool → Gave
  timed : Bool → ℕ → ℕ → Gave

abbrev Sub' : Type 0
Sub' = Sub TrafBody Gave Flow Left

-- row 10: version above 1; row 6: length not that of the version (version byte, the n-th)
unfoldable pub tfdt_version_faults : ℕ → ℕ → ℕ → ℕ → List Refusal
tfdt_version_faults pos end v n =
    shows (ltb 1 v) 10 pos ++ shows (eqb v 0 && not (eqb end (n + 7)) || eqb v 1 && not (eqb end (n + 11))) 6 pos

-- row 18: the reference track's decode time falls (end of `tfdt`)
unfoldable pub fall_faults : ℕ → Gave → List Refusal
fall_faults last nothing = []
fall_faults last (headed r) = []
fall_faults last (timed r pos v) = shows (r && ltb v last) 18 pos

-- whether a `tfhd` was read of the reference track, and no `tfdt` yet
unfoldable pub reference : TrafPhase → Bool
reference track.Fresh = false
reference (track.Headed r) = r
reference track.Timed = false

abbrev pub skip_traf : Gave → (ℕ → TrafBody) → ℕ → Flow → ℕ → Sub'
skip_traf gives skip stop f n = pick (leb stop n) (done gives f) (go (skip stop) f)

abbrev pub rest_from : ℕ → Bool → Flow → ℕ → Sub'
rest_from end r f n = skip_traf (headed r) (λ stop. body.Rest stop r) end f n

-- a number of a `tfhd` or a `tfdt` is read; `id` is the top index's reference ID
unfoldable pub traf_ends : ℕ → TrafPhase → TrafPart → ℕ → Flow → ℕ → Sub'
traf_ends id t (part.HeadFlags end) v f n = go (body.Field (part.TrackId end) 3 0) f
traf_ends id t (part.TrackId end) v f n = rest_from end (eqb v id) f n
traf_ends id t (part.Version pos end) v f n =
    unless (tfdt_version_faults pos end v n) (λ x. bad x (left f)) (go (body.Field (part.TimeFlags pos (eqb v 1)) 2 0) f)
traf_ends id t (part.TimeFlags pos true) v f n = go (body.Field (part.Time pos) 7 0) f
traf_ends id t (part.TimeFlags pos false) v f n = go (body.Field (part.Time pos) 3 0) f
traf_ends id t (part.Time pos) v f n = done (timed (reference t) pos v) f

unfoldable pub begin_traf : Header → Flow → ℕ → Sub'
begin_traf h f n =
    pick (is h tfhd) (go (body.Field (part.HeadFlags (box_end h)) 3 0) f)
    (pick (is h tfdt) (go (body.Field (part.Version h.pos (box_end h)) 0 0) f) (skip_traf nothing body.Skip (box_end h) f n))

unfoldable pub step_traf_body : ℕ → TrafPhase → TrafBody → Flow → ℕ → ℕ → Sub'
step_traf_body id t (body.Skip stop) f n b = skip_traf nothing body.Skip stop f (suc n)
step_traf_body id t (body.Rest stop r) f n b = rest_from stop r f (suc n)
step_traf_body id t (body.Field p more acc) f n b = number_byte (λ m v. go (body.Field p m v) f) (λ v. traf_ends id t p v f (suc n)) more acc b

abbrev pub traf_kind : ℕ → ℕ → TrafSo → Kind TrafBody Gave Flow Left
traf_kind id end so =
    record { left = left; end = end; shown = λ h f. traf_faults so.track h; begin = begin_traf; body = step_traf_body id so.track }

-- one more decode time, which counts where it is the reference track's
unfoldable pub saw : Seen → Bool → ℕ → Seen
saw s false v = s
saw s true v = record { any = true; first = pick s.any s.first v; last = v }

unfoldable pub traf_now : TrafSo → Gave → TrafSo
traf_now so nothing = so
traf_now so (headed r) = record { track = track.Headed r; seen = so.seen }
traf_now so (timed r pos v) = record { track = track.Timed; seen = saw so.seen r v }

-- row 16: one missing (end of `traf`, place `traf`)
unfoldable pub lacking : ℕ → TrafPhase → List Refusal
lacking pos track.Fresh = shows true 16 pos
lacking pos (track.Headed r) = shows true 16 pos
lacking pos track.Timed = []

-- the list goes on, or it ends where the `traf` does; `xs` are the faults that its last box shows
unfoldable pub traf_next : Span → TrafSo → List Refusal → ℕ → Next TrafSo Seen
traf_next span so xs n = pick (eqb n span.end) (over so.seen (xs ++ lacking span.pos so.track)) (again so xs)

abbrev pub traf_boxes : ℕ → Span → Boxes TrafSo TrafBody Gave Seen Flow Left
traf_boxes id span =
    record {
      kept = left;
      box = λ so. traf_kind id span.end so;
      close = λ so gave f n. traf_next span (traf_now so gave) (fall_faults so.seen.last gave) n;
      beside = λ so kept n. pick (eqb n span.end) (lacking span.pos so.track) [];
    }

abbrev pub wrap_traf : TrafSo → BoxPhase TrafBody → TrafBoxes
wrap_traf so (in_head h) = inBoxes.Head so h
wrap_traf so (in_body s) = inBoxes.Body so s

unfoldable pub step_traf : ℕ → Span → TrafBoxes → Flow → ℕ → ℕ → Sub TrafBoxes Seen Flow Left
step_traf id span (inBoxes.Head so h) f n b = step_boxes (traf_boxes id span) wrap_traf so (in_head h) f n b
step_traf id span (inBoxes.Body so s) f n b = step_boxes (traf_boxes id span) wrap_traf so (in_body s) f n b

abbrev pub traf_so0 : Seen → TrafSo
traf_so0 seen = record { track = track.Fresh; seen = seen }

-- a `traf` begins, and may end at once
abbrev pub begin_traf_boxes : ℕ → Span → Seen → Flow → ℕ → Sub TrafBoxes Seen Flow Left
begin_traf_boxes id span seen f n = go_on (traf_boxes id span) wrap_traf (traf_next span (traf_so0 seen) [] n) f
