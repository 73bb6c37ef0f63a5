-- What a header shows up to the top index beyond its size; and the top index at any time.
use Prim.Native.Nat.{ℕ, zero, suc, ◌+◌, ◌*◌}
use mathlib.Core.Path.{◌≡◌, refl, ap, sym, ◌∙◌}
use mathlib.Core.List.{List}
use mathlib.Core.Bool.{Bool, not, ◌||◌}
use lib.Dec.{eqb}
use Rattle.basics.proofs.Picks.{pick_both}
use Rattle.segment.specs.Constants.{styp, moof, mdat}
use Rattle.machine.specs.Run.{Sub, go, done, bad, lift}
use Rattle.machine.specs.declared.Header.{Header}
use Rattle.machine.proofs.Faults.{unless_both}
use Rattle.state.specs.declared.Span.{Span}
use Rattle.state.specs.declared.Draft.{Draft}
use Rattle.state.specs.declared.Sums.{Sums}
use Rattle.state.specs.declared.IndexRead.{IndexRead}
use Rattle.state.specs.declared.Sidx.{Sidx}
use Rattle.state.specs.declared.Sidx.TheVariants as sidxs
use Rattle.state.specs.declared.IndexPart.{IndexPart}
use Rattle.state.specs.declared.IndexPart.TheVariants as part
use Rattle.state.specs.declared.EntryPart.{EntryPart}
use Rattle.state.specs.declared.EntryPart.TheVariants as entry
use Rattle.state.specs.declared.OpeningBody.TheVariants as body
use Rattle.state.specs.Flow.{Flow, Left, with_now}
use Rattle.state.specs.Sidx.{topmost, sidx_version_faults, id_faults, scale_faults, time_faults, offset_faults, count_faults}
use Rattle.state.specs.Sidx.{sum_faults, entry_size_faults, index_of, close_sidx, field_ends, entry_ends, keep_byte}
use Rattle.state.specs.Sidx.{step_sidx}
use Rattle.state.specs.Calls.{flow_of}
use Rattle.state.specs.Opening.{indexed, step_opening_body}
use Rattle.state.specs.Views.{view}
use Rattle.machine.specs.declared.Refusal.{Refusal}
use Rattle.machine.specs.declared.Step.{Step}
use Rattle.machine.specs.declared.Step.TheVariants as step
use Rattle.std.specs.Prelude.{Some, None, Result, Ok, Err}
use Rattle.std.specs.Option.{option_or}
use Rattle.basics.specs.Choose.{pick}
use Rattle.state.specs.Rows.{top_lengths, opening_faults}
use Rattle.flaws.specs.Flaws.{flaw_of, numbered}
use Rattle.flaws.proofs.Numbered.{first_of, two_kinds}
use Rattle.flaws.proofs.Places.{opening_flaws}

-- what a header shows beyond its size
pub opening_told : (branded : Bool) (h : Header) → numbered (flaw_of (opening_faults branded h))
    ≡ option_or (numbered (flaw_of (top_lengths h)))
    (pick (pick branded (eqb h.kind styp) (not (eqb h.kind styp))) (Some 7) (pick (eqb h.kind moof || eqb h.kind mdat) (Some 9) None))
opening_told branded h =
    ap numbered (opening_flaws branded h) ∙ first_of _ _ ∙ ap (option_or _) (sym (two_kinds _ _))

-- an answer with the next entry's start at the time `t`
unfoldable pub timed : ℕ → Sub Sidx IndexRead Flow Left → Sub Sidx IndexRead Flow Left
timed t (go s f) = go s (with_now f t)
timed t (done x f) = done x (with_now f t)
timed t (bad x l) = bad x l

pub timed_view : (t : ℕ) (f : Flow) (r : Result (Step Sidx IndexRead) Refusal) → view (with_now f t) r ≡ timed t (view f r)
unfolding timed
timed_view t f (Ok (step.Going s)) = refl
timed_view t f (Ok (step.Done x)) = refl
timed_view t f (Err x) = refl

-- The top index does not look at the time at which the next entry starts.
module _ (t : ℕ) (span : Span) where
  timed_field : (i : IndexPart) (d : Draft) (v : ℕ) (f : Flow) (n : ℕ) → field_ends topmost span i d v (with_now f t) n ≡ timed t (field_ends topmost span i d v f n)
  unfolding field_ends timed time_faults
  timed_field part.Version d v f n = unless_both (λ r. r) (timed t) _ _ _ _ (sidx_version_faults span v n) (λ z. refl) refl
  timed_field part.Flags d v f n = refl
  timed_field part.Id d v f n = unless_both (λ r. r) (timed t) _ _ _ _ (id_faults topmost span v) (λ z. refl) refl
  timed_field part.Scale d v f n = unless_both (λ r. r) (timed t) _ _ _ _ (scale_faults topmost span v) (λ z. refl) refl
  timed_field part.Time d v f n = unless_both (λ r. r) (timed t) _ _ _ _ (time_faults topmost span t v) (λ z. refl) refl
  timed_field part.Offset d v f n = unless_both (λ r. r) (timed t) _ _ _ _ (offset_faults topmost span v) (λ z. refl) refl
  timed_field part.Reserved d v f n = refl
  timed_field part.Count d v f n = unless_both (λ r. r) (timed t) _ _ _ _ (count_faults span v n) (λ z. refl) refl

  timed_entry : (e : EntryPart) (d : Draft) (s : Sums) (v : ℕ) (f : Flow) (n : ℕ) → entry_ends topmost span e d s v (with_now f t) n ≡ timed t (entry_ends topmost span e d s v f n)
  unfolding entry_ends close_sidx sum_faults timed
  timed_entry entry.Size d s v f n = unless_both (λ r. r) (timed t) _ _ _ _ (entry_size_faults span v) (λ z. refl) refl
  timed_entry entry.Duration d s v f n = refl
  timed_entry entry.Sap d s v f n =
      pick_both (eqb (suc s.next) s.count) (λ r. r) (timed t) _ _ _ _
      (unless_both (λ r. r) (timed t) _ _ _ _ (sum_faults topmost span (index_of d s) t n) (λ z. refl) refl) refl

  pub timed_sidx : (s : Sidx) (f : Flow) (n b : ℕ) → step_sidx topmost span s (with_now f t) n b ≡ timed t (step_sidx topmost span s f n b)
  unfolding step_sidx timed
  timed_sidx (sidxs.Field i d zero acc) f n b = timed_field i d (acc * 256 + b) f (suc n)
  timed_sidx (sidxs.Field i d (suc m) acc) f n b = refl
  timed_sidx (sidxs.Entry e d s zero acc) f n b = timed_entry e d s (acc * 256 + b) (keep_byte topmost e s f 0 b) (suc n)
  timed_sidx (sidxs.Entry e d s (suc m) acc) f n b = refl

-- a byte of the top index at one time says what it is at any
pub any_time : (leaves at last : ℕ) (entry exit table : List ℕ) (span : Span) (i : Sidx) (n b : ℕ) (r : Result (Step Sidx IndexRead) Refusal) →
    view (flow_of leaves 0 last exit table) r ≡ step_sidx topmost span i (flow_of leaves 0 last entry table) n b →
    view (flow_of leaves at last exit table) r ≡ step_sidx topmost span i (flow_of leaves at last entry table) n b
any_time leaves at last entry exit table span i n b r e =
    timed_view at (flow_of leaves 0 last exit table) r ∙ ap (timed at) e ∙ sym (timed_sidx at span i (flow_of leaves 0 last entry table) n b)

-- a byte of the top index, as a body
pub index_step : (brand leaves at last : ℕ) (entry exit table : List ℕ) (span : Span) (i : Sidx) (n b : ℕ) (r : Result (Step Sidx IndexRead) Refusal) →
    view (flow_of leaves 0 last exit table) r ≡ step_sidx topmost span i (flow_of leaves 0 last entry table) n b →
    lift (body.Index span) (λ x g. done (indexed x) g) bad (view (flow_of leaves at last exit table) r)
    ≡ step_opening_body brand (body.Index span i) (flow_of leaves at last entry table) n b
unfolding step_opening_body
index_step brand leaves at last entry exit table span i n b r e =
    ap (λ (q : Sub Sidx IndexRead Flow Left). lift (body.Index span) (λ x g. done (indexed x) g) bad q)
    (any_time leaves at last entry exit table span i n b r e)
