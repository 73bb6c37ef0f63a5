-- The contracts of the functions that other crates call, as the check reads them: two outcomes that one allows coincide, and those that ask nothing say so.
use Prim.Native.Nat.{ℕ}
use mathlib.Core.Path.{◌≡◌, refl, sym, ap, ◌∙◌}
use mathlib.Core.List.{List, [], ◌∷◌}
use Rattle.std.specs.Prelude.{Option, Some, None, Result, Ok, Err}
use Rattle.basics.proofs.Outcomes.{left_inverse_equal}
use Rattle.basics.specs.Outcome.{Coincide, OneOutcome, after_call}
use Rattle.machine.specs.Run.{Sub, go, done, bad}
use Rattle.machine.specs.declared.Refusal.{Refusal}
use Rattle.machine.specs.declared.Step.{Step}
use Rattle.machine.specs.declared.Step.TheVariants as step
use Rattle.state.specs.declared.Span.{Span}
use Rattle.state.specs.declared.Sidx.{Sidx}
use Rattle.state.specs.declared.IndexRead.{IndexRead}
use Rattle.state.specs.Flow.{Flow, Left}
use Rattle.state.specs.Calls.{flow_of}
use Rattle.state.specs.Views.{view}
use Rattle.index.specs.Views.{shown_by}
use Rattle.index.proofs.refused_index.Kinds as refused-kinds
use Rattle.index.proofs.refused_index.Reads as refused-stated
use Rattle.index.proofs.index_begin.Kinds as begin-kinds
use Rattle.index.proofs.index_begin.Reads as begin-stated
use Rattle.index.proofs.too_short.Kinds as short-kinds
use Rattle.index.proofs.too_short.Reads as short-stated
use Rattle.index.proofs.no_count.Kinds as count-kinds
use Rattle.index.proofs.no_count.Reads as count-stated
use Rattle.index.proofs.sums_flaw.Kinds as sums-kinds
use Rattle.index.proofs.sums_flaw.Reads as sums-stated
use Rattle.index.proofs.byte_place.Kinds as place-kinds
use Rattle.index.proofs.byte_place.Reads as place-stated
use Rattle.index.proofs.index_byte.Kinds as byte-kinds
use Rattle.index.proofs.index_byte.Reads as byte-stated

-- the answer and the work area that a machine's answer is a view of
abbrev seen_index : Sub Sidx IndexRead Flow Left → Result (Step Sidx IndexRead) Refusal × List ℕ
seen_index (go s f) = (Ok (step.Going s), f.work)
seen_index (done x f) = (Ok (step.Done x), f.work)
seen_index (bad x l) = (Err x, l.work)

seen_index_lem : (f : Flow) (r : Result (Step Sidx IndexRead) Refusal) → seen_index (view f r) ≡ (r, f.work)
seen_index_lem f (Ok (step.Going s)) = refl
seen_index_lem f (Ok (step.Done x)) = refl
seen_index_lem f (Err x) = refl

-- of one answer to a byte: one refusal
pub refused_index_once : OneOutcome 0 refused-kinds.ps refused-kinds.r refused-stated.Pre refused-stated.Post
refused_index_once = record { asks_nothing = λ κs given. tt; outcomes_coincide = λ κs given r r' left left' p q. (p ∙ sym q, refl) }

-- of nothing: one index to begin with
pub index_begin_once : OneOutcome 0 begin-kinds.ps begin-kinds.r begin-stated.Pre begin-stated.Post
index_begin_once = record { asks_nothing = λ κs given. tt; outcomes_coincide = λ κs given r r' left left' p q. (p ∙ sym q, refl) }

-- of one version, box end and count of bytes: one test
pub too_short_once : Coincide 0 short-kinds.ps short-kinds.r short-stated.Post
too_short_once κs given r r' left left' p q = (p ∙ sym q, refl)

-- of one count: one test
pub no_count_once : OneOutcome 0 count-kinds.ps count-kinds.r count-stated.Pre count-stated.Post
no_count_once = record { asks_nothing = λ κs given. tt; outcomes_coincide = λ κs given r r' left left' p q. (p ∙ sym q, refl) }

-- the number that a fault shows, had back
abbrev number_shown : List Refusal → Option ℕ
number_shown [] = None
number_shown (x ∷ xs) = Some x.number

number_shown_lem : (r : Option ℕ) (p : ℕ) → number_shown (shown_by r p) ≡ r
number_shown_lem None p = refl
number_shown_lem (Some k) p = refl

-- of one index that was read, its place, time and count of bytes: one number
pub sums_flaw_once : Coincide 0 sums-kinds.ps sums-kinds.r sums-stated.Post
sums_flaw_once κs given r r' left left' p q =
    let span : Span = record { pos = 0; end = 0 } in
    (left_inverse_equal number_shown (number_shown_lem r 0) (number_shown_lem r' 0) (sym (p span) ∙ q span), refl)

-- of one byte of one entry: one place in the work area
pub byte_place_once : Coincide 0 place-kinds.ps place-kinds.r place-stated.Post
byte_place_once κs given r r' left left' p q = (p ∙ sym q, refl)

-- of one place, index so far, time, count of bytes, byte and work area: one answer, and one work area after the call, byte by byte
pub index_byte_once : Coincide 1 byte-kinds.ps byte-kinds.r byte-stated.Post
index_byte_once = λ κs given r r' left left' p q.
    let at = given.1.1.1.0 in
    let held = left.1.1.1.1.1.1.0 in
    let held' = left'.1.1.1.1.1.1.0 in
    let same = left_inverse_equal seen_index (seen_index_lem (flow_of 0 at 0 held []) r) (seen_index_lem (flow_of 0 at 0 held' []) r') (p 0 0 [] ∙ sym (q 0 0 [])) in (
      ap (λ (o : Result (Step Sidx IndexRead) Refusal × List ℕ). o.0) same,
      ap (λ (o : Result (Step Sidx IndexRead) Refusal × List ℕ). after_call 1 byte-kinds.ps byte-kinds.r κs given (tt, (tt, (tt, (tt, (tt, (tt, (o.1, tt)))))))) same,
    )
