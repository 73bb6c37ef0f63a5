-- The contracts of the functions that other crates call, as the check reads them: two outcomes that each allows coincide, and those that require nothing ask nothing.
use mathlib.Core.Path.{◌≡◌, refl, sym, ◌∙◌}
use mathlib.Core.Option.{Option, some, none}
use Rattle.std.specs.Prelude.{Some, None}
use Rattle.std.specs.Prelude as code
use Rattle.basics.proofs.Outcomes.{left_inverse_equal}
use Rattle.basics.specs.Outcome.{OneOutcome, Coincide}
use Rattle.state.specs.declared.Levels.{Levels}
use Rattle.levels.specs.Views.{open_of}
use Rattle.levels.proofs.entry_at.Kinds as entry-at-kinds
use Rattle.levels.proofs.entry_at.Reads as entry-at-stated
use Rattle.levels.proofs.entry_answer.Kinds as entry-answer-kinds
use Rattle.levels.proofs.entry_answer.Reads as entry-answer-stated
use Rattle.levels.proofs.inmost.Kinds as inmost-kinds
use Rattle.levels.proofs.inmost.Reads as inmost-stated
use Rattle.levels.proofs.depth.Kinds as depth-kinds
use Rattle.levels.proofs.depth.Reads as depth-stated
use Rattle.levels.proofs.took_entry.Kinds as took-entry-kinds
use Rattle.levels.proofs.took_entry.Reads as took-entry-stated
use Rattle.levels.proofs.push.Kinds as push-kinds
use Rattle.levels.proofs.push.Reads as push-stated
use Rattle.levels.proofs.still_open.Kinds as still-open-kinds
use Rattle.levels.proofs.still_open.Reads as still-open-stated
use Rattle.levels.proofs.read_back.Kinds as read-back-kinds
use Rattle.levels.proofs.read_back.Reads as read-back-stated

-- of one work area and place: one entry
pub entry_at_once : Coincide 1 entry-at-kinds.ps entry-at-kinds.r entry-at-stated.Post
entry_at_once κs given r r' left left' p q = (p ∙ sym q, refl)

-- of one index, an entry, a time and a byte count: one answer
pub entry_answer_once : Coincide 0 entry-answer-kinds.ps entry-answer-kinds.r entry-answer-stated.Post
entry_answer_once κs given r r' left left' p q = (p ∙ sym q, refl)

-- of the open indexes: one innermost
pub inmost_once : OneOutcome 0 inmost-kinds.ps inmost-kinds.r inmost-stated.Pre inmost-stated.Post
inmost_once = record {
  asks_nothing = λ κs given. tt;
  outcomes_coincide = λ κs given r r' left left' p q. (p ∙ sym q, refl);
}

-- of the open indexes: one count
pub depth_once : OneOutcome 0 depth-kinds.ps depth-kinds.r depth-stated.Pre depth-stated.Post
depth_once = record {
  asks_nothing = λ κs given. tt;
  outcomes_coincide = λ κs given r r' left left' p q. (p ∙ sym q, refl);
}

-- of the open indexes: the same ones with an entry taken
pub took_entry_once : Coincide 0 took-entry-kinds.ps took-entry-kinds.r took-entry-stated.Post
took_entry_once κs given r r' left left' p q = (p ∙ sym q, refl)

-- of the open indexes and one more: one nesting of them
pub push_once : OneOutcome 0 push-kinds.ps push-kinds.r push-stated.Pre push-stated.Post
push_once = record {
  asks_nothing = λ κs given. tt;
  outcomes_coincide = λ κs given r r' left left' p q. (p ∙ sym q, refl);
}

-- what the code answers, from what it says in the definitions' own types
abbrev open_again : Option Levels → code.Option Levels
open_again (some ls) = Some ls
open_again none = None

open_again_lem : (r : code.Option Levels) → open_again (open_of r) ≡ r
open_again_lem (Some ls) = refl
open_again_lem None = refl

-- of the open indexes: one answer, which of them stay open
pub still_open_once : OneOutcome 0 still-open-kinds.ps still-open-kinds.r still-open-stated.Pre still-open-stated.Post
still_open_once = record {
  asks_nothing = λ κs given. tt;
  outcomes_coincide = λ κs given r r' left left' p q. (left_inverse_equal open_again (open_again_lem r) (open_again_lem r') (p ∙ sym q), refl);
}

-- of one work area, the open indexes, a time and a byte count: one answer
pub read_back_once : Coincide 1 read-back-kinds.ps read-back-kinds.r read-back-stated.Post
read_back_once κs given r r' left left' p q = (p ∙ sym q, refl)
