-- The contracts of the functions that other crates call, as the check reads them: two outcomes that one allows coincide, and those that ask nothing say so.
use mathlib.Core.Path.{refl, sym, ◌∙◌}
use Rattle.basics.specs.Outcome.{OneOutcome, Coincide}
use Rattle.jump.proofs.leaf_skips.Kinds as leaf-skips-kinds
use Rattle.jump.proofs.leaf_skips.Reads as leaf-skips-stated
use Rattle.jump.proofs.least.Kinds as least-kinds
use Rattle.jump.proofs.least.Reads as least-stated
use Rattle.jump.proofs.passing_now.Kinds as passing-now-kinds
use Rattle.jump.proofs.passing_now.Reads as passing-now-stated
use Rattle.jump.proofs.pass.Kinds as pass-kinds
use Rattle.jump.proofs.pass.Reads as pass-stated

-- of one leaf's boxes: one end of the skipped body
pub leaf_skips_once : OneOutcome 0 leaf-skips-kinds.ps leaf-skips-kinds.r leaf-skips-stated.Pre leaf-skips-stated.Post
leaf_skips_once = record { asks_nothing = λ κs given. tt; outcomes_coincide = λ κs given r r' left left' p q. (p ∙ sym q, refl) }

-- of two numbers: one lesser
pub least_once : OneOutcome 0 least-kinds.ps least-kinds.r least-stated.Pre least-stated.Post
least_once = record { asks_nothing = λ κs given. tt; outcomes_coincide = λ κs given r r' left left' p q. (p ∙ sym q, refl) }

-- of one state and count of bytes at hand: one count of bytes that pass at once
pub passing_now_once : OneOutcome 0 passing-now-kinds.ps passing-now-kinds.r passing-now-stated.Pre passing-now-stated.Post
passing_now_once = record { asks_nothing = λ κs given. tt; outcomes_coincide = λ κs given r r' left left' p q. (p ∙ sym q, refl) }

-- of one state and count of bytes that pass: one state
pub pass_once : Coincide 0 pass-kinds.ps pass-kinds.r pass-stated.Post
pass_once κs given r r' left left' p q = (p ∙ sym q, refl)
