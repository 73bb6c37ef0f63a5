-- The contract of `ticks_asked` itself, as the check reads it: two outcomes that it allows coincide.
use mathlib.Core.Path.{refl, sym, ◌∙◌}
use Rattle.basics.specs.Outcome.{Coincide}
use Rattle.seconds.proofs.ticks_asked.Kinds as kinds
use Rattle.seconds.proofs.ticks_asked.Reads as stated

-- of one request and one timescale: one answer
pub ticks_asked_once : Coincide 0 kinds.ps kinds.r stated.Post
ticks_asked_once κs given r r' left left' p q = (p ∙ sym q, refl)
