-- The contracts of the functions that other crates call, as the check reads them: two outcomes that one allows coincide.
use mathlib.Core.Path.{refl, sym, ap, ◌∙◌}
use Rattle.basics.specs.Outcome.{Coincide, after_call}
use Rattle.spelling.specs.Together.{Taken}
use Rattle.spelling.proofs.spell_bytes.Kinds as bytes-kinds
use Rattle.spelling.proofs.spell_bytes.Reads as bytes-stated
use Rattle.spelling.proofs.spell_on.Kinds as kinds
use Rattle.spelling.proofs.spell_on.Reads as stated

-- of one number so far, piece, place in it and count of bytes: one number
pub spell_bytes_once : Coincide 1 bytes-kinds.ps bytes-kinds.r bytes-stated.Post
spell_bytes_once κs given r r' left left' p q = (p ∙ sym q, refl)

-- of one state, piece, place in it and work area: one state and place, and one work area after the call, byte by byte
pub spell_on_once : Coincide 2 kinds.ps kinds.r stated.Post
spell_on_once κs given r r' left left' p q =
    let same = p.0 ∙ sym q.0 in (
      ap (λ (t : Taken). record { state = t.state; at = t.at }) same,
      ap (λ (t : Taken). after_call 2 kinds.ps kinds.r κs given (tt, (tt, (tt, (t.work, tt))))) same,
    )
