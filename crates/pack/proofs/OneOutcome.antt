-- The contracts of `pack` and `unpack` themselves, as the check reads them: each asks nothing, and two outcomes that it allows coincide.
use Prim.Native.Nat.{ℕ}
use mathlib.Core.Path.{refl, sym, ap, ◌∙◌}
use mathlib.Core.List.{List}
use Rattle.basics.specs.Outcome.{OneOutcome, after_call}
use Rattle.pack.proofs.pack.Kinds as pack-kinds
use Rattle.pack.proofs.pack.Reads as pack-stated
use Rattle.pack.proofs.unpack.Kinds as unpack-kinds
use Rattle.pack.proofs.unpack.Reads as unpack-stated

-- of one state and one lent slice: one answer, and one slice after the call, number by number
pub pack_once : OneOutcome 1 pack-kinds.ps pack-kinds.r pack-stated.Pre pack-stated.Post
pack_once = record {
  asks_nothing = λ κs given. tt;
  outcomes_coincide = λ κs given r r' left left' p q. (
    p.0 ∙ sym q.0,
    ap (λ (ns : List ℕ). after_call 1 pack-kinds.ps pack-kinds.r κs given (tt, (ns, tt))) (p.1 ∙ sym q.1),
  );
}

-- of one lent slice: one answer; the slice stays as it was
pub unpack_once : OneOutcome 1 unpack-kinds.ps unpack-kinds.r unpack-stated.Pre unpack-stated.Post
unpack_once = record {
  asks_nothing = λ κs given. tt;
  outcomes_coincide = λ κs given r r' left left' p q. (p ∙ sym q, refl);
}
