-- What an answer of the code makes of a reading by structure: the lent bytes start at the place `base`, and `f` flows through the reading.
use Rattle.fields.specs.declared.Halt.{Halt}
use Rattle.fields.specs.Answers.{FieldRead, HeadRead}
use Rattle.std.specs.Prelude.{ℕ, ◌+◌, List, length, drop, Some, None, Ok, Err}
use Rattle.machine.specs.Faults.{refusal}
use Rattle.machine.specs.Run.{Res, fail, cut}
use Rattle.machine.specs.Heads.{header}
use Rattle.machine.specs.declared.Header.{Header}
use Rattle.fields.specs.declared.Halt.TheVariants as halt
use Rattle.fields.specs.declared.Stop.{Stop}

-- a header at its place in the segment
abbrev pub placed : ℕ → Header → Header
placed base h = header (base + h.pos) h.kind h.size h.head

module _ {R F L : Type 0} (left : F → L) (base : ℕ) (s : List ℕ) (f : F) where
  -- a fault, at its place in the segment
  abbrev pub stopped : Stop → Res R F L
  stopped x = fail (refusal x.number (base + x.place)) (left f) (base + x.count)

  -- the bytes end
  abbrev pub ended : Res R F L
  ended = cut (left f) (base + length s)

  -- from a position on
  abbrev pub from : (F → ℕ → List ℕ → Res R F L) → ℕ → Res R F L
  from k at = k f (base + at) (drop at s)

  -- why nothing more is read
  unfoldable pub halted : Halt → Res R F L
  halted (halt.Bad x) = stopped x
  halted halt.Ended = ended

  unfoldable pub on_field : (ℕ → F → ℕ → List ℕ → Res R F L) → FieldRead → Res R F L
  on_field k (Some (v, next)) = from (k v) next
  on_field k None = ended

  unfoldable pub on_head : (Header → F → ℕ → List ℕ → Res R F L) → HeadRead → Res R F L
  on_head k (Ok h) = from (k (placed base h)) (h.pos + h.head)
  on_head k (Err x) = halted x
