-- A body that is skipped, of a box whose header was read.
use Prim.Native.Nat.{ℕ, ◌+◌, ◌≤◌, ◌<◌}
use mathlib.Core.Path.{◌≡◌, ap, ◌∙◌}
use mathlib.Core.List.{List}
use native.Mathlib.Omega.{arith}
use lib.ListN.{length, drop}
use Rattle.machine.specs.Run.{Res, okay, cut}
use Rattle.machine.specs.Heads.{box_end}
use Rattle.machine.specs.declared.Header.{Header}
use Rattle.state.specs.Flow.{Flow, Left, left}
use Rattle.descent.specs.Opening.{skip_to}
use Rattle.fields.specs.Onward.{placed}
use Rattle.fields.proofs.Descents.{skip_there, skip_ends}

module _ {R : Type 0} (r : R) (base : ℕ) (s : List ℕ) (f : Flow) (h : Header) (at : ℕ) (pos : h.pos ≡ at) (here : at + h.head ≤ length s) (holds : h.head ≤ h.size) where
  abbrev SkipAt : Res R Flow Left
  SkipAt = skip_to r (box_end (placed base h)) f (base + (at + h.head)) (drop (at + h.head) s)

  ends : box_end (placed base h) ≡ base + (at + h.size)
  ends = omega arith

  pub skip_over : at + h.size ≤ length s → SkipAt ≡ okay r f (base + (at + h.size)) (drop (at + h.size) s)
  skip_over there =
      ap (λ (e : ℕ). skip_to r e f (base + (at + h.head)) (drop (at + h.head) s)) ends
      ∙ skip_there left base s f r (at + h.size) (at + h.head) here (omega arith) there

  pub skip_cut : length s < at + h.size → SkipAt ≡ cut (left f) (base + length s)
  skip_cut gone =
      ap (λ (e : ℕ). skip_to r e f (base + (at + h.head)) (drop (at + h.head) s)) ends
      ∙ skip_ends left base s f r (at + h.size) (at + h.head) here (omega arith) gone
