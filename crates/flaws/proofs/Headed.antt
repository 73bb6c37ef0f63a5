-- A header that was read, told its flaw: with a fault it is refused with that number at its place, without one its body begins.
use Prim.Native.Nat.{ℕ, ◌+◌, ◌≤◌}
use mathlib.Core.Path.{◌≡◌, refl, ap, sym, ◌∙◌}
use mathlib.Core.List.{◌++◌}
use native.Mathlib.Omega.{arith}
use Rattle.std.specs.Prelude.{Option, Some, None, Result, Ok, Err}
use Rattle.std.specs.Option.{option_or}
use Rattle.machine.specs.Faults.{refusal}
use Rattle.machine.specs.Run.{Sub, bad}
use Rattle.machine.specs.Heads.{size_faults}
use Rattle.machine.specs.Lists.{BoxPhase, Kind, faults_of, lift_body, headed}
use Rattle.machine.specs.declared.Header.{Header}
use Rattle.machine.specs.declared.Refusal.{Refusal}
use Rattle.state.specs.declared.Span.{Span}
use Rattle.state.specs.Opening.{span_of}
use Rattle.state.specs.Rows.{top_lengths}
use Rattle.machine.proofs.Kept.{Each}
use Rattle.flaws.specs.Flaws.{flaw_of, numbered, span_or}
use Rattle.flaws.proofs.Flaws.{Beyond, all_placed, flaw_none, flaw_some, flawless, length_beyond}
use Rattle.flaws.proofs.Numbered.{apart, some_number, no_number}

or_none : (o p : Option ℕ) → option_or o p ≡ None → o ≡ None
or_none None p e = refl
or_none (Some n) p e = absurd (apart (sym e))

module _ {B R F L : Type 0} (k : Kind B R F L) (h : Header) (f : F) (n : ℕ) (flaw : Option ℕ)
    (g : Each (Beyond h.pos) (k.shown h f)) (e : flaw ≡ numbered (flaw_of (faults_of k h f))) where
  -- a refusal, or the body that begins
  abbrev pub either_box : Result Span Refusal → Sub (BoxPhase B) R F L
  either_box (Ok s) = lift_body k (k.begin h f n)
  either_box (Err x) = bad x (k.left f)

  pub headed_bad : (number : ℕ) → flaw ≡ Some number → headed k h f n ≡ bad (refusal number h.pos) (k.left f)
  unfolding headed
  headed_bad number z =
      let told = some_number _ number (sym e ∙ z) in
      flaw_some h.pos _ _ (faults_of k h f) (all_placed k.end h _ g) told.1 ∙ ap (λ (m : ℕ). bad (refusal m h.pos) (k.left f)) told.0

  pub headed_good : flaw ≡ None → headed k h f n ≡ lift_body k (k.begin h f n)
  unfolding headed
  headed_good z = flaw_none h.pos _ _ (faults_of k h f) (all_placed k.end h _ g) (no_number _ (sym e ∙ z))

  -- the same of the box that the header begins
  pub headed_box : (r : Result Span Refusal) → r ≡ span_or flaw h → headed k h f n ≡ either_box r
  unfolding span_or
  headed_box r z = rw z (at flaw refl)
    where
      at : (o : Option ℕ) → flaw ≡ o → headed k h f n ≡ either_box (span_or o h)
      at None y = headed_good y
      at (Some number) y = headed_bad number y

-- a box that begins, where the header shows no number by size, length or type, is within its container
pub unshown : (end : ℕ) (h : Header) (other : Option ℕ) → option_or (numbered (flaw_of (size_faults end h ++ top_lengths h))) other ≡ None → h.pos + h.size ≤ end
unshown end h other e = (flawless end h (top_lengths h) (length_beyond h) (no_number _ (or_none _ other e))).1

pub the_span : (o : Option ℕ) (h : Header) (s : Span) → span_or o h ≡ Ok s → s ≡ span_of h
unfolding span_or
the_span None h s e = search e
the_span (Some n) h s e = let z : ◌≡◌ {A = ℕ} 0 1 = cc in absurd (omega arith)
