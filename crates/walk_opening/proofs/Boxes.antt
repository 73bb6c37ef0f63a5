-- A box up to the top index, other than that: a `styp`, or a box that is skipped.
use Prim.Native.Nat.{ℕ, ◌+◌, ◌-◌, ◌/◌, ◌≤◌, ◌<◌}
use mathlib.Core.Path.{◌≡◌, refl, ap, sym, ◌∙◌}
use mathlib.Core.List.{List}
use mathlib.Core.Bool.{Bool, true, false}
use mathlib.Core.Logic.{◌⊎◌, inl, inr}
use native.Mathlib.Omega.{arith}
use lib.Dec.{eqb, ltb}
use lib.ListN.{length}
use borrow.Author.Tests.{eq-eqb, ne_eqb, lt-ltb, le-ltb}
use Rattle.std.specs.Prelude.{Ok, Err}
use Rattle.basics.specs.Choose.{pick}
use Rattle.basics.proofs.Picks.{lt_or_ge, pick_yes, pick_no}
use Rattle.segment.specs.Constants.{styp, sidx}
use Rattle.machine.specs.Run.{either}
use Rattle.machine.specs.Heads.{box_end}
use Rattle.machine.specs.declared.Header.{Header}
use Rattle.state.specs.declared.Span.{Span}
use Rattle.state.specs.Flow.{Flow, left}
use Rattle.state.specs.Opening.{passed, span_of}
use Rattle.descent.specs.Opening.{skip_to, styp_d, opening_body_d}
use Rattle.fields.specs.Answers.{stop_at}
use Rattle.fields.specs.Onward.{placed, from, halted}
use Rattle.reader.specs.Skips.{skip_at}
use Rattle.walk_opening.specs.Views.{Crossed, crossed_d}
use Rattle.walk_opening.specs.Steps.{lists_brand, BoxHere, StypLong, BoxPassed}
use Rattle.walk_opening.proofs.Skips.{skip_over, skip_cut}
use Rattle.walk_opening.proofs.Brands.{styp_end, styp_there, styp_cut}
use Rattle.fields.specs.declared.Halt.TheVariants as halt

module _ (brand : ℕ) (s : List ℕ) (at end : ℕ) (h : Header) (i : BoxHere s at end h) where
  -- a `styp` in its place
  styp_placed : (base : ℕ) (f : Flow) →
      from left base s f (styp_d brand (record { pos = base + at; end = base + (at + h.size) })) (at + h.head)
      ≡ from left base s f (styp_d brand (span_of (placed base h))) (at + h.head)
  styp_placed base f =
      let p : base + at ≡ base + h.pos = omega arith in
      let e : base + (at + h.size) ≡ base + h.pos + h.size = omega arith in
      let q : ◌≡◌ {A = Span} (record { pos = base + at; end = base + (at + h.size) }) (span_of (placed base h)) = cc in
      ap (λ (span : Span). from left base s f (styp_d brand span) (at + h.head)) q

  -- the bytes end before it does
  pub styp_ended : length s < at + h.size → BoxPassed (λ g. styp_d brand (span_of g)) s at h (Err halt.Ended)
  unfolding crossed_d either halted
  styp_ended gone =
      record { right = λ base f. sym (styp_cut brand base s f at (at + h.size) (at + h.head) i.here gone) ∙ styp_placed base f; fixed = tt }

  -- all its bytes are there
  module _ (there : at + h.size ≤ length s) (l : StypLong h) (t : Bool) (e : t ≡ lists_brand brand s (at + h.head + 8) ((at + h.size - (at + h.head + 8)) / 4)) where
    styp_read : (base : ℕ) (f : Flow) → styp_end brand base s f at (at + h.size) t ≡ from left base s f (styp_d brand (span_of (placed base h))) (at + h.head)
    styp_read base f =
        ap (styp_end brand base s f at (at + h.size)) e
        ∙ sym (styp_there brand base s f at (at + h.size) (at + h.head) i.here there (omega arith) (omega arith))
        ∙ styp_placed base f

    pub styp_listed : t ≡ true → BoxPassed (λ g. styp_d brand (span_of g)) s at h (Ok tt)
    unfolding crossed_d either halted
    styp_listed found = record { right = λ base f. sym (pick_yes t _ _ found) ∙ styp_read base f; fixed = there }

    pub styp_unlisted : t ≡ false → BoxPassed (λ g. styp_d brand (span_of g)) s at h (Err (halt.Bad (stop_at 8 at (at + h.size))))
    unfolding crossed_d either halted
    styp_unlisted none = record { right = λ base f. sym (pick_no t _ _ none) ∙ styp_read base f; fixed = refl }

  -- a `styp` by its type
  pub body_styp : (r : Crossed) → h.kind ≡ styp → BoxPassed (λ g. styp_d brand (span_of g)) s at h r → BoxPassed (opening_body_d brand) s at h r
  unfolding opening_body_d
  body_styp r k p = record { right = λ base f. p.right base f ∙ sym (pick_yes (eqb h.kind styp) _ _ (eq-eqb h.kind styp k)); fixed = p.fixed }

  -- a box that is neither a `styp` nor a `sidx` is skipped
  module _ (no-styp : h.kind ≡ styp → ⊥) (no-sidx : h.kind ≡ sidx → ⊥) where
    skipped : (base : ℕ) (f : Flow) → from left base s f (opening_body_d brand (placed base h)) (at + h.head)
        ≡ from left base s f (λ g m cs. skip_to passed (box_end (placed base h)) g m cs) (at + h.head)
    unfolding opening_body_d
    skipped base f = pick_no (eqb h.kind styp) _ _ (ne_eqb h.kind styp no-styp) ∙ pick_no (eqb h.kind sidx) _ _ (ne_eqb h.kind sidx no-sidx)

    pub body_skipped : {r : Crossed} → r ≡ skip_at s (at + h.size) → BoxPassed (opening_body_d brand) s at h r
    unfolding skip_at crossed_d halted either
    body_skipped e = rw e (by_length (lt_or_ge (length s) (at + h.size)))
      where
        by_length : (length s < at + h.size) ⊎ (at + h.size ≤ length s) → BoxPassed (opening_body_d brand) s at h (pick (ltb (length s) (at + h.size)) (Err halt.Ended) (Ok tt))
        by_length (inl gone) =
            rw (pick_yes {A = Crossed} (ltb (length s) (at + h.size)) (Err halt.Ended) (Ok tt) (lt-ltb _ _ gone))
            (record { right = λ base f. sym (skipped base f ∙ skip_cut passed base s f h at i.pos i.here i.holds gone); fixed = tt })
        by_length (inr there) =
            rw (pick_no {A = Crossed} (ltb (length s) (at + h.size)) (Err halt.Ended) (Ok tt) (le-ltb _ _ there))
            (record { right = λ base f. sym (skipped base f ∙ skip_over passed base s f h at i.pos i.here i.holds there); fixed = there })
