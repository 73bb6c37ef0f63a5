-- The next box of a list, by the answer of its header: of any list whose boxes show what has their place, and beside which nothing is at fault.
use Prim.Native.Nat.{ℕ, ◌+◌, ◌-◌, ◌≤◌}
use mathlib.Core.Path.{◌≡◌, ap, ◌∙◌}
use mathlib.Core.List.{List, []}
use lib.ListN.{length, drop}
use Rattle.machine.specs.Faults.{refusal, lowest, unless}
use Rattle.machine.specs.Run.{Res, fail, either}
use Rattle.machine.specs.Lists.{Boxes, boxes_d}
use Rattle.machine.specs.declared.Header.{Header}
use Rattle.machine.specs.declared.Refusal.{Refusal}
use Rattle.machine.proofs.Kept.{Each}
use Rattle.fields.specs.Answers.{head_at, stop_at}
use Rattle.fields.specs.Onward.{placed, stopped, ended, from}
use Rattle.fields.specs.declared.Stop.{Stop}
use Rattle.fields.proofs.Answers.{HeadIn, head_in}
use Rattle.fields.proofs.Lists.{on_box, list_ended, list_stopped, list_headed}
use Rattle.std.specs.Prelude.{Option, Some, None, Ok, Err}
use Rattle.flaws.specs.Flaws.{flaw_of, numbered}
use Rattle.flaws.proofs.Flaws.{Beyond}
use Rattle.flaws.proofs.Told.{told_some, told_none, beyond_high}
use Rattle.fields.specs.declared.Halt.TheVariants as halt

module _ {A B R Q F L : Type 0} (l : Boxes A B R Q F L) (body_d : A → Header → F → ℕ → List ℕ → Res R F L) (lefts : (a : A) → (l.box a).left ≡ l.kept)
    (alone : (a : A) (kept : L) (n : ℕ) → l.beside a kept n ≡ []) (a : A) (f : F) (beyond : (h : Header) → Each (Beyond h.pos) ((l.box a).shown h f))
    (base : ℕ) (s : List ℕ) (end : ℕ) (ends : (l.box a).end ≡ base + end) (at : ℕ) (here : at ≤ length s) (turns : ℕ) (enough : length s - at ≤ turns) where
  abbrev BoxesAt : Res Q F L
  BoxesAt = boxes_d l body_d turns a f (base + at) (drop at s)

  pub boxes_ended : head_at s at end ≡ Err halt.Ended → BoxesAt ≡ ended l.kept base s f
  boxes_ended e = list_ended l body_d lefts base s a f at here end ends (λ h. beyond_high _ _ (beyond h)) turns enough e

  pub boxes_stopped : (x : Stop) → head_at s at end ≡ Err (halt.Bad x) → BoxesAt ≡ stopped l.kept base s f x
  unfolding lowest
  boxes_stopped x e =
      list_stopped l body_d lefts base s a f at here end ends (λ h. beyond_high _ _ (beyond h)) turns enough x e
      ∙ ap (λ (ys : List Refusal). fail (lowest (refusal x.number (base + x.place)) ys) (l.kept f) (base + x.count)) (alone a (l.kept f) (base + x.count))

  -- a header that was read, told its flaw
  module _ (h : Header) (read : head_at s at end ≡ Ok h) (flaw : Option ℕ) (told : flaw ≡ numbered (flaw_of ((l.box a).shown (placed base h) f))) where
    inside : HeadIn s at end h
    inside = head_in s at end h read

    abbrev worse : Refusal → Res R F L
    worse x = fail x ((l.box a).left f) (base + (at + h.head))

    abbrev body : Res R F L
    body = from l.kept base s f (body_d a (placed base h)) (at + h.head)

    headed : BoxesAt ≡ on_box l body_d (turns - 1) a (unless ((l.box a).shown (placed base h) f) worse body)
    headed =
        list_headed l body_d lefts base s a f at here end ends (λ g. beyond_high _ _ (beyond g)) turns enough h read
        ∙ ap (λ (p : ℕ). on_box l body_d (turns - 1) a (unless ((l.box a).shown (placed base h) f) (λ x. fail x ((l.box a).left f) (base + (p + h.head)))
        (from l.kept base s f (body_d a (placed base h)) (p + h.head)))) inside.pos

    pub boxes_flawed : (n : ℕ) → flaw ≡ Some n → BoxesAt ≡ stopped l.kept base s f (stop_at n at (at + h.head))
    unfolding on_box either lowest
    boxes_flawed n z =
        headed
        ∙ ap (on_box l body_d (turns - 1) a) (told_some (base + h.pos) ((l.box a).shown (placed base h) f) (beyond (placed base h)) flaw told worse body n z)
        ∙ ap (λ (ys : List Refusal). fail (lowest (refusal n (base + h.pos)) ys) ((l.box a).left f) (base + (at + h.head))) (alone a ((l.box a).left f) (base + (at + h.head)))
        ∙ ap (λ (p : ℕ). fail (refusal n (base + p)) ((l.box a).left f) (base + (at + h.head))) inside.pos
        ∙ ap (λ (left : F → L). fail (refusal n (base + at)) (left f) (base + (at + h.head))) (lefts a)

    pub boxes_clean : flaw ≡ None → BoxesAt ≡ on_box l body_d (turns - 1) a body
    boxes_clean z =
        headed ∙ ap (on_box l body_d (turns - 1) a) (told_none (base + h.pos) ((l.box a).shown (placed base h) f) (beyond (placed base h)) flaw told worse body z)
