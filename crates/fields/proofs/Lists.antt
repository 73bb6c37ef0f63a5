-- A list of boxes at a position of the bytes: what its next box makes of it, with as many turns as there are bytes left; and that a
-- header's fault lists no leaf.
use Prim.Native.Nat.{ℕ, zero, suc, ◌+◌, ◌-◌, ◌≤◌}
use mathlib.Core.Path.{◌≡◌, refl, ap, sym, subst, ◌∙◌}
use mathlib.Core.List.{List, []}
use native.Mathlib.Omega.{arith}
use lib.Dec.{eqb, ltb, leb}
use lib.ListN.{length, drop, drop_of_length-le}
use Rattle.std.specs.Prelude.{Ok, Err}
use Rattle.basics.proofs.Picks.{pick_holds}
use Rattle.machine.specs.Faults.{refusal, lowest, unless}
use Rattle.machine.specs.Run.{Res, fail, cut, either}
use Rattle.machine.specs.Heads.{head_d}
use Rattle.machine.specs.Lists.{Boxes, box_d, go_on_d, boxes_d}
use Rattle.machine.specs.declared.Header.{Header}
use Rattle.machine.proofs.Lowest.{AtMostEach}
use Rattle.fields.specs.Answers.{number_at, checked_at, large_at, head_at, HeadRead}
use Rattle.fields.specs.Onward.{placed, ended, halted, on_head}
use Rattle.fields.specs.declared.Halt.TheVariants as halt
use Rattle.fields.specs.declared.Stop.{Stop}
use Rattle.fields.proofs.Descents.{box_descent}

-- a header's answer lists no leaf
abbrev NoLeaf : HeadRead → Type 0
NoLeaf (Ok h) = Unit {0}
NoLeaf (Err (halt.Bad x)) = x.leaves ≡ 0
NoLeaf (Err halt.Ended) = Unit {0}

module _ (s : List ℕ) (at end : ℕ) where
  checked_none : (kind size long : ℕ) → NoLeaf (checked_at at end kind size long)
  unfolding checked_at
  checked_none kind size long = pick_holds NoLeaf (ltb size long) _ _ (λ t. refl) (λ t. pick_holds NoLeaf (ltb end (at + size)) _ _ (λ u. refl) (λ u. tt))

  large_none : (kind : ℕ) → NoLeaf (large_at s at end kind)
  unfolding large_at
  large_none kind = pick_holds NoLeaf (ltb end (at + 16)) _ _ (λ t. refl) (λ t. pick_holds NoLeaf (ltb (length s) (at + 16)) _ _ (λ u. tt) (λ u. checked_none kind _ 16))

  head_none : NoLeaf (head_at s at end)
  unfolding head_at
  head_none =
      pick_holds NoLeaf (leb (length s) at) _ _ (λ t. tt)
      (λ t. pick_holds NoLeaf (ltb end (at + 8)) _ _ (λ u. refl)
      (λ u. pick_holds NoLeaf (ltb (length s) (at + 8)) _ _ (λ v. tt) (λ v. pick_holds NoLeaf (eqb (number_at 4 s at) 1) _ _ (λ w. large_none _) (λ w. checked_none _ _ 8))))

  pub head_stop : (x : Stop) → head_at s at end ≡ Err (halt.Bad x) → x.leaves ≡ 0
  head_stop x e = subst (λ (r : HeadRead). NoLeaf r) e head_none

module _ {A B R Q F L : Type 0} (l : Boxes A B R Q F L) (body_d : A → Header → F → ℕ → List ℕ → Res R F L) where
  -- what the list makes of its next box, with so many turns for the boxes after it
  unfoldable pub on_box : ℕ → A → Res R F L → Res Q F L
  on_box turns a r =
      either r (λ q g m cs. go_on_d l body_d (boxes_d l body_d turns) (l.close a q g m) g m cs) (λ x kept m. fail (lowest x (l.beside a kept m)) kept m)

  module _ (lefts : (a : A) → (l.box a).left ≡ l.kept) (base : ℕ) (s : List ℕ) (a : A) (f : F) (at : ℕ) (here : at ≤ length s) where
    -- the box at the position
    abbrev box_at : Res R F L
    box_at = box_d (l.box a) (body_d a) f (base + at) (drop at s)

    -- with no turn left there is no byte left either, and the list is cut off as its box is
    pub list_turn : (turns : ℕ) → length s - at ≤ turns → boxes_d l body_d turns a f (base + at) (drop at s) ≡ on_box (turns - 1) a box_at
    unfolding boxes_d box_d head_d either on_box
    list_turn zero enough =
        let over : length s ≤ at = omega arith in
        let none : drop at s ≡ [] = drop_of_length-le s over in
        ap (λ (left : F → L). cut (left f) (base + at)) (sym (lefts a)) ∙ ap (λ (cs : List ℕ). on_box 0 a (box_d (l.box a) (body_d a) f (base + at) cs)) (sym none)
    list_turn (suc turns) enough = let one : turns ≡ suc turns - 1 = omega arith in ap (λ (k : ℕ). on_box k a box_at) one

    -- by the answer of its header, where the list ends at `end`, and what a header shows beyond its size has numbers from 5 on
    module _ (end : ℕ) (ends : (l.box a).end ≡ base + end) (high : (h : Header) → AtMostEach 5 ((l.box a).shown h f)) (turns : ℕ) (enough : length s - at ≤ turns) where
      abbrev ListAt : Res Q F L
      ListAt = boxes_d l body_d turns a f (base + at) (drop at s)

      -- what follows a header that was read: its faults, or its body
      abbrev pub headed_d : Header → F → ℕ → List ℕ → Res R F L
      headed_d h g m cs = unless ((l.box a).shown h g) (λ x. fail x ((l.box a).left g) m) (body_d a h g m cs)

      list_head : ListAt ≡ on_box (turns - 1) a (on_head (l.box a).left base s f headed_d (head_at s at end))
      list_head = list_turn turns enough ∙ ap (on_box (turns - 1) a) (box_descent (l.box a) (body_d a) base end at s f here ends high)

      -- the bytes end before the header does
      pub list_ended : head_at s at end ≡ Err halt.Ended → ListAt ≡ ended l.kept base s f
      unfolding on_head halted on_box either
      list_ended e =
          list_head ∙ ap (λ (r : HeadRead). on_box (turns - 1) a (on_head (l.box a).left base s f headed_d r)) e
          ∙ ap (λ (left : F → L). cut (left f) (base + length s)) (lefts a)

      -- the header is at fault
      pub list_stopped : (x : Stop) → head_at s at end ≡ Err (halt.Bad x) →
          ListAt ≡ fail (lowest (refusal x.number (base + x.place)) (l.beside a (l.kept f) (base + x.count))) (l.kept f) (base + x.count)
      unfolding on_head halted on_box either
      list_stopped x e =
          list_head ∙ ap (λ (r : HeadRead). on_box (turns - 1) a (on_head (l.box a).left base s f headed_d r)) e
          ∙ ap (λ (left : F → L). fail (lowest (refusal x.number (base + x.place)) (l.beside a (left f) (base + x.count))) (left f) (base + x.count)) (lefts a)

      -- the header is read
      pub list_headed : (h : Header) → head_at s at end ≡ Ok h →
          ListAt ≡ on_box (turns - 1) a (headed_d (placed base h) f (base + (h.pos + h.head)) (drop (h.pos + h.head) s))
      unfolding on_head halted
      list_headed h e = list_head ∙ ap (λ (r : HeadRead). on_box (turns - 1) a (on_head (l.box a).left base s f headed_d r)) e
