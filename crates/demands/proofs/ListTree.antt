-- A list of boxes by structure that ends by position and leaves what flows: accepted where the bytes are whole boxes of the tree that
-- can be walked to the end.
use Prim.Native.Nat.{ℕ, zero, suc, ◌+◌, ◌-◌, ◌≤◌, ◌<◌}
use mathlib.Core.Path.{◌≡◌, refl, ap, sym, ◌∙◌}
use mathlib.Core.List.{List, [], ◌∷◌, ◌++◌}
use mathlib.Core.Option.{Option, some, none}
use mathlib.Core.Bool.{Bool, true, false, ◌&&◌}
use native.Mathlib.Omega.{arith}
use lib.Dec.{eqb}
use lib.ListN.{length, drop, length-append, length-drop}
use borrow.Author.Tests.{eq-eqb, ne_eqb}
use Rattle.basics.specs.Choose.{pick, and_then}
use Rattle.basics.proofs.Picks.{pick_yes, pick_no, pick_if, pick_with}
use Rattle.basics.proofs.Options.{then_cong, then_assoc, then_pick}
use Rattle.segment.specs.Boxes.{Box, first_box, cut_boxes, boxes}
use Rattle.machine.specs.Run.{Res, okay}
use Rattle.machine.specs.Lists.{Next, again, over, Boxes, box_d, go_on_d, boxes_d}
use Rattle.machine.specs.declared.Refusal.{Refusal}
use Rattle.machine.specs.declared.Header.{Header}
use Rattle.state.specs.Flow.{Flow, Left, left}
use Rattle.demands.specs.Told.{upon, clean, head_length, header_of}
use Rattle.demands.specs.Walks.{Walk, walk}
use Rattle.demands.proofs.Upons.{upon_either, upon_unless, pick_and}
use Rattle.demands.proofs.HeadTree.{box_tree}
use Rattle.segment.proofs.Said.{FirstBox, first_box_lem}

-- Whole boxes of the tree.

-- no bytes are no boxes
cut_nil : (j : ℕ) → cut_boxes j [] ≡ some []
unfolding cut_boxes
cut_nil zero = refl
cut_nil (suc j) = refl

-- bytes are a box and then boxes
cut_cons : (j : ℕ) (xs : List ℕ) → 0 < length xs → cut_boxes (suc j) xs ≡ and_then (first_box xs) (λ b. and_then (cut_boxes j (drop b.size xs)) (λ bs. some (b ∷ bs)))
unfolding cut_boxes
cut_cons j [] l = absurd (omega arith)
cut_cons j (x ∷ xs) l = refl

-- the boxes that follow may be cut first, or after what the box before them gives
swap : {A R X : Type 0} (o : Option (List Box)) (s : Bool) (i : Option R) (e : R → Bool) (g : R → List Box → Option A) (k : A → Option X) →
    pick s (and_then i (λ r. pick (e r) (and_then o (λ bs. and_then (g r bs) k)) none)) none ≡ and_then o (λ bs. and_then (pick s (and_then i (λ r. pick (e r) (g r bs) none)) none) k)
unfolding pick and_then
swap none true none e g k = refl
swap none true (some r) e g k = pick_if (e r) (λ x. x) _ _ none (λ q. refl) (λ q. refl)
swap none false i e g k = refl
swap (some bs) true none e g k = refl
swap (some bs) true (some r) e g k = sym (then_pick (e r) (g r bs) k)
swap (some bs) false i e g k = refl

-- What is made of bytes of the tree: whole boxes, walked from what is known and a place on, which lack nothing at the end.
module _ {A R Q X : Type 0} (w : Walk A R) (result : A → Q) (lacks : A → List Refusal) (end : ℕ) (f : Flow) where
  abbrev tell : (Q → Flow → ℕ → List ℕ → Option X) → List ℕ → A → Option X
  tell h ys a = pick (clean (lacks a)) (h (result a) f end ys) none

  abbrev told_by : ℕ → A → ℕ → List ℕ → List ℕ → (Q → Flow → ℕ → List ℕ → Option X) → Option X
  told_by j a n xs ys h = and_then (cut_boxes j xs) (λ bs. and_then (walk w a n bs) (tell h ys))

  told_nil : (j : ℕ) (a : A) (n : ℕ) (ys : List ℕ) (h : Q → Flow → ℕ → List ℕ → Option X) → told_by j a n [] ys h ≡ tell h ys a
  unfolding and_then walk
  told_nil j a n ys h = rw (cut_nil j)

  told_cons : (j : ℕ) (a : A) (n : ℕ) (xs ys : List ℕ) (h : Q → Flow → ℕ → List ℕ → Option X) → 0 < length xs →
      told_by (suc j) a n xs ys h ≡ and_then (first_box xs) (λ b. and_then (cut_boxes j (drop b.size xs)) (λ bs. and_then (walk w a n (b ∷ bs)) (tell h ys)))
  unfolding and_then
  told_cons j a n xs ys h l =
      ap (λ o. and_then o (λ bs. and_then (walk w a n bs) (tell h ys))) (cut_cons j xs l)
      ∙ then_assoc (first_box xs) _ _
      ∙ then_cong (first_box xs) _ _ (λ b e. then_assoc (cut_boxes j (drop b.size xs)) _ _)

-- A list `l` with bodies `body_d`, beside a walk `w`: a body gives what the walk's item says and leaves what flows; a box before the end
-- leads on to what is next known, and the last one to the result, with the faults `last`, which hold those of the walk and what is lacking.
module _ {A B R Q X : Type 0} (l : Boxes A B R Q Flow Left) (body_d : A → Header → Flow → ℕ → List ℕ → Res R Flow Left)
    (w : Walk A R) (result : A → Q) (lacks : A → List Refusal) (end : ℕ) (f : Flow)
    (lefts : (a : A) → (l.box a).left ≡ left)
    (ends : (a : A) → (l.box a).end ≡ end)
    (shown : (a : A) (h : Header) → (l.box a).shown h f ≡ w.shown a h)
    (law : (a : A) (b : Box) (pos : ℕ) (zs : List ℕ) (k : R → Flow → ℕ → List ℕ → Option X) →
    8 ≤ head_length b → head_length b + length b.body ≡ b.size → clean (w.shown a (header_of pos b)) ≡ true →
    upon (body_d a (header_of pos b) f (pos + head_length b) (b.body ++ zs)) k ≡ and_then (w.item a pos b) (λ r. k r f (pos + b.size) zs))
    (last : A → R → List Refusal)
    (closes : (a : A) (r : R) (n : ℕ) → l.close a r f n ≡ pick (eqb n end) (over (result (w.next a r)) (last a r)) (again (w.next a r) (w.ends a r)))
    (lasts : (a : A) (r : R) → clean (last a r) ≡ clean (w.ends a r) && clean (lacks (w.next a r))) where
  -- what the tree makes of bytes
  abbrev told : ℕ → A → ℕ → List ℕ → List ℕ → (Q → Flow → ℕ → List ℕ → Option X) → Option X
  told j a n xs ys h = told_by w result lacks end f j a n xs ys h

  -- what is made of a box by structure
  abbrev onward : ℕ → A → (Q → Flow → ℕ → List ℕ → Option X) → R → Flow → ℕ → List ℕ → Option X
  onward turns a h r g m cs = upon (go_on_d l body_d (boxes_d l body_d turns) (l.close a r g m) g m cs) h

  -- after a box, given the law of the boxes that follow
  go_on_lem : (turns j : ℕ) (a : A) (r : R) (n : ℕ) (xs ys : List ℕ) (h : Q → Flow → ℕ → List ℕ → Option X) → end ≡ n + length xs →
      (0 < length xs → upon (boxes_d l body_d turns (w.next a r) f n (xs ++ ys)) h ≡ told j (w.next a r) n xs ys h) →
      upon (go_on_d l body_d (boxes_d l body_d turns) (l.close a r f n) f n (xs ++ ys)) h ≡ pick (clean (w.ends a r)) (told j (w.next a r) n xs ys h) none
  unfolding go_on_d upon
  go_on_lem turns j a r n [] ys h e ih =
      let q : n ≡ end = omega arith in
      rw (q, closes a r end ∙ pick_yes (eqb end end) _ _ (eq-eqb end end refl))
      (upon_unless (last a r) (l.kept f) end (okay (result (w.next a r)) f end ys) h
      ∙ ap (λ t. pick t (h (result (w.next a r)) f end ys) none) (lasts a r)
      ∙ pick_and (clean (w.ends a r)) (clean (lacks (w.next a r))) (h (result (w.next a r)) f end ys)
      ∙ ap (λ o. pick (clean (w.ends a r)) o none) (sym (told_nil w result lacks end f j (w.next a r) end ys h)))
  go_on_lem turns j a r n (x ∷ xs) ys h e ih =
      rw (closes a r n ∙ pick_no (eqb n end) _ _ (ne_eqb n end (λ q. omega arith)))
      (upon_unless (w.ends a r) (l.kept f) n (boxes_d l body_d turns (w.next a r) f n (x ∷ xs ++ ys)) h
      ∙ ap (λ o. pick (clean (w.ends a r)) o none) (ih (omega arith)))

  list_by : (turns j : ℕ) (a : A) (n : ℕ) (xs ys : List ℕ) (h : Q → Flow → ℕ → List ℕ → Option X) → 0 < length xs → end ≡ n + length xs → length xs ≤ j → length (xs ++ ys) ≤ turns →
      upon (boxes_d l body_d turns a f n (xs ++ ys)) h ≡ told j a n xs ys h
  unfolding boxes_d upon walk
  list_by zero j a n xs ys h some' e le lt = absurd (omega (arith, length-append xs ys))
  list_by (suc turns) zero a n xs ys h some' e le lt = absurd (omega arith)
  list_by (suc turns) (suc j) a n xs ys h some' e le lt =
      upon_either (box_d (l.box a) (body_d a) f n (xs ++ ys)) _ _ h (λ x kept m. refl)
      ∙ box_tree (l.box a) (lefts a) (body_d a) f n xs ys (onward turns a h) (ends a ∙ e)
      ∙ then_cong (first_box xs) _ _
      (λ b q.
      let fb : FirstBox xs b = first_box_lem xs b q in
      let d : length (drop b.size xs) ≡ length xs - b.size = length-drop b.size xs in
      let s : 8 ≤ b.size = omega (arith, fb.eight, fb.bodied) in
      let fits : b.size ≤ length xs = fb.fits in
      ap (λ zs. pick (clean zs) (upon (body_d a (header_of n b) f (n + head_length b) (b.body ++ (drop b.size xs ++ ys))) (onward turns a h)) none) (shown a (header_of n b))
      ∙ pick_with (clean (w.shown a (header_of n b))) (λ o. o) (λ o. o) _ _ _ _
      (λ sound.
      law a b n (drop b.size xs ++ ys) (onward turns a h) fb.eight fb.bodied sound
      ∙ then_cong (w.item a n b) _ _
      (λ r q'.
      go_on_lem turns j a r (n + b.size) (drop b.size xs) ys h (omega arith)
      (λ more.
      list_by turns j (w.next a r) (n + b.size) (drop b.size xs) ys h more (omega arith) (omega arith)
      (omega (arith, length-append (drop b.size xs) ys, length-append xs ys)))))
      (λ faulty. refl)
      ∙ swap (cut_boxes j (drop b.size xs)) (clean (w.shown a (header_of n b))) (w.item a n b) (λ r. clean (w.ends a r))
      (λ r bs. walk w (w.next a r) (n + b.size) bs) (tell w result lacks end f h ys))
      ∙ sym (told_cons w result lacks end f j a n xs ys h some')

  -- From a box's first byte on, in bytes that end where the list does: as many turns as there are bytes are enough.
  pub list_tree : (turns : ℕ) (a : A) (n : ℕ) (xs ys : List ℕ) (h : Q → Flow → ℕ → List ℕ → Option X) → 0 < length xs → end ≡ n + length xs → length (xs ++ ys) ≤ turns →
      upon (boxes_d l body_d turns a f n (xs ++ ys)) h
      ≡ and_then (boxes xs) (λ bs. and_then (walk w a n bs) (λ a'. pick (clean (lacks a')) (h (result a') f end ys) none))
  list_tree turns a n xs ys h some' e lt = list_by turns (length xs) a n xs ys h some' e (omega arith) lt

  -- From a start that may end at once.
  pub start_tree : (turns : ℕ) (next : Next A Q) (a : A) (n : ℕ) (xs ys : List ℕ) (h : Q → Flow → ℕ → List ℕ → Option X) →
      next ≡ pick (eqb n end) (over (result a) (lacks a)) (again a []) → end ≡ n + length xs → length (xs ++ ys) ≤ turns →
      upon (go_on_d l body_d (boxes_d l body_d turns) next f n (xs ++ ys)) h
      ≡ and_then (boxes xs) (λ bs. and_then (walk w a n bs) (λ a'. pick (clean (lacks a')) (h (result a') f end ys) none))
  unfolding go_on_d upon clean pick
  start_tree turns next a n [] ys h starts e lt =
      let q : n ≡ end = omega arith in
      rw (starts ∙ pick_yes (eqb n end) _ _ (eq-eqb n end q))
      (upon_unless (lacks a) (l.kept f) n (okay (result a) f n ys) h ∙ rw q (sym (told_nil w result lacks end f 0 a end ys h)))
  start_tree turns next a n (x ∷ xs) ys h starts e lt =
      rw (starts ∙ pick_no (eqb n end) _ _ (ne_eqb n end (λ q. omega arith)))
      (upon_unless [] (l.kept f) n (boxes_d l body_d turns a f n (x ∷ xs ++ ys)) h ∙ list_tree turns a n (x ∷ xs) ys h (omega arith) e lt)
