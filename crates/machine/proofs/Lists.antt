-- A box by structure is the box read byte by byte, and so is a list of boxes.
use Prim.Native.Nat.{ℕ, zero, suc, ◌≤◌, ◌<◌}
use mathlib.Core.Path.{◌≡◌, refl, ap, sym, ◌∙◌}
use mathlib.Core.List.{List, [], ◌∷◌}
use native.Mathlib.Omega.{arith}
use lib.ListN.{length}
use Rattle.machine.specs.Faults.{unless, lowest}
use Rattle.machine.specs.Run.{Sub, done, bad, Res, fail, either, after, cont_by, run, cont}
use Rattle.machine.specs.Heads.{step_head}
use Rattle.machine.specs.Lists.{BoxPhase, in_head, in_body, Kind, faults_of, lift_body, headed, step_box, box_d, Next, again, over, Boxes, go_on, step_boxes, go_on_d, boxes_d}
use Rattle.machine.specs.declared.Header.{Header}
use Rattle.machine.specs.declared.Head.TheVariants as at
use Rattle.machine.proofs.Faults.{unless_both}
use Rattle.machine.proofs.Runs.{either_cong, after_cong, after_okay, shrink_run, inside, inside_run, inside_run_worse}
use Rattle.machine.proofs.Heads.{head_run}

-- A box, given that its body by structure is what the body's machine makes of the bytes.
module _ {B R F L : Type 0} (k : Kind B R F L) (body_d : Header → F → ℕ → List ℕ → Res R F L)
    (law : (h : Header) (f : F) (n : ℕ) (bs : List ℕ) → body_d h f n bs ≡ cont k.left k.body n bs (k.begin h f n)) where
  -- the body's machine inside the box's
  in_body_lem : (n : ℕ) (bs : List ℕ) (r : Sub B R F L) → cont k.left (step_box k) n bs (lift_body k r) ≡ cont k.left k.body n bs r
  unfolding step_box cont_by
  in_body_lem n bs r = inside k.left k.body (step_box k) in_body (λ m. done) (λ s f m b. refl) n bs r ∙ after_okay (cont k.left k.body n bs r)

  -- from the header's last byte on
  pub headed_run : (h : Header) (f : F) (n : ℕ) (bs : List ℕ) →
      unless (faults_of k h f) (λ x. fail x (k.left f) n) (body_d h f n bs) ≡ cont k.left (step_box k) n bs (headed k h f n)
  unfolding headed cont_by
  headed_run h f n bs =
      unless_both (λ r. r) (cont k.left (step_box k) n bs) _ _ _ _ (faults_of k h f) (λ x. refl) (law h f n bs ∙ sym (in_body_lem n bs (k.begin h f n)))

  -- a whole box
  pub box_run : (f : F) (n : ℕ) (bs : List ℕ) → box_d k body_d f n bs ≡ run k.left (step_box k) (in_head at.First) f n bs
  unfolding box_d step_box
  box_run f n bs =
      ap (λ (r : Res Header F L). after r (λ h g m cs. unless (faults_of k h g) (λ x. fail x (k.left g) m) (body_d h g m cs))) (head_run k.left k.end f n bs)
      ∙ after_cong (run k.left (step_head k.left k.end) at.First f n bs) _ _ (λ h g m cs e. headed_run h g m cs)
      ∙ sym (inside_run k.left (step_head k.left k.end) (step_box k) in_head (λ m h g. headed k h g m) (λ s g m b. refl) at.First f n bs)

-- A list, for any machine that has the list's equation, given that its boxes leave what the list leaves, and the law of each body.
module _ {A B R Q F L S : Type 0} (l : Boxes A B R Q F L) (wrap : A → BoxPhase B → S) (step : S → F → ℕ → ℕ → Sub S Q F L)
    (steps : (a : A) (s : BoxPhase B) (f : F) (n b : ℕ) → step (wrap a s) f n b ≡ step_boxes l wrap a s f n b)
    (lefts : (a : A) → (l.box a).left ≡ l.kept)
    (body_d : A → Header → F → ℕ → List ℕ → Res R F L)
    (law : (a : A) (h : Header) (f : F) (n : ℕ) (bs : List ℕ) → body_d a h f n bs ≡ cont l.kept (l.box a).body n bs ((l.box a).begin h f n)) where
  -- a box of the list
  in_list : (a : A) (f : F) (n : ℕ) (bs : List ℕ) → box_d (l.box a) (body_d a) f n bs ≡ run l.kept (step_box (l.box a)) (in_head at.First) f n bs
  in_list a f n bs =
      box_run (l.box a) (body_d a) (λ h g m cs. law a h g m cs ∙ ap (λ (left : F → L). cont left (l.box a).body m cs ((l.box a).begin h g m)) (sym (lefts a))) f n bs
      ∙ ap (λ (left : F → L). run left (step_box (l.box a)) (in_head at.First) f n bs) (lefts a)

  -- from a close on, given the law for what follows
  go_on_lem : (turns : ℕ) (n : ℕ) (bs : List ℕ) → ((a : A) (f : F) → boxes_d l body_d turns a f n bs ≡ run l.kept step (wrap a (in_head at.First)) f n bs) →
      (next : Next A Q) (f : F) → go_on_d l body_d (boxes_d l body_d turns) next f n bs ≡ cont l.kept step n bs (go_on l wrap next f)
  unfolding go_on_d go_on cont_by
  go_on_lem turns n bs h (again a xs) f = unless_both (λ r. r) (cont l.kept step n bs) _ _ _ _ xs (λ x. refl) (h a f)
  go_on_lem turns n bs h (over q xs) f = unless_both (λ r. r) (cont l.kept step n bs) _ _ _ _ xs (λ x. refl) refl

  -- from a box's first byte on: as many turns as there are bytes are enough
  pub boxes_run : (turns : ℕ) (a : A) (f : F) (n : ℕ) (bs : List ℕ) → length bs ≤ turns → boxes_d l body_d turns a f n bs ≡ run l.kept step (wrap a (in_head at.First)) f n bs
  unfolding boxes_d run cont_by
  boxes_run zero a f n [] lt = refl
  boxes_run zero a f n (b ∷ bs) lt = absurd (omega arith)
  boxes_run (suc turns) a f n bs lt =
      ap (λ (r : Res R F L). either r (λ q g m cs. go_on_d l body_d (boxes_d l body_d turns) (l.close a q g m) g m cs) (λ x kept m. fail (lowest x (l.beside a kept m)) kept m)) (in_list a f n bs)
      ∙ either_cong (run l.kept (step_box (l.box a)) (in_head at.First) f n bs) _ _ _ _
      (λ q g m cs e.
      let h : length cs < length bs = shrink_run l.kept (step_box (l.box a)) (in_head at.First) f n bs q g m cs e in
      go_on_lem turns m cs (λ a' f'. boxes_run turns a' f' m cs (omega arith)) (l.close a q g m) g)
      (λ x kept m e. refl)
      ∙ sym (inside_run_worse l.kept (step_box (l.box a)) step (wrap a) (λ m q g. go_on l wrap (l.close a q g m) g) (λ m x kept. bad (lowest x (l.beside a kept m)) kept)
      (λ x kept m. fail (lowest x (l.beside a kept m)) kept m) (λ cs m x kept. refl) (λ s g m b. steps a s g m b) bs (in_head at.First) f n)

  -- from a close on
  pub go_on_run : (turns : ℕ) (next : Next A Q) (f : F) (n : ℕ) (bs : List ℕ) → length bs ≤ turns →
      go_on_d l body_d (boxes_d l body_d turns) next f n bs ≡ cont l.kept step n bs (go_on l wrap next f)
  go_on_run turns next f n bs lt = go_on_lem turns n bs (λ a g. boxes_run turns a g n bs lt) next f
