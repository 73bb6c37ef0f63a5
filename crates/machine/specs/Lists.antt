-- A box over any body, and a list of boxes over any box; byte by byte, and by structure.
use Rattle.std.specs.Prelude.{ℕ, zero, suc, List, ◌++◌}
use Rattle.machine.specs.Faults.{unless, lowest}
use Rattle.machine.specs.Run.{Sub, go, done, bad, lift, Res, okay, fail, cut, either, after}
use Rattle.machine.specs.Heads.{size_faults, step_head, head_d}
use Rattle.machine.specs.declared.Refusal.{Refusal}
use Rattle.machine.specs.declared.Header.{Header}
use Rattle.machine.specs.declared.Head.{Head}
use Rattle.machine.specs.declared.Head.TheVariants as at

-- A box: in its header, or in its body.
pub data BoxPhase (B : Type 0) : Type 0 where
  in_head : Head → BoxPhase B
  in_body : B → BoxPhase B

-- What a kind of box is: where its container ends, the faults that its header shows at that place, and how its body begins.
pub record Kind (B R F L : Type 0) : Type 0 where
  pub left : F → L
  pub end : ℕ
  pub shown : Header → F → List Refusal
  pub begin : Header → F → ℕ → Sub B R F L
  pub body : B → F → ℕ → ℕ → Sub B R F L

module _ {B R F L : Type 0} (k : Kind B R F L) where
  abbrev pub faults_of : Header → F → List Refusal
  faults_of h f = size_faults k.end h ++ k.shown h f

  abbrev pub lift_body : Sub B R F L → Sub (BoxPhase B) R F L
  lift_body r = lift in_body done bad r

  -- the header is read: `n` bytes up to its last
  unfoldable pub headed : Header → F → ℕ → Sub (BoxPhase B) R F L
  headed h f n = unless (faults_of h f) (λ x. bad x (k.left f)) (lift_body (k.begin h f n))

  unfoldable pub step_box : BoxPhase B → F → ℕ → ℕ → Sub (BoxPhase B) R F L
  step_box (in_head h) f n b = lift in_head (λ h' g. headed h' g (suc n)) bad (step_head k.left k.end h f n b)
  step_box (in_body s) f n b = lift_body (k.body s f n b)

  -- by structure, given what the body is
  module _ (body_d : Header → F → ℕ → List ℕ → Res R F L) where
    unfoldable pub box_d : F → ℕ → List ℕ → Res R F L
    box_d f n bs = after (head_d k.left k.end f n bs) (λ h g m cs. unless (faults_of h g) (λ x. fail x (k.left g) m) (body_d h g m cs))

-- After a box, with the faults that show at its end: the list goes on with what is known of it, or it is over.
pub data Next (A Q : Type 0) : Type 0 where
  again : A → List Refusal → Next A Q
  over : Q → List Refusal → Next A Q

-- What a list of boxes is: its boxes, which may hang on what is known of the list; what follows a box; and the faults of the list
-- itself that stand beside a refusal at a byte inside it.
pub record Boxes (A B R Q F L : Type 0) : Type 0 where
  pub kept : F → L
  pub box : A → Kind B R F L
  pub close : A → R → F → ℕ → Next A Q
  pub beside : A → L → ℕ → List Refusal

module _ {A B R Q F L S : Type 0} (l : Boxes A B R Q F L) (wrap : A → BoxPhase B → S) where
  unfoldable pub go_on : Next A Q → F → Sub S Q F L
  go_on (again a xs) f = unless xs (λ x. bad x (l.kept f)) (go (wrap a (in_head at.First)) f)
  go_on (over q xs) f = unless xs (λ x. bad x (l.kept f)) (done q f)

  -- a machine for one box inside the list: `n` bytes up to the one at hand
  abbrev pub lift_box : A → ℕ → Sub (BoxPhase B) R F L → Sub S Q F L
  lift_box a n r = lift (wrap a) (λ r' f. go_on (l.close a r' f n) f) (λ x kept. bad (lowest x (l.beside a kept n)) kept) r

  abbrev pub step_boxes : A → BoxPhase B → F → ℕ → ℕ → Sub S Q F L
  step_boxes a s f n b = lift_box a (suc n) (step_box (l.box a) s f n b)

-- by structure, given what the body of a box is; a box takes bytes, so that as many turns as there are bytes are enough
module _ {A B R Q F L : Type 0} (l : Boxes A B R Q F L) (body_d : A → Header → F → ℕ → List ℕ → Res R F L) where
  unfoldable pub go_on_d : (A → F → ℕ → List ℕ → Res Q F L) → Next A Q → F → ℕ → List ℕ → Res Q F L
  go_on_d more (again a xs) f n bs = unless xs (λ x. fail x (l.kept f) n) (more a f n bs)
  go_on_d more (over q xs) f n bs = unless xs (λ x. fail x (l.kept f) n) (okay q f n bs)

  unfoldable pub boxes_d : ℕ → A → F → ℕ → List ℕ → Res Q F L
  boxes_d zero a f n bs = cut (l.kept f) n
  boxes_d (suc turns) a f n bs =
      either (box_d (l.box a) (body_d a) f n bs)
      (λ r g m cs. go_on_d (boxes_d turns) (l.close a r g m) g m cs)
      (λ x kept m. fail (lowest x (l.beside a kept m)) kept m)
