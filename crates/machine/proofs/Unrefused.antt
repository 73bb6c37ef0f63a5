-- What a box over any body and a list of boxes keep where they go on and where they are done; of a refusal nothing is asked.
use Prim.Native.Nat.{ℕ, suc, ◌≤◌}
use mathlib.Core.Path.{◌≡◌, refl}
use mathlib.Core.List.{List, [], ◌∷◌}
use lib.Dec.{ltb}
use borrow.Author.Tests.{ltb-false}
use Rattle.machine.specs.Faults.{shows, unless}
use Rattle.machine.specs.Run.{Sub, go, done, bad, lift}
use Rattle.machine.specs.Heads.{box_end, size_faults, step_head}
use Rattle.machine.specs.Lists.{BoxPhase, in_head, in_body, Kind, faults_of, lift_body, headed, step_box, Next, again, over, Boxes, go_on, step_boxes}
use Rattle.machine.specs.declared.Refusal.{Refusal}
use Rattle.machine.specs.declared.Header.{Header}
use Rattle.machine.specs.declared.Head.{Head}
use Rattle.machine.specs.declared.Head.TheVariants as at
use Rattle.machine.proofs.Faults.{none_first, none_second, shows_none}
use Rattle.machine.proofs.Kept.{Unrefused, lift_kept}

-- nothing is kept of any answer
abbrev pub Any : {S F : Type 0} → S → F → Type 0
Any s f = Unit {0}

pub anyhow : {S R F L : Type 0} (r : Sub S R F L) → Unrefused Any Any r
anyhow (go s f) = tt
anyhow (done r f) = tt
anyhow (bad x l) = tt

-- what goes on where no fault is shown
pub unless_unrefused : {S R F L : Type 0} (P : S → F → Type 0) (D : R → F → Type 0) (xs : List Refusal) (l : L) (r : Sub S R F L) → (xs ≡ [] → Unrefused P D r) →
    Unrefused P D (unless xs (λ x. bad x l) r)
unfolding unless
unless_unrefused P D [] l r k = k refl
unless_unrefused P D (x ∷ xs) l r k = tt

-- a machine inside another, whose refusal stays one
pub lift_unrefused : {S T R Q F L : Type 0} (P : S → F → Type 0) (D : R → F → Type 0) (P' : T → F → Type 0) (D' : Q → F → Type 0) (wrap : S → T) (out : R → F → Sub T Q F L)
    (worse : Refusal → L → Refusal) (r : Sub S R F L) → ((s : S) (f : F) → P s f → P' (wrap s) f) → ((q : R) (f : F) → D q f → Unrefused P' D' (out q f)) →
    Unrefused P D r → Unrefused P' D' (lift wrap out (λ x l. bad (worse x l) l) r)
lift_unrefused P D P' D' wrap out worse r p d k =
    lift_kept P D (λ x l. Unit {0}) P' D' (λ x l. Unit {0}) wrap out (λ x l. bad (worse x l) l) r p d (λ x l z. tt) k

-- a box that shows no fault ends within its container
ends_within : (end : ℕ) (h : Header) → size_faults end h ≡ [] → box_end h ≤ end
ends_within end h e = ltb-false end (box_end h) (shows_none (ltb end (box_end h)) 5 h.pos (none_second (shows (ltb h.size h.head) 4 h.pos) _ e))

-- A box: what its body keeps, and of its header nothing.
abbrev pub InBox : {B F : Type 0} → (B → F → Type 0) → BoxPhase B → F → Type 0
InBox P (in_head h) f = Unit {0}
InBox P (in_body s) f = P s f

module _ {B R F L : Type 0} (k : Kind B R F L) (P P' : B → F → Type 0) (D : R → F → Type 0) (n : ℕ)
    (begins : (h : Header) (f : F) → box_end h ≤ k.end → Unrefused P' D (k.begin h f (suc n)))
    (bodies : (s : B) (f : F) (b : ℕ) → P s f → Unrefused P' D (k.body s f n b)) where
  headed_unrefused : (h : Header) (f : F) → Unrefused (InBox P') D (headed k h f (suc n))
  unfolding headed
  headed_unrefused h f =
      unless_unrefused (InBox P') D (faults_of k h f) (k.left f) (lift_body k (k.begin h f (suc n)))
      (λ e. lift_unrefused P' D (InBox P') D in_body done (λ x l. x) (k.begin h f (suc n)) (λ s g z. z) (λ q g z. z) (begins h f (ends_within k.end h (none_first _ _ e))))

  pub box_unrefused : (s : BoxPhase B) (f : F) (b : ℕ) → InBox P s f → Unrefused (InBox P') D (step_box k s f n b)
  unfolding step_box
  box_unrefused (in_head h) f b z =
      let r : Sub Head Header F L = step_head k.left k.end h f n b in
      lift_unrefused Any Any (InBox P') D in_head (λ h' g. headed k h' g (suc n)) (λ x l. x) r (λ s g y. tt) (λ h' g y. headed_unrefused h' g) (anyhow r)
  box_unrefused (in_body s) f b z =
      lift_unrefused P' D (InBox P') D in_body done (λ x l. x) (k.body s f n b) (λ s' g y. y) (λ q g y. y) (bodies s f b z)

-- What a list of boxes gives where it is over.
abbrev pub Over : {A Q F : Type 0} → (Q → F → Type 0) → F → Next A Q → Type 0
Over E f (again a xs) = Unit {0}
Over E f (over q xs) = E q f

module _ {A B R Q F L S : Type 0} (l : Boxes A B R Q F L) (wrap : A → BoxPhase B → S) (P : B → F → Type 0) (D : R → F → Type 0) (P' : S → F → Type 0) (E : Q → F → Type 0)
    (heads : (a : A) (h : Head) (f : F) → P' (wrap a (in_head h)) f) (inners : (a : A) (s : B) (f : F) → P s f → P' (wrap a (in_body s)) f) where
  goes_on : (x : Next A Q) (f : F) → Over E f x → Unrefused P' E (go_on l wrap x f)
  unfolding go_on
  goes_on (again a xs) f z = unless_unrefused P' E xs (l.kept f) (go (wrap a (in_head at.First)) f) (λ e. heads a at.First f)
  goes_on (over q xs) f z = unless_unrefused P' E xs (l.kept f) (done q f) (λ e. z)

  wraps : (a : A) (s : BoxPhase B) (f : F) → InBox P s f → P' (wrap a s) f
  wraps a (in_head h) f z = heads a h f
  wraps a (in_body s) f z = inners a s f z

  pub boxes_unrefused : (a : A) (s : BoxPhase B) (f : F) (n b : ℕ) → ((r : R) (g : F) → D r g → Over E g (l.close a r g (suc n))) → Unrefused (InBox P) D (step_box (l.box a) s f n b) →
      Unrefused P' E (step_boxes l wrap a s f n b)
  boxes_unrefused a s f n b closes z =
      lift_kept (InBox P) D (λ x kept. Unit {0}) P' E (λ x kept. Unit {0}) (wrap a) (λ r g. go_on l wrap (l.close a r g (suc n)) g) _ (step_box (l.box a) s f n b)
      (wraps a) (λ r g y. goes_on (l.close a r g (suc n)) g (closes r g y)) (λ x kept y. tt) z

-- any list of boxes, where it is over
any_box : {B R F L : Type 0} (r : Sub (BoxPhase B) R F L) → Unrefused (InBox Any) Any r
any_box (go (in_head h) f) = tt
any_box (go (in_body s) f) = tt
any_box (done q f) = tt
any_box (bad x l) = tt

pub boxes_over : {A B R Q F L S : Type 0} (l : Boxes A B R Q F L) (wrap : A → BoxPhase B → S) (E : Q → F → Type 0) (a : A) (s : BoxPhase B) (f : F) (n b : ℕ) →
    ((r : R) (g : F) → Over E g (l.close a r g (suc n))) → Unrefused Any E (step_boxes l wrap a s f n b)
boxes_over l wrap E a s f n b closes =
    boxes_unrefused l wrap Any Any Any E (λ a' h g. tt) (λ a' s' g z. tt) a s f n b (λ r g z. closes r g) (any_box (step_box (l.box a) s f n b))
