-- What an answer leaves: it is that of what flows, or what a refusal leaves. Headers, boxes and lists of boxes leave what their bodies leave.
use Prim.Native.Nat.{ℕ, zero, suc, ◌*◌, ◌+◌}
use mathlib.Core.Path.{◌≡◌, refl, ◌∙◌}
use mathlib.Core.List.{List, [], ◌∷◌}
use mathlib.Core.Bool.{Bool, true, false}
use lib.Dec.{eqb}
use Rattle.basics.specs.Choose.{pick}
use Rattle.machine.specs.Faults.{lowest, unless}
use Rattle.machine.specs.Run.{Sub, go, done, bad, lift}
use Rattle.machine.specs.Heads.{under_eight, under_sixteen, sized, step_head}
use Rattle.machine.specs.Lists.{BoxPhase, in_head, in_body, Kind, faults_of, lift_body, headed, step_box, Next, again, over, Boxes, go_on, step_boxes}
use Rattle.machine.specs.declared.Refusal.{Refusal}
use Rattle.machine.specs.declared.Header.{Header}
use Rattle.machine.specs.declared.Head.{Head}
use Rattle.machine.specs.declared.Head.TheVariants as at

-- what an answer leaves
unfoldable pub left_in : {S R F L : Type 0} → (F → L) → Sub S R F L → L
left_in left (go s f) = left f
left_in left (done r f) = left f
left_in left (bad x l) = l

module _ {F L : Type 0} (left : F → L) where
  -- a machine inside another leaves what it leaves by itself, where what follows it leaves nothing else
  pub lift_left : {S T R Q : Type 0} (wrap : S → T) (out : R → F → Sub T Q F L) (worse : Refusal → L → Sub T Q F L) →
      ((q : R) (f : F) → left_in left (out q f) ≡ left f) → ((x : Refusal) (l : L) → left_in left (worse x l) ≡ l) →
      (r : Sub S R F L) → left_in left (lift wrap out worse r) ≡ left_in left r
  unfolding left_in lift
  lift_left wrap out worse p q (go s f) = refl
  lift_left wrap out worse p q (done r f) = p r f
  lift_left wrap out worse p q (bad x l) = q x l

  -- the same where its results and its refusals are handed on
  pub pass_left : {S T R Q : Type 0} (wrap : S → T) (give : R → Q) (r : Sub S R F L) → left_in left (lift wrap (λ q f. done (give q) f) bad r) ≡ left_in left r
  unfolding left_in lift
  pass_left wrap give (go s f) = refl
  pass_left wrap give (done r f) = refl
  pass_left wrap give (bad x l) = refl

  -- faults that a byte shows leave what flows
  pub unless_left : {S R : Type 0} (xs : List Refusal) (f : F) (r : Sub S R F L) → left_in left r ≡ left f → left_in left (unless xs (λ x. bad x (left f)) r) ≡ left f
  unfolding left_in unless
  unless_left [] f r e = e
  unless_left (x ∷ xs) f r e = refl

  -- a choice leaves what both cases leave
  pub pick_left : {S R : Type 0} (t : Bool) (a b : Sub S R F L) (l : L) → left_in left a ≡ l → left_in left b ≡ l → left_in left (pick t a b) ≡ l
  unfolding pick
  pick_left true a b l p q = p
  pick_left false a b l p q = q

  -- a header leaves everything
  pub head_left : (end : ℕ) (h : Head) (f : F) (n b : ℕ) → left_in left (step_head left end h f n b) ≡ left f
  unfolding left_in step_head sized
  head_left end at.First f n b = unless_left (under_eight end n) f (go (at.Size n 2 b) f) refl
  head_left end (at.Size pos zero acc) f n b = refl
  head_left end (at.Size pos (suc m) acc) f n b = refl
  head_left end (at.Kind pos size zero acc) f n b =
      let kind : ℕ = acc * 256 + b in
      pick_left (eqb size 1) (unless (under_sixteen end pos) (λ x. bad x (left f)) (go (at.Large pos kind 7 0) f)) (done _ f) (left f)
      (unless_left (under_sixteen end pos) f (go (at.Large pos kind 7 0) f) refl)
      refl
  head_left end (at.Kind pos size (suc m) acc) f n b = refl
  head_left end (at.Large pos kind zero acc) f n b = refl
  head_left end (at.Large pos kind (suc m) acc) f n b = refl

module _ {B R F L : Type 0} (k : Kind B R F L) where
  -- a box leaves in its body what the body leaves
  pub body_left : (s : B) (f : F) (n b : ℕ) → left_in k.left (step_box k (in_body s) f n b) ≡ left_in k.left (k.body s f n b)
  unfolding step_box left_in
  body_left s f n b = lift_left k.left in_body done bad (λ q g. refl) (λ x l. refl) (k.body s f n b)

  module _ (begins : (h : Header) (f : F) (n : ℕ) → left_in k.left (k.begin h f n) ≡ k.left f) where
    -- a box whose body leaves everything as it begins leaves everything in its header
    pub headed_left : (h : Header) (f : F) (n : ℕ) → left_in k.left (headed k h f n) ≡ k.left f
    unfolding headed left_in
    headed_left h f n =
        unless_left k.left (faults_of k h f) f (lift_body k (k.begin h f n))
        (lift_left k.left in_body done bad (λ q g. refl) (λ x l. refl) (k.begin h f n) ∙ begins h f n)

    pub header_left : (h : Head) (f : F) (n b : ℕ) → left_in k.left (step_box k (in_head h) f n b) ≡ k.left f
    unfolding step_box left_in
    header_left h f n b =
        lift_left k.left in_head (λ h' g. headed k h' g (suc n)) bad (λ h' g. headed_left h' g (suc n)) (λ x l. refl) (step_head k.left k.end h f n b)
        ∙ head_left k.left k.end h f n b

module _ {A B R Q F L S : Type 0} (l : Boxes A B R Q F L) (wrap : A → BoxPhase B → S) where
  -- what follows a box leaves everything
  pub goes_on_left : (next : Next A Q) (f : F) → left_in l.kept (go_on l wrap next f) ≡ l.kept f
  unfolding go_on left_in
  goes_on_left (again a xs) f = unless_left l.kept xs f (go (wrap a (in_head at.First)) f) refl
  goes_on_left (over q xs) f = unless_left l.kept xs f (done q f) refl

  -- a list of boxes leaves what the box leaves
  pub boxes_left : (a : A) (s : BoxPhase B) (f : F) (n b : ℕ) → left_in l.kept (step_boxes l wrap a s f n b) ≡ left_in l.kept (step_box (l.box a) s f n b)
  unfolding left_in
  boxes_left a s f n b =
      lift_left l.kept (wrap a) (λ r g. go_on l wrap (l.close a r g (suc n)) g) (λ x kept. bad (lowest x (l.beside a kept (suc n))) kept)
      (λ r g. goes_on_left (l.close a r g (suc n)) g) (λ x kept. refl) (step_box (l.box a) s f n b)
