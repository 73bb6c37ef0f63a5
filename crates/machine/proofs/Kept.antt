-- What is kept of a machine's answer: one thing where it goes on, one where it is done, one where it refuses.
use Prim.Native.Nat.{ℕ}
use mathlib.Core.Path.{◌≡◌, refl}
use mathlib.Core.List.{List, [], ◌∷◌, ◌++◌}
use mathlib.Core.Bool.{Bool, true, false}
use lib.Dec.{ltb}
use Rattle.basics.proofs.Picks.{pick_holds}
use Rattle.machine.specs.Faults.{refusal, shows, lowest, unless}
use Rattle.machine.specs.Run.{Sub, go, done, bad, lift}
use Rattle.machine.specs.declared.Refusal.{Refusal}

abbrev pub Kept : {S R F L : Type 0} → (S → F → Type 0) → (R → F → Type 0) → (Refusal → L → Type 0) → Sub S R F L → Type 0
Kept P Q W (go s f) = P s f
Kept P Q W (done r f) = Q r f
Kept P Q W (bad x l) = W x l

-- the same, of a refusal nothing
abbrev pub Unrefused : {S R F L : Type 0} → (S → F → Type 0) → (R → F → Type 0) → Sub S R F L → Type 0
Unrefused P Q r = Kept P Q (λ x l. Unit {0}) r

-- of a machine inside another: what it keeps gives what the other keeps
module _ {S T R Q F L : Type 0} (P : S → F → Type 0) (D : R → F → Type 0) (W : Refusal → L → Type 0) (P' : T → F → Type 0) (D' : Q → F → Type 0) (W' : Refusal → L → Type 0) where
  pub lift_kept : (wrap : S → T) (out : R → F → Sub T Q F L) (worse : Refusal → L → Sub T Q F L) (r : Sub S R F L) →
      ((s : S) (f : F) → P s f → P' (wrap s) f) → ((q : R) (f : F) → D q f → Kept P' D' W' (out q f)) → ((x : Refusal) (l : L) → W x l → Kept P' D' W' (worse x l)) →
      Kept P D W r → Kept P' D' W' (lift wrap out worse r)
  unfolding lift
  lift_kept wrap out worse (go s f) p d w k = p s f k
  lift_kept wrap out worse (done q f) p d w k = d q f k
  lift_kept wrap out worse (bad x l) p d w k = w x l k

-- Faults each of which is as it should be.
unfoldable pub Each : (Refusal → Type 0) → List Refusal → Type 0
Each G [] = Unit {0}
Each G (x ∷ xs) = G x × Each G xs

module _ (G : Refusal → Type 0) where
  pub each_none : Each G []
  unfolding Each
  each_none = tt

  pub each_shows : (t : Bool) (n p : ℕ) → G (refusal n p) → Each G (shows t n p)
  unfolding shows Each
  each_shows true n p g = (g, tt)
  each_shows false n p g = tt

  pub each_append : (xs ys : List Refusal) → Each G xs → Each G ys → Each G (xs ++ ys)
  unfolding Each
  each_append [] ys g h = h
  each_append (x ∷ xs) ys g h = (g.0, each_append xs ys g.1 h)

  -- so is the lowest
  pub each_lowest : (xs : List Refusal) (x : Refusal) → G x → Each G xs → G (lowest x xs)
  unfolding lowest Each
  each_lowest [] x g h = g
  each_lowest (y ∷ ys) x g h = pick_holds G (ltb y.number x.number) _ _ (λ e. each_lowest ys y h.0 h.1) (λ e. each_lowest ys x g h.1)

  -- what is made of the lowest fault, or goes on where none is shown
  pub unless_holds : {X : Type 0} (K : X → Type 0) (xs : List Refusal) (worse : Refusal → X) (x : X) → Each G xs → ((y : Refusal) → G y → K (worse y)) → (xs ≡ [] → K x) → K (unless xs worse x)
  unfolding unless Each
  unless_holds K [] worse x g w k = k refl
  unless_holds K (y ∷ ys) worse x g w k = w (lowest y ys) (each_lowest ys y g.0 g.1)
