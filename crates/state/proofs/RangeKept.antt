-- What one byte keeps of the ranges, for any machine: its phase's bounds where it goes on, and of a refusal its number and the
-- leaves; then of a header, a box over any body, and a list of boxes.
use Prim.Native.Nat.{ℕ, zero, suc, ◌+◌, ◌*◌, ◌≤◌, ◌<◌}
use mathlib.Core.Path.{◌≡◌}
use mathlib.Core.List.{List, [], ◌++◌}
use mathlib.Core.Bool.{Bool}
use native.Mathlib.Omega.{arith}
use lib.Dec.{eqb}
use Rattle.basics.specs.Choose.{pick}
use Rattle.basics.proofs.Picks.{pick_holds}
use Rattle.segment.specs.Constants.{limit}
use Rattle.table.specs.Table.{most_records}
use Rattle.machine.specs.Faults.{shows, lowest, unless}
use Rattle.machine.specs.Run.{Sub, done, bad}
use Rattle.machine.specs.Heads.{under_eight, under_sixteen, size_faults, sized, step_head}
use Rattle.machine.specs.Lists.{BoxPhase, in_head, in_body, Kind, faults_of, lift_body, headed, step_box, Next, again, over, Boxes, go_on, step_boxes}
use Rattle.machine.specs.declared.Refusal.{Refusal}
use Rattle.machine.specs.declared.Header.{Header}
use Rattle.machine.specs.declared.Head.{Head}
use Rattle.machine.specs.declared.Head.TheVariants as at
use Rattle.machine.proofs.Kept.{Kept, lift_kept, Each, each_shows, each_append, each_lowest, unless_holds}
use Rattle.machine.proofs.Faults.{none_second}
use Rattle.state.specs.Flow.{Flow, Left}
use Rattle.state.specs.Ranges.{Bound, Within, head_bounds}
use Rattle.state.proofs.RangeTests.{spelled_first, spelled_next}

-- a refusal that may be kept
abbrev pub Numbered : Refusal → Type 0
Numbered x = (3 ≤ x.number) × (x.number ≤ 21)

-- what flows, while the next entry starts at the time `t`
abbrev pub Flows : ℕ → Flow → Type 0
Flows t f = (f.leaves ≤ most_records) × (f.now ≡ t)

abbrev pub Refuses : Refusal → Left → Type 0
Refuses x l = Numbered x × (l.leaves ≤ most_records)

abbrev pub Goes : {S : Type 0} → ℕ → (S → List Bound) → S → Flow → Type 0
Goes t bounds s f = Within (bounds s) × Flows t f

abbrev pub KeptIn : {S R : Type 0} → ℕ → (S → List Bound) → (R → Flow → Type 0) → Sub S R Flow Left → Type 0
KeptIn t bounds D r = Kept (Goes t bounds) D Refuses r

-- Faults that may be shown.
pub shown : (t : Bool) (n p : ℕ) → (3 ≤ n) × (n ≤ 21) → Each Numbered (shows t n p)
shown t n p h = each_shows Numbered t n p h

pub both : (xs ys : List Refusal) → Each Numbered xs → Each Numbered ys → Each Numbered (xs ++ ys)
both = each_append Numbered

module _ {S R : Type 0} (t : ℕ) (bounds : S → List Bound) (D : R → Flow → Type 0) where
  -- the lowest fault, or what goes on where none is shown
  pub unless_kept : (xs : List Refusal) (l : Left) (r : Sub S R Flow Left) → Each Numbered xs → l.leaves ≤ most_records → (xs ≡ [] → KeptIn t bounds D r) →
      KeptIn t bounds D (unless xs (λ x. bad x l) r)
  unless_kept xs l r g h k = unless_holds Numbered (KeptIn t bounds D) xs (λ x. bad x l) r g (λ y z. (z, h)) k

  pub pick_kept : (c : Bool) (x y : Sub S R Flow Left) → KeptIn t bounds D x → KeptIn t bounds D y → KeptIn t bounds D (pick c x y)
  pick_kept c x y p q = pick_holds (KeptIn t bounds D) c x y (λ e. p) (λ e. q)

-- A header.
module _ (lf : Flow → Left) (keeps : (f : Flow) → f.leaves ≤ most_records → (lf f).leaves ≤ most_records) (end t : ℕ) where
  sized_kept : (pos size kind : ℕ) (f : Flow) → pos ≤ limit → Flows t f → KeptIn t head_bounds (λ r g. Flows t g) (sized lf end pos size kind f)
  unfolding sized head_bounds
  sized_kept pos size kind f h k =
      pick_kept t head_bounds (λ r g. Flows t g) (eqb size 1) _ _
      (unless_kept t head_bounds (λ r g. Flows t g) (under_sixteen end pos) (lf f) _ (shown _ 5 _ (omega arith)) (keeps f k.0) (λ e. ((h, spelled_first 7 7 (omega arith)), k)))
      k

  pub head_kept : (h : Head) (f : Flow) (n b : ℕ) → n ≤ limit → b < 256 → Within (head_bounds h) → Flows t f → KeptIn t head_bounds (λ r g. Flows t g) (step_head lf end h f n b)
  unfolding step_head head_bounds
  head_kept at.First f n b hn hb w k =
      unless_kept t head_bounds (λ r g. Flows t g) (under_eight end n) (lf f) _ (shown _ 5 _ (omega arith)) (keeps f k.0) (λ e. ((hn, (omega arith, (omega arith, tt))), k))
  head_kept (at.Size pos zero acc) f n b hn hb w k = ((w.0, spelled_first 3 3 (omega arith)), k)
  head_kept (at.Size pos (suc m) acc) f n b hn hb w k = ((w.0, spelled_next 3 m acc b hb w.1), k)
  head_kept (at.Kind pos size zero acc) f n b hn hb w k = sized_kept pos size (acc * 256 + b) f w.0 k
  head_kept (at.Kind pos size (suc m) acc) f n b hn hb w k = ((w.0, spelled_next 3 m acc b hb w.1), k)
  head_kept (at.Large pos kind zero acc) f n b hn hb w k = k
  head_kept (at.Large pos kind (suc m) acc) f n b hn hb w k = ((w.0, spelled_next 7 m acc b hb w.1), k)

-- A box: the bounds of its header, or of its body.
abbrev pub box_bounds : {B : Type 0} → (B → List Bound) → BoxPhase B → List Bound
box_bounds bb (in_head h) = head_bounds h
box_bounds bb (in_body s) = bb s

module _ {B R : Type 0} (t : ℕ) (k : Kind B R Flow Left) (bb : B → List Bound) (D : R → Flow → Type 0)
    (keeps : (f : Flow) → f.leaves ≤ most_records → (k.left f).leaves ≤ most_records)
    (faults : (h : Header) (f : Flow) → Each Numbered (k.shown h f))
    (begins : (h : Header) (f : Flow) (n : ℕ) → k.shown h f ≡ [] → Flows t f → KeptIn t bb D (k.begin h f n))
    (bodies : (s : B) (f : Flow) (n b : ℕ) → n ≤ limit → b < 256 → Within (bb s) → Flows t f → KeptIn t bb D (k.body s f n b)) where
  body_kept : (r : Sub B R Flow Left) → KeptIn t bb D r → KeptIn t (box_bounds bb) D (lift_body k r)
  body_kept r h = lift_kept (Goes t bb) D Refuses (Goes t (box_bounds bb)) D Refuses in_body done bad r (λ s f z. z) (λ q f z. z) (λ x l z. z) h

  headed_kept : (h : Header) (f : Flow) (n : ℕ) → Flows t f → KeptIn t (box_bounds bb) D (headed k h f n)
  unfolding headed
  headed_kept h f n z =
      unless_kept t (box_bounds bb) D (faults_of k h f) (k.left f) _
      (both (size_faults k.end h) _ (both _ _ (shown _ 4 _ (omega arith)) (shown _ 5 _ (omega arith))) (faults h f))
      (keeps f z.0)
      (λ e. body_kept (k.begin h f n) (begins h f n (none_second (size_faults k.end h) (k.shown h f) e) z))

  pub box_kept : (s : BoxPhase B) (f : Flow) (n b : ℕ) → n ≤ limit → b < 256 → Within (box_bounds bb s) → Flows t f → KeptIn t (box_bounds bb) D (step_box k s f n b)
  unfolding step_box
  box_kept (in_head h) f n b hn hb w z =
      lift_kept (Goes t head_bounds) (λ r g. Flows t g) Refuses (Goes t (box_bounds bb)) D Refuses in_head (λ h' g. headed k h' g (suc n)) bad
      (step_head k.left k.end h f n b) (λ s g y. y) (λ h' g y. headed_kept h' g (suc n) y) (λ x l y. y) (head_kept k.left keeps k.end t h f n b hn hb w z)
  box_kept (in_body s) f n b hn hb w z = body_kept (k.body s f n b) (bodies s f n b hn hb w z)

-- What follows a box in a list keeps what flows, or gives what is to be kept where the list is over.
abbrev pub Closes : {A Q : Type 0} → ℕ → (Q → Flow → Type 0) → Flow → Next A Q → Type 0
Closes t E f (again a xs) = Each Numbered xs × Flows t f
Closes t E f (over q xs) = Each Numbered xs × (f.leaves ≤ most_records) × (xs ≡ [] → E q f)

-- A list of boxes.
module _ {A B R Q S : Type 0} (t : ℕ) (l : Boxes A B R Q Flow Left) (wrap : A → BoxPhase B → S) (sb : S → List Bound) (E : Q → Flow → Type 0)
    (keeps : (f : Flow) → f.leaves ≤ most_records → (l.kept f).leaves ≤ most_records)
    (heads : (a : A) (h : Head) → Within (head_bounds h) → Within (sb (wrap a (in_head h)))) where
  pub go_on_kept : (x : Next A Q) (f : Flow) → Closes t E f x → KeptIn t sb E (go_on l wrap x f)
  unfolding go_on head_bounds
  go_on_kept (again a xs) f h = unless_kept t sb E xs (l.kept f) _ h.0 (keeps f h.1.0) (λ e. (heads a at.First tt, h.1))
  go_on_kept (over q xs) f h = unless_kept t sb E xs (l.kept f) _ h.0 (keeps f h.1) h.2

  module _ (bb : B → List Bound) (D : R → Flow → Type 0) (inners : (a : A) (s : B) → Within (bb s) → Within (sb (wrap a (in_body s))))
      (closes : (a : A) (r : R) (f : Flow) (n : ℕ) → D r f → Closes t E f (l.close a r f n))
      (besides : (a : A) (kept : Left) (n : ℕ) → Each Numbered (l.beside a kept n)) where
    wraps : (a : A) (s : BoxPhase B) → Within (box_bounds bb s) → Within (sb (wrap a s))
    wraps a (in_head h) w = heads a h w
    wraps a (in_body s) w = inners a s w

    pub boxes_kept : (a : A) (s : BoxPhase B) (f : Flow) (n b : ℕ) → KeptIn t (box_bounds bb) D (step_box (l.box a) s f n b) → KeptIn t sb E (step_boxes l wrap a s f n b)
    boxes_kept a s f n b h =
        lift_kept (Goes t (box_bounds bb)) D Refuses (Goes t sb) E Refuses (wrap a) (λ r g. go_on l wrap (l.close a r g (suc n)) g) (λ x kept. bad (lowest x (l.beside a kept (suc n))) kept)
        (step_box (l.box a) s f n b) (λ s' g y. (wraps a s' y.0, y.1)) (λ r g y. go_on_kept (l.close a r g (suc n)) g (closes a r g (suc n) y))
        (λ x kept y. (each_lowest Numbered (l.beside a kept (suc n)) x y.0 (besides a kept (suc n)), y.1)) h
