-- What is known of a reading by structure: one thing where it gives a result, one where it refuses.
use Prim.Native.Nat.{ℕ, zero, suc, ◌+◌, ◌*◌, ◌≤◌}
use mathlib.Core.Path.{◌≡◌, refl}
use mathlib.Core.List.{List, [], ◌∷◌}
use mathlib.Core.Bool.{Bool, true, false}
use native.Mathlib.Omega.{arith}
use lib.Dec.{eqb, ltb}
use lib.ListN.{length}
use Rattle.basics.proofs.Picks.{pick_holds}
use Rattle.machine.specs.Faults.{refusal, shows, unless}
use Rattle.machine.specs.Run.{Res, okay, fail, cut, either, after, field_d, plain, skip_d}
use Rattle.machine.specs.Heads.{under_eight, under_sixteen, size_faults, header, sized_d, head_d}
use Rattle.machine.specs.Lists.{Kind, faults_of, box_d, Next, again, over, Boxes, go_on_d, boxes_d}
use Rattle.machine.specs.declared.Refusal.{Refusal}
use Rattle.machine.specs.declared.Header.{Header}
use Rattle.machine.proofs.Faults.{none_first, none_second}
use Rattle.machine.proofs.Kept.{Each, each_shows, each_append, each_lowest, unless_holds}

abbrev pub Says : {R F L : Type 0} → (R → F → ℕ → List ℕ → Type 0) → (Refusal → L → ℕ → Type 0) → Res R F L → Type 0
Says K W (okay r f n bs) = K r f n bs
Says K W (fail x l n) = W x l n
Says K W (cut l n) = Unit {0}

-- nothing is known of a refusal; a result that there is not
abbrev pub Anyhow : {L : Type 0} → Refusal → L → ℕ → Type 0
Anyhow x l n = Unit {0}

abbrev pub Never : {R F : Type 0} → R → F → ℕ → List ℕ → Type 0
Never r f n bs = ⊥

pub each_any : (xs : List Refusal) → Each (λ x. Unit {0}) xs
unfolding Each
each_any [] = tt
each_any (x ∷ xs) = (tt, each_any xs)

-- a fault shown where the test holds
pub each_if : (G : Refusal → Type 0) (t : Bool) (n p : ℕ) → (t ≡ true → G (refusal n p)) → Each G (shows t n p)
unfolding shows Each
each_if G true n p g = (g refl, tt)
each_if G false n p g = tt

-- of a result, of a refusal
pub says_okay : {R F L : Type 0} (K : R → F → ℕ → List ℕ → Type 0) (W : Refusal → L → ℕ → Type 0) (r : Res R F L) (q : R) (f : F) (n : ℕ) (bs : List ℕ) →
    r ≡ okay q f n bs → Says K W r → K q f n bs
says_okay K W r q f n bs e s = rw e at s

pub says_fail : {R F L : Type 0} (K : R → F → ℕ → List ℕ → Type 0) (W : Refusal → L → ℕ → Type 0) (r : Res R F L) (x : Refusal) (l : L) (n : ℕ) → r ≡ fail x l n → Says K W r → W x l n
says_fail K W r x l n e s = rw e at s

-- of a reading after another
module _ {R Q F L : Type 0} (K : R → F → ℕ → List ℕ → Type 0) (W : Refusal → L → ℕ → Type 0) (K' : Q → F → ℕ → List ℕ → Type 0) (W' : Refusal → L → ℕ → Type 0) where
  pub says_either : (r : Res R F L) (k : R → F → ℕ → List ℕ → Res Q F L) (worse : Refusal → L → ℕ → Res Q F L) → Says K W r →
      ((q : R) (f : F) (n : ℕ) (bs : List ℕ) → K q f n bs → Says K' W' (k q f n bs)) → ((x : Refusal) (l : L) (n : ℕ) → W x l n → Says K' W' (worse x l n)) → Says K' W' (either r k worse)
  unfolding either
  says_either (okay q f n bs) k worse s p w = p q f n bs s
  says_either (fail x l n) k worse s p w = w x l n s
  says_either (cut l n) k worse s p w = tt

module _ {R F L : Type 0} (K : R → F → ℕ → List ℕ → Type 0) (W : Refusal → L → ℕ → Type 0) where
  -- where a refusal stays
  pub says_after : {Q : Type 0} (K' : Q → F → ℕ → List ℕ → Type 0) (r : Res Q F L) (k : Q → F → ℕ → List ℕ → Res R F L) → Says K' W r →
      ((q : Q) (f : F) (n : ℕ) (bs : List ℕ) → K' q f n bs → Says K W (k q f n bs)) → Says K W (after r k)
  says_after K' r k s p = says_either K' W K W r k fail s p (λ x l n w. w)

  -- of the faults that a byte shows, and what goes on
  pub says_unless : (xs : List Refusal) (l : L) (n : ℕ) (r : Res R F L) → Each (λ x. W x l n) xs → (xs ≡ [] → Says K W r) → Says K W (unless xs (λ x. fail x l n) r)
  says_unless xs l n r e s = unless_holds (λ x. W x l n) (Says K W) xs (λ x. fail x l n) r e (λ y w. w) s

  -- of a number, with what each byte keeps
  pub says_kept : (left : F → L) (keep : F → ℕ → ℕ → F) (k : ℕ → F → ℕ → List ℕ → Res R F L) (I : ℕ → F → ℕ → List ℕ → Type 0) →
      ((m : ℕ) (f : F) (n b : ℕ) (bs : List ℕ) → I (suc m) f n (b ∷ bs) → I m (keep f m b) (suc n) bs) →
      ((v : ℕ) (f : F) (n : ℕ) (bs : List ℕ) → I 0 f n bs → Says K W (k v f n bs)) →
      (m acc : ℕ) (f : F) (n : ℕ) (bs : List ℕ) → I m f n bs → Says K W (field_d left keep k m acc f n bs)
  unfolding field_d
  says_kept left keep k I step s zero acc f n bs i = s acc f n bs i
  says_kept left keep k I step s (suc m) acc f n [] i = tt
  says_kept left keep k I step s (suc m) acc f n (b ∷ bs) i = says_kept left keep k I step s m (acc * 256 + b) (keep f m b) (suc n) bs (step m f n b bs i)

  -- of a number that leaves nothing in what flows
  pub says_field : (left : F → L) (k : ℕ → F → ℕ → List ℕ → Res R F L) (m acc : ℕ) (f : F) (n : ℕ) (bs : List ℕ) →
      ((v : ℕ) (cs : List ℕ) → length bs ≡ m + length cs → Says K W (k v f (n + m) cs)) → Says K W (field_d left plain k m acc f n bs)
  unfolding field_d
  says_field left k zero acc f n bs s = let q : n + 0 ≡ n = omega arith in rw q at (s acc bs (omega arith))
  says_field left k (suc m) acc f n [] s = tt
  says_field left k (suc m) acc f n (b ∷ bs) s =
      let q : n + suc m ≡ suc n + m = omega arith in
      says_field left k m (acc * 256 + b) f (suc n) bs (λ v cs e. rw q at (s v cs (omega arith)))

-- of bytes that are skipped
module _ {F L : Type 0} (K : Unit {0} → F → ℕ → List ℕ → Type 0) (W : Refusal → L → ℕ → Type 0) where
  pub says_skip : (left : F → L) (m : ℕ) (f : F) (n : ℕ) (bs : List ℕ) → ((cs : List ℕ) → length bs ≡ m + length cs → K tt f (n + m) cs) → Says K W (skip_d left m f n bs)
  unfolding skip_d
  says_skip left zero f n bs s = let q : n + 0 ≡ n = omega arith in rw q at (s bs (omega arith))
  says_skip left (suc m) f n [] s = tt
  says_skip left (suc m) f n (b ∷ bs) s =
      let q : n + suc m ≡ suc n + m = omega arith in
      says_skip left m f (suc n) bs (λ cs e. rw q at (s cs (omega arith)))

-- Of a header: it refuses with 5 alone, and it leaves what flows.
module _ {F L : Type 0} (K : Header → F → ℕ → List ℕ → Type 0) (W : Refusal → L → ℕ → Type 0) (left : F → L) (end : ℕ) (f : F) (n : ℕ) where
  pub says_head : (bs : List ℕ) → ((m : ℕ) → W (refusal 5 n) (left f) m) →
      ((kind size head : ℕ) (cs : List ℕ) → length bs ≡ head + length cs → 8 ≤ head → K (header n kind size head) f (n + head) cs) → Says K W (head_d left end f n bs)
  unfolding head_d sized_d
  says_head [] w s = tt
  says_head (b ∷ bs) w s =
      says_unless K W (under_eight end n) (left f) (suc n) _ (each_shows (λ x. W x (left f) (suc n)) (ltb end (n + 8)) 5 n (w (suc n)))
      (λ none. says_field K W left _ 3 b f (suc n) bs
      (λ size cs e. says_field K W left _ 4 0 f (suc n + 3) cs
      (λ kind ds e'. pick_holds (Says K W) (eqb size 1) _ _
      (λ one. says_unless K W (under_sixteen end n) (left f) (suc n + 3 + 4) _ (each_shows (λ x. W x (left f) (suc n + 3 + 4)) (ltb end (n + 16)) 5 n (w (suc n + 3 + 4)))
      (λ none'. says_field K W left _ 8 0 f (suc n + 3 + 4) ds
      (λ large es e''. let q : n + 16 ≡ suc n + 3 + 4 + 8 = omega arith in rw q at (s kind large 16 es (omega arith) (omega arith)))))
      (λ other. let q : n + 8 ≡ suc n + 3 + 4 = omega arith in rw q at (s kind size 8 ds (omega arith) (omega arith))))))

-- Of a box, given what is known of its body.
module _ {B R F L : Type 0} (K : R → F → ℕ → List ℕ → Type 0) (W : Refusal → L → ℕ → Type 0) (k : Kind B R F L) (body_d : Header → F → ℕ → List ℕ → Res R F L) (f : F) (n : ℕ) where
  pub says_box : (bs : List ℕ) → ((m : ℕ) → W (refusal 4 n) (k.left f) m) → ((m : ℕ) → W (refusal 5 n) (k.left f) m) →
      ((h : Header) (m : ℕ) → h.pos ≡ n → Each (λ x. W x (k.left f) m) (k.shown h f)) →
      ((h : Header) (m : ℕ) (cs : List ℕ) → h.pos ≡ n → m + length cs ≡ n + length bs → size_faults k.end h ≡ [] → k.shown h f ≡ [] → Says K W (body_d h f m cs)) →
      Says K W (box_d k body_d f n bs)
  unfolding box_d
  says_box bs four five shown body =
      says_after K W (λ h g m cs. (h.pos ≡ n) × (g ≡ f) × (m + length cs ≡ n + length bs)) (head_d k.left k.end f n bs) _
      (says_head _ W k.left k.end f n bs five (λ kind size head cs e l. (refl, refl, omega arith)))
      (λ h g m cs s. let (p, q, r) = s in
      rw q
      (says_unless K W (faults_of k h f) (k.left f) m _
      (each_append (λ x. W x (k.left f) m) (size_faults k.end h) (k.shown h f)
      (rw p (each_append (λ x. W x (k.left f) m) _ _ (each_shows (λ x. W x (k.left f) m) _ 4 n (four m)) (each_shows (λ x. W x (k.left f) m) _ 5 n (five m))))
      (shown h m p))
      (λ e. body h m cs p r (none_first (size_faults k.end h) (k.shown h f) e) (none_second (size_faults k.end h) (k.shown h f) e))))

-- Of a list of boxes: `I` is known where a box begins, `P` where it ends.
module _ {A B R Q F L : Type 0} (K : Q → F → ℕ → List ℕ → Type 0) (W : Refusal → L → ℕ → Type 0) (l : Boxes A B R Q F L) (body_d : A → Header → F → ℕ → List ℕ → Res R F L)
    (I : A → F → ℕ → List ℕ → Type 0) where
  -- what is known where the list goes on, or is over
  abbrev pub SaysNext : Next A Q → F → ℕ → List ℕ → Type 0
  SaysNext (again a xs) f n bs = Each (λ x. W x (l.kept f) n) xs × (xs ≡ [] → I a f n bs)
  SaysNext (over q xs) f n bs = Each (λ x. W x (l.kept f) n) xs × (xs ≡ [] → K q f n bs)

  pub says_next : (more : A → F → ℕ → List ℕ → Res Q F L) (next : Next A Q) (f : F) (n : ℕ) (bs : List ℕ) →
      ((a : A) → I a f n bs → Says K W (more a f n bs)) → SaysNext next f n bs → Says K W (go_on_d l body_d more next f n bs)
  unfolding go_on_d
  says_next more (again a xs) f n bs m s = says_unless K W xs (l.kept f) n _ s.0 (λ e. m a (s.1 e))
  says_next more (over q xs) f n bs m s = says_unless K W xs (l.kept f) n _ s.0 s.1

  module _ (P : A → R → F → ℕ → List ℕ → Type 0)
      (box : (a : A) (f : F) (n : ℕ) (bs : List ℕ) → I a f n bs → Says (P a) W (box_d (l.box a) (body_d a) f n bs))
      (close : (a : A) (r : R) (f : F) (n : ℕ) (bs : List ℕ) → P a r f n bs → SaysNext (l.close a r f n) f n bs)
      (beside : (a : A) (x : Refusal) (kept : L) (n : ℕ) → W x kept n → Each (λ y. W y kept n) (l.beside a kept n)) where
    pub says_boxes : (turns : ℕ) (a : A) (f : F) (n : ℕ) (bs : List ℕ) → I a f n bs → Says K W (boxes_d l body_d turns a f n bs)
    unfolding boxes_d
    says_boxes zero a f n bs i = tt
    says_boxes (suc turns) a f n bs i =
        says_either (P a) W K W (box_d (l.box a) (body_d a) f n bs) _ _ (box a f n bs i)
        (λ r g m cs p. says_next (boxes_d l body_d turns) (l.close a r g m) g m cs (λ a' i'. says_boxes turns a' g m cs i') (close a r g m cs p))
        (λ x kept m w. each_lowest (λ y. W y kept m) (l.beside a kept m) x w (beside a x kept m w))

    -- from a close on
    pub says_go_on : (turns : ℕ) (next : Next A Q) (f : F) (n : ℕ) (bs : List ℕ) → SaysNext next f n bs → Says K W (go_on_d l body_d (boxes_d l body_d turns) next f n bs)
    says_go_on turns next f n bs s = says_next (boxes_d l body_d turns) next f n bs (λ a i. says_boxes turns a f n bs i) s
