-- A header, and a box over any body, by structure: accepted where the bytes start with a box of the tree, with that box.
use Prim.Native.Nat.{ℕ, suc, ◌+◌, ◌-◌, ◌*◌, ◌≤◌, ◌<◌}
use mathlib.Core.Path.{◌≡◌, refl, ap, sym, ◌∙◌, subst}
use mathlib.Core.List.{List, [], ◌∷◌, ◌++◌, append_assoc, append-nil}
use mathlib.Core.Option.{Option, none}
use mathlib.Core.Bool.{not, ◌&&◌}
use mathlib.Core.Logic.{◌⊎◌, inl, inr}
use native.Mathlib.Omega.{arith}
use lib.Dec.{eqb, ltb}
use lib.ListN.{length, take, drop, length-append, length-drop}
use lib.Seq.{length-take-le, take-append-le, drop-append-le, drop-drop}
use borrow.Author.Tests.{ltb-true, ltb-false, lt-ltb, le-ltb}
use Rattle.basics.specs.Choose.{pick, and_then}
use Rattle.basics.specs.Bytes.{number_from}
use Rattle.basics.proofs.Picks.{lt_or_ge, pick_both, pick_if}
use Rattle.basics.proofs.Options.{then_cong, then_assoc}
use Rattle.segment.specs.Boxes.{Box, box_of, first_box}
use Rattle.segment.proofs.Said.{Start, size4, kind4, size8, start, box_at, first_start, start_fits, body_rest}
use Rattle.machine.specs.Faults.{unless}
use Rattle.machine.specs.Run.{Res, okay, fail, field_d, plain}
use Rattle.machine.specs.Heads.{under_eight, under_sixteen, size_faults, header, box_end, sized_d, head_d}
use Rattle.machine.specs.Lists.{Kind, faults_of, box_d}
use Rattle.machine.specs.declared.Header.{Header}
use Rattle.state.specs.Flow.{Flow, Left, left}
use Rattle.demands.specs.Told.{upon, clean, head_length, header_of}
use Rattle.demands.proofs.Upons.{upon_after, upon_cong, upon_unless, clean_append, clean_shows, pick_and, upon_field, upon_few}

-- What the header reading reads there.
module _ {X : Type 0} (end : ℕ) (f : Flow) (n : ℕ) (K : Header → Flow → ℕ → List ℕ → Option X) where
  -- from the size on, and from the type on
  abbrev kind_d : ℕ → Flow → ℕ → List ℕ → Res Header Flow Left
  kind_d size g m cs = field_d left plain (λ kind g' m' cs'. sized_d left end n size kind g' m' cs') 4 0 g m cs

  abbrev size_d : List ℕ → Res Header Flow Left
  size_d bs = field_d left plain kind_d 4 0 f n bs

  head_field : (bs : List ℕ) → upon (head_d left end f n bs) K ≡ pick (clean (under_eight end n)) (upon (size_d bs) K) none
  unfolding head_d upon field_d
  head_field [] = sym (pick_if (clean (under_eight end n)) (λ o. o) _ _ none (λ e. refl) (λ e. refl))
  head_field (b ∷ bs) =
      let z : 0 * 256 + b ≡ b = omega arith in
      subst (λ (m : ℕ). upon (head_d left end f n (b ∷ bs)) K ≡ pick (clean (under_eight end n)) (upon (field_d left plain kind_d 3 m f (suc n) bs) K) none)
      (sym z) (upon_unless (under_eight end n) (left f) (suc n) _ K)

  head_under : (bs : List ℕ) → end < n + 8 → upon (head_d left end f n bs) K ≡ none
  unfolding pick
  head_under bs l = head_field bs ∙ rw (clean_shows, lt-ltb end (n + 8) l)

  head_short : (bs : List ℕ) → length bs < 8 → upon (head_d left end f n bs) K ≡ none
  unfolding upon
  head_short bs l = head_field bs ∙ pick_if (clean (under_eight end n)) (λ o. o) _ _ none (λ e. at (lt_or_ge (length bs) 4)) (λ e. refl)
    where
      at : (length bs < 4) ⊎ (4 ≤ length bs) → upon (size_d bs) K ≡ none
      at (inl h) = upon_few kind_d K 4 f n bs h
      at (inr h) = upon_field kind_d K 4 f n bs h ∙ upon_few _ K 4 f (n + 4) (drop 4 bs) (simp length-drop (omega arith))

  head_sized : (bs : List ℕ) → n + 8 ≤ end → 8 ≤ length bs → upon (head_d left end f n bs) K ≡ upon (sized_d left end n (size4 bs) (kind4 bs) f (n + 8) (drop 8 bs)) K
  unfolding pick
  head_sized bs l h =
      let q : n + 4 + 4 ≡ n + 8 = omega arith in
      head_field bs
      ∙ rw (clean_shows, le-ltb end (n + 8) l)
      (upon_field kind_d K 4 f n bs (omega arith)
      ∙ upon_field _ K 4 f (n + 4) (drop 4 bs) (simp length-drop (omega arith))
      ∙ rw (q, drop-drop))

  -- the size of 64 bits
  abbrev large_d : ℕ → List ℕ → Res Header Flow Left
  large_d kind bs = field_d left plain (λ large g m cs. okay (header n kind large 16) g m cs) 8 0 f (n + 8) bs

  large_few : (kind : ℕ) (bs : List ℕ) → (end < n + 16) ⊎ (length bs < 8) → upon (unless (under_sixteen end n) (λ x. fail x (left f) (n + 8)) (large_d kind bs)) K ≡ none
  unfolding pick
  large_few kind bs (inl l) = upon_unless (under_sixteen end n) (left f) (n + 8) _ K ∙ rw (clean_shows, lt-ltb end (n + 16) l)
  large_few kind bs (inr l) = upon_unless (under_sixteen end n) (left f) (n + 8) _ K ∙ pick_if (clean (under_sixteen end n)) (λ o. o) _ _ none (λ e. upon_few _ K 8 f (n + 8) bs l) (λ e. refl)

  large_enough : (kind : ℕ) (bs : List ℕ) → n + 16 ≤ end → 8 ≤ length bs →
      upon (unless (under_sixteen end n) (λ x. fail x (left f) (n + 8)) (large_d kind bs)) K ≡ K (header n kind (number_from 0 (take 8 bs)) 16) f (n + 16) (drop 8 bs)
  unfolding pick upon
  large_enough kind bs l h =
      let q : n + 8 + 8 ≡ n + 16 = omega arith in
      upon_unless (under_sixteen end n) (left f) (n + 8) _ K ∙ rw (clean_shows, le-ltb end (n + 16) l) (upon_field _ K 8 f (n + 8) bs h ∙ rw q)

  -- The header reading is accepted where the bytes start with a header: of the bytes of a container, or of all that there are.
  module _ (xs ys : List ℕ) (few : (m : ℕ) → length xs < m → (end < n + m) ⊎ (length (xs ++ ys) < m)) (within : n + length xs ≤ end) where
    abbrev up_to : Start → Option X
    up_to t = K (header n t.kind t.size t.head) f (n + t.head) (drop t.head xs ++ ys)

    start_few : length xs < 8 → upon (head_d left end f n (xs ++ ys)) K ≡ none
    start_few l = at (few 8 l)
      where
        at : (end < n + 8) ⊎ (length (xs ++ ys) < 8) → upon (head_d left end f n (xs ++ ys)) K ≡ none
        at (inl h) = head_under (xs ++ ys) h
        at (inr h) = head_short (xs ++ ys) h

    large_short : (kind : ℕ) → 8 ≤ length xs → length xs < 16 → upon (unless (under_sixteen end n) (λ x. fail x (left f) (n + 8)) (large_d kind (drop 8 xs ++ ys))) K ≡ none
    large_short kind l h = large_few kind (drop 8 xs ++ ys) (at (few 16 h))
      where
        at : (end < n + 16) ⊎ (length (xs ++ ys) < 16) → (end < n + 16) ⊎ (length (drop 8 xs ++ ys) < 8)
        at (inl h) = inl h
        at (inr h) = inr (omega (arith, length-append (drop 8 xs) ys, length-drop 8 xs, length-append xs ys))

    large_start : (kind : ℕ) → 16 ≤ length xs →
        upon (unless (under_sixteen end n) (λ x. fail x (left f) (n + 8)) (large_d kind (drop 8 xs ++ ys))) K ≡ K (header n kind (size8 xs) 16) f (n + 16) (drop 16 xs ++ ys)
    large_start kind l =
        let d : length (drop 8 xs) ≡ length xs - 8 = length-drop 8 xs in
        let h : 8 ≤ length (drop 8 xs) = omega arith in
        large_enough kind (drop 8 xs ++ ys) (omega arith) (omega (arith, length-append (drop 8 xs) ys))
        ∙ rw (take-append-le 8 (drop 8 xs) ys h, drop-append-le 8 (drop 8 xs) ys h, drop-drop 8 8 xs)

    start_enough : 8 ≤ length xs → upon (head_d left end f n (xs ++ ys)) K ≡ upon (sized_d left end n (size4 xs) (kind4 xs) f (n + 8) (drop 8 xs ++ ys)) K
    start_enough l =
        let d : length (drop 4 xs) ≡ length xs - 4 = length-drop 4 xs in
        let h : 4 ≤ length (drop 4 xs) = omega arith in
        head_sized (xs ++ ys) (omega arith) (omega (arith, length-append xs ys))
        ∙ rw (take-append-le 4 xs ys (omega arith), drop-append-le 4 xs ys (omega arith), take-append-le 4 (drop 4 xs) ys h, drop-append-le 8 xs ys l)

    head_start : upon (head_d left end f n (xs ++ ys)) K ≡ and_then (start xs) up_to
    unfolding start and_then sized_d upon
    head_start =
        sym (pick_if (ltb (length xs) 8) (λ o. and_then o up_to) _ _ (upon (head_d left end f n (xs ++ ys)) K)
        (λ e. sym (start_few (ltb-true _ _ e)))
        (λ e.
        let l : 8 ≤ length xs = ltb-false _ _ e in
        sym (start_enough l
        ∙ pick_both (eqb (size4 xs) 1) (λ r. upon r K) (λ o. and_then o up_to) _ _ _ _
        (sym (pick_if (ltb (length xs) 16) (λ o. and_then o up_to) _ _ _ (λ e'. sym (large_short (kind4 xs) l (ltb-true _ _ e'))) (λ e'. sym (large_start (kind4 xs) (ltb-false _ _ e')))))
        refl)))

-- The box of a header.
-- no fault of a header's size
clean_sizes : (end : ℕ) (h : Header) → clean (size_faults end h) ≡ not (ltb h.size h.head) && not (ltb end (box_end h))
clean_sizes end h = rw (clean_append, clean_shows (ltb h.size h.head) 4 h.pos, clean_shows (ltb end (h.pos + h.size)) 5 h.pos)

module _ {X : Type 0} (end : ℕ) (f : Flow) (n : ℕ) (xs ys : List ℕ) (k : Header → Flow → ℕ → List ℕ → Option X) (within : n + length xs ≤ end) where
  -- what is made of a box of the tree
  abbrev told : Box → Option X
  told b = k (header_of n b) f (n + head_length b) (b.body ++ (drop b.size xs ++ ys))

  -- what is made of a header read
  abbrev sized : Header → Option X
  sized h = pick (clean (size_faults end h)) (k h f (n + h.head) (drop h.head xs ++ ys)) none

  sized_tree : (kind size hd : ℕ) → hd ≤ length xs → (length xs < size → sized (header n kind size hd) ≡ none) →
      sized (header n kind size hd) ≡ and_then (box_of hd size kind (drop hd xs)) told
  unfolding box_of and_then pick
  sized_tree kind size hd fits far =
      let d : length (drop hd xs) ≡ length xs - hd = length-drop hd xs in
      sym (pick_if (ltb size hd) (λ o. and_then o told) _ _ (sized (header n kind size hd))
      (λ e. rw (clean_sizes end (header n kind size hd), e))
      (λ e.
      let l : hd ≤ size = ltb-false _ _ e in
      pick_if (ltb (length (drop hd xs)) (size - hd)) (λ o. and_then o told) _ _ (sized (header n kind size hd))
      (λ e'. let m : length (drop hd xs) < size - hd = ltb-true _ _ e' in sym (far (omega arith)))
      (λ e'.
      let m : size - hd ≤ length (drop hd xs) = ltb-false _ _ e' in
      let s : length (take (size - hd) (drop hd xs)) ≡ size - hd = length-take-le (size - hd) (drop hd xs) m in
      let q : size - length (take (size - hd) (drop hd xs)) ≡ hd = omega arith in
      let z : take (size - hd) (drop hd xs) ++ (drop size xs ++ ys) ≡ drop hd xs ++ ys =
      sym (append_assoc (take (size - hd) (drop hd xs)) (drop size xs) ys) ∙ ap (λ zs. zs ++ ys) (sym (body_rest xs hd size l)) in
      rw (clean_sizes end (header n kind size hd), e, le-ltb end (n + size) (omega arith), q, z))))

  -- the header reading and the tree, where a box that goes on past the bytes comes to none
  head_any : (few : (m : ℕ) → length xs < m → (end < n + m) ⊎ (length (xs ++ ys) < m)) →
      ((kind size hd : ℕ) → hd ≤ length xs → length xs < size → sized (header n kind size hd) ≡ none) →
      upon (head_d left end f n (xs ++ ys)) (λ h g m cs. pick (clean (size_faults end h)) (k h g m cs) none) ≡ and_then (first_box xs) told
  head_any few far =
      head_start end f n _ xs ys few within
      ∙ then_cong (start xs) _ _ (λ t e. let (eight, fits) = start_fits xs t e in sized_tree t.kind t.size t.head fits (far t.kind t.size t.head fits))
      ∙ sym (then_assoc (start xs) (box_at xs) told)
      ∙ ap (λ o. and_then o told) (sym (first_start xs))

-- The header reading in a container that ends where the bytes `xs` do: accepted, with a size that shows no fault, where the bytes start
-- with a box of the tree.
pub head_tree : {X : Type 0} (end : ℕ) (f : Flow) (n : ℕ) (xs ys : List ℕ) (k : Header → Flow → ℕ → List ℕ → Option X) → end ≡ n + length xs →
    upon (head_d left end f n (xs ++ ys)) (λ h g m cs. pick (clean (size_faults end h)) (k h g m cs) none)
    ≡ and_then (first_box xs) (λ b. k (header_of n b) f (n + head_length b) (b.body ++ (drop b.size xs ++ ys)))
unfolding pick
head_tree end f n xs ys k e =
    head_any end f n xs ys k (omega arith) (λ m l. inl (omega arith))
    (λ kind size hd l h.
    let o = k (header n kind size hd) f (n + hd) (drop hd xs ++ ys) in
    ap (λ t. pick t o none) (clean_sizes end (header n kind size hd))
    ∙ pick_and (not (ltb size hd)) (not (ltb end (n + size))) o
    ∙ rw (lt-ltb end (n + size) (omega arith)) (pick_if (not (ltb size hd)) (λ o'. o') _ _ none (λ q. refl) (λ q. refl)))

-- The same of all the bytes there are, in a container that may end past them: given that a box that goes on past them comes to none.
pub head_open : {X : Type 0} (end : ℕ) (f : Flow) (n : ℕ) (bs : List ℕ) (k : Header → Flow → ℕ → List ℕ → Option X) → n + length bs ≤ end →
    ((h : Header) (m : ℕ) (cs : List ℕ) → m + length cs < box_end h → k h f m cs ≡ none) →
    upon (head_d left end f n bs) (λ h g m cs. pick (clean (size_faults end h)) (k h g m cs) none)
    ≡ and_then (first_box bs) (λ b. k (header_of n b) f (n + head_length b) (b.body ++ drop b.size bs))
head_open end f n bs k l far =
    ap (λ zs. upon (head_d left end f n zs) (λ h g m cs. pick (clean (size_faults end h)) (k h g m cs) none)) (sym (append-nil bs))
    ∙ head_any end f n bs [] k l (λ m h. inr (rw append-nil h))
    (λ kind size hd fits h.
    let d : length (drop hd bs) ≡ length bs - hd = length-drop hd bs in
    pick_if (clean (size_faults end (header n kind size hd))) (λ o. o) _ _ none (λ q. rw append-nil (far (header n kind size hd) (n + hd) (drop hd bs) (omega arith))) (λ q. refl))
    ∙ then_cong (first_box bs) _ _ (λ b q. rw append-nil)

-- a box begins with its header
module _ {B R X : Type 0} (kd : Kind B R Flow Left) (left_is : kd.left ≡ left) (body_d : Header → Flow → ℕ → List ℕ → Res R Flow Left) (f : Flow) (n : ℕ) where
  -- what is made of a header whose size shows no fault
  abbrev opened : (R → Flow → ℕ → List ℕ → Option X) → Header → Flow → ℕ → List ℕ → Option X
  opened k h g m cs = pick (clean (kd.shown h g)) (upon (body_d h g m cs) k) none

  box_head : (bs : List ℕ) (k : R → Flow → ℕ → List ℕ → Option X) →
      upon (box_d kd body_d f n bs) k ≡ upon (head_d left kd.end f n bs) (λ h g m cs. pick (clean (size_faults kd.end h)) (opened k h g m cs) none)
  unfolding box_d
  box_head bs k =
      upon_after (head_d kd.left kd.end f n bs) _ k
      ∙ upon_cong (head_d kd.left kd.end f n bs) _ _
      (λ h g m cs e.
      upon_unless (faults_of kd h g) (kd.left g) m (body_d h g m cs) k
      ∙ ap (λ t. pick t (upon (body_d h g m cs) k) none) (clean_append (size_faults kd.end h) (kd.shown h g))
      ∙ pick_and (clean (size_faults kd.end h)) (clean (kd.shown h g)) (upon (body_d h g m cs) k))
      ∙ ap (λ (lf : Flow → Left). upon (head_d lf kd.end f n bs) (λ h g m cs. pick (clean (size_faults kd.end h)) (opened k h g m cs) none)) left_is

  -- A box in a container that ends where the bytes `xs` do.
  pub box_tree : (xs ys : List ℕ) (k : R → Flow → ℕ → List ℕ → Option X) → kd.end ≡ n + length xs →
      upon (box_d kd body_d f n (xs ++ ys)) k
      ≡ and_then (first_box xs) (λ b. pick (clean (kd.shown (header_of n b) f)) (upon (body_d (header_of n b) f (n + head_length b) (b.body ++ (drop b.size xs ++ ys))) k) none)
  box_tree xs ys k e = box_head (xs ++ ys) k ∙ head_tree kd.end f n xs ys (opened k) e

  -- A box of all the bytes there are, in a container that may end past them: given that a body cut off is not accepted.
  pub box_open : (bs : List ℕ) (k : R → Flow → ℕ → List ℕ → Option X) → n + length bs ≤ kd.end →
      ((h : Header) (m : ℕ) (cs : List ℕ) → m + length cs < box_end h → upon (body_d h f m cs) k ≡ none) →
      upon (box_d kd body_d f n bs) k
      ≡ and_then (first_box bs) (λ b. pick (clean (kd.shown (header_of n b) f)) (upon (body_d (header_of n b) f (n + head_length b) (b.body ++ drop b.size bs)) k) none)
  box_open bs k l far =
      box_head bs k
      ∙ head_open kd.end f n bs (opened k) l (λ h m cs q. pick_if (clean (kd.shown h f)) (λ o. o) _ _ none (λ e. far h m cs q) (λ e. refl))
