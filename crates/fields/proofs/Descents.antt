-- The descent at a position of the bytes: a field, bytes that are not looked at, and a box, from what the code answers there.
use Prim.Native.Nat.{ℕ, suc, ◌+◌, ◌-◌, ◌*◌, ◌≤◌, ◌<◌}
use mathlib.Core.Path.{◌≡◌, refl, ap, sym, ◌∙◌}
use mathlib.Core.List.{List, ◌++◌, append_assoc}
use mathlib.Core.Bool.{Bool, true, false}
use mathlib.Core.Logic.{◌⊎◌, inl, inr}
use native.Mathlib.Omega.{arith}
use lib.Dec.{eqb, ltb, leb}
use lib.ListN.{length, drop, get_or, length-drop, drop_of_length-le}
use lib.Seq.{drop-cons, drop-drop}
use borrow.Author.Tests.{lt-ltb, le-ltb, lt-leb, le-leb}
use Rattle.std.specs.Prelude.{Err}
use Rattle.basics.specs.Choose.{pick}
use Rattle.basics.proofs.Picks.{lt_or_ge, pick_both, pick_with, pick_yes, pick_no}
use Rattle.machine.specs.Faults.{refusal, shows, unless}
use Rattle.machine.specs.Run.{Res, okay, fail, cut, either, after, field_d, plain, skip_d}
use Rattle.machine.specs.Heads.{under_eight, header, sized_d, head_d}
use Rattle.machine.specs.Lists.{Kind, box_d, faults_of}
use Rattle.machine.specs.declared.Header.{Header}
use Rattle.machine.specs.declared.Refusal.{Refusal}
use Rattle.machine.proofs.Fields.{field_take, field_short, skip_take, skip_short}
use Rattle.machine.proofs.Lowest.{AtMostEach, lower_each, unless_one, unless_first}
use Rattle.fields.specs.Answers.{number_at, field_at, checked_at, large_at, head_at, HeadRead}
use Rattle.fields.specs.Onward.{ended, from, halted, on_field, on_head}
use Rattle.fields.specs.declared.Halt.TheVariants as halt

-- what is left from a position on is as long as the bytes after it
module _ (s : List ℕ) (at w : ℕ) (here : at ≤ length s) where
  fits : at + w ≤ length s → w ≤ length (drop at s)
  fits h = rw (length-drop at s) (omega arith)

  fails : length s < at + w → length (drop at s) < w
  fails h = rw (length-drop at s) (omega arith)

  all_left : (base : ℕ) → base + at + length (drop at s) ≡ base + length s
  all_left base = rw (length-drop at s) (omega arith)

module _ {R F L : Type 0} (left : F → L) (base : ℕ) (s : List ℕ) (f : F) where
  abbrev From : (F → ℕ → List ℕ → Res R F L) → ℕ → Res R F L
  From = from left base s f

  abbrev Ended : Res R F L
  Ended = ended left base s f

  -- a field that is there, and one that is not
  module _ (k : ℕ → F → ℕ → List ℕ → Res R F L) (w at : ℕ) (here : at ≤ length s) where
    pub field_there : at + w ≤ length s → From (field_d left plain k w 0) at ≡ From (k (number_at w s at)) (at + w)
    field_there h =
        let q : base + at + w ≡ base + (at + w) = omega arith in
        field_take left k w 0 f (base + at) (drop at s) (fits s at w here h)
        ∙ ap (λ (m : ℕ). k (number_at w s at) f m (drop w (drop at s))) q
        ∙ ap (k (number_at w s at) f (base + (at + w))) (drop-drop w at s)

    pub field_ends_lem : length s < at + w → From (field_d left plain k w 0) at ≡ Ended
    field_ends_lem h = field_short left k w 0 f (base + at) (drop at s) (fails s at w here h) ∙ ap (cut (left f)) (all_left s at w here base)

    -- either, by the answer
    pub field_descent : From (field_d left plain k w 0) at ≡ on_field left base s f k (field_at s at w)
    unfolding field_at on_field
    field_descent = at_length (lt_or_ge (length s) (at + w))
      where
        at_length : (length s < at + w) ⊎ (at + w ≤ length s) → From (field_d left plain k w 0) at ≡ on_field left base s f k (field_at s at w)
        at_length (inl h) = field_ends_lem h ∙ ap (on_field left base s f k) (sym (pick_yes (ltb (length s) (at + w)) _ _ (lt-ltb _ _ h)))
        at_length (inr h) = field_there h ∙ ap (on_field left base s f k) (sym (pick_no (ltb (length s) (at + w)) _ _ (le-ltb _ _ h)))

  -- bytes that are not looked at, up to a position
  module _ (r : R) (stop at : ℕ) (here : at ≤ length s) (before : at ≤ stop) where
    abbrev Skip : Res R F L
    Skip = after (skip_d left (base + stop - (base + at)) f (base + at) (drop at s)) (λ u g m cs. okay r g m cs)

    far : base + stop - (base + at) ≡ stop - at
    far = omega arith

    pub skip_there : stop ≤ length s → Skip ≡ From (okay r) stop
    unfolding either
    skip_there h =
        let q : base + at + (stop - at) ≡ base + stop = omega arith in
        let p : at + (stop - at) ≡ stop = omega arith in
        let go : Res (Unit {0}) F L → Res R F L = λ (x : Res (Unit {0}) F L). after x (λ u g m cs. okay r g m cs) in
        ap (λ (d : ℕ). go (skip_d left d f (base + at) (drop at s))) far
        ∙ ap go (skip_take left (stop - at) f (base + at) (drop at s) (fits s at (stop - at) here (omega arith)))
        ∙ ap (λ (m : ℕ). okay r f m (drop (stop - at) (drop at s))) q
        ∙ ap (okay r f (base + stop)) (drop-drop (stop - at) at s ∙ ap (λ (m : ℕ). drop m s) p)

    pub skip_ends : length s < stop → Skip ≡ Ended
    unfolding either
    skip_ends h =
        let go : Res (Unit {0}) F L → Res R F L = λ (x : Res (Unit {0}) F L). after x (λ u g m cs. okay r g m cs) in
        ap (λ (d : ℕ). go (skip_d left d f (base + at) (drop at s))) far
        ∙ ap go (skip_short left (stop - at) f (base + at) (drop at s) (fails s at (stop - at) here (omega arith)))
        ∙ ap (cut (left f)) (all_left s at (stop - at) here base)

-- a test of two places in the segment is that of the two positions
less_placed : (base a b : ℕ) → ltb (base + a) (base + b) ≡ ltb a b
less_placed base a b = at (lt_or_ge a b)
  where
    at : (a < b) ⊎ (b ≤ a) → ltb (base + a) (base + b) ≡ ltb a b
    at (inl h) = lt-ltb (base + a) (base + b) (omega arith) ∙ sym (lt-ltb a b h)
    at (inr h) = le-ltb (base + a) (base + b) (omega arith) ∙ sym (le-ltb a b h)

-- 5 stands before others from 5 on
higher : (t : Bool) (p : ℕ) (ys : List Refusal) → AtMostEach 5 ys → AtMostEach 4 (shows t 5 p ++ ys)
unfolding shows
higher true p ys h = (omega arith, lower_each 4 5 ys (omega arith) h)
higher false p ys h = lower_each 4 5 ys (omega arith) h

-- A box of a container that ends at `end`, from the answer of its header. What it shows beyond its size has numbers from 5 on.
module _ {B R F L : Type 0} (k : Kind B R F L) (body_d : Header → F → ℕ → List ℕ → Res R F L) (base end at : ℕ) (s : List ℕ) (f : F)
    (here : at ≤ length s) (ends : k.end ≡ base + end) (high : (h : Header) → AtMostEach 5 (k.shown h f)) where
  -- what follows a header
  abbrev pub shown_d : Header → F → ℕ → List ℕ → Res R F L
  shown_d h g m cs = unless (k.shown h g) (λ x. fail x (k.left g) m) (body_d h g m cs)

  abbrev Onto : HeadRead → Res R F L
  Onto = on_head k.left base s f shown_d

  abbrev faults_d : Header → F → ℕ → List ℕ → Res R F L
  faults_d h g m cs = unless (faults_of k h g) (λ x. fail x (k.left g) m) (body_d h g m cs)

  abbrev n : ℕ
  n = base + at

  -- a test against the container's end
  past_end : (m : ℕ) → ltb k.end (n + m) ≡ ltb end (at + m)
  past_end m =
      let q : n + m ≡ base + (at + m) = omega arith in
      ap (λ (e : ℕ). ltb e (n + m)) ends ∙ ap (ltb (base + end)) q ∙ less_placed base end (at + m)

  -- rows 4 and 5 of a header of so many bytes
  checked_descent : (kind size long : ℕ) → from k.left base s f (faults_d (header n kind size long)) (at + long) ≡ Onto (checked_at at end kind size long)
  unfolding checked_at on_head halted
  checked_descent kind size long =
      let h : Header = header n kind size long in
      let worse : Refusal → Res R F L = λ (x : Refusal). fail x (k.left f) (base + (at + long)) in
      let body : Res R F L = from k.left base s f (body_d h) (at + long) in
      let small : Bool = ltb size long in
      let past : Bool = ltb k.end (n + size) in
      ap (λ (xs : List Refusal). unless xs worse body) (append_assoc (shows small 4 n) (shows past 5 n) (k.shown h f))
      ∙ unless_first 4 n (shows past 5 n ++ k.shown h f) worse body small (higher past n (k.shown h f) (high h))
      ∙ ap (pick small (worse (refusal 4 n))) (unless_first 5 n (k.shown h f) worse body past (high h)
      ∙ ap (λ (t : Bool). pick t (worse (refusal 5 n)) (unless (k.shown h f) worse body)) (past_end size))
      ∙ pick_both small (λ r. r) Onto _ _ _ _ refl (pick_both (ltb end (at + size)) (λ r. r) Onto _ _ _ _ refl refl)

  -- what follows a header that was read
  abbrev Then : Res Header F L → Res R F L
  Then r = after r faults_d

  abbrev HeadFrom : (F → ℕ → List ℕ → Res Header F L) → ℕ → Res Header F L
  HeadFrom = from k.left base s f

  -- the 64-bit size
  abbrev large_d : ℕ → F → ℕ → List ℕ → Res Header F L
  large_d kind g m cs = field_d k.left plain (λ large g' m' cs'. okay (header n kind large 16) g' m' cs') 8 0 g m cs

  large_descent : (kind : ℕ) → at + 8 ≤ length s → ltb end (at + 16) ≡ false →
      Then (HeadFrom (large_d kind) (at + 8)) ≡ Onto (pick (ltb (length s) (at + 16)) (Err halt.Ended) (checked_at at end kind (number_at 8 s (at + 8)) 16))
  unfolding on_head halted either
  large_descent kind there t = at_length (lt_or_ge (length s) (at + 16))
    where
      at_length : (length s < at + 16) ⊎ (at + 16 ≤ length s) →
          Then (HeadFrom (large_d kind) (at + 8)) ≡ Onto (pick (ltb (length s) (at + 16)) (Err halt.Ended) (checked_at at end kind (number_at 8 s (at + 8)) 16))
      at_length (inl h) =
          ap Then (field_ends_lem k.left base s f _ 8 (at + 8) there (omega arith)) ∙ ap Onto (sym (pick_yes (ltb (length s) (at + 16)) _ _ (lt-ltb _ _ h)))
      at_length (inr h) =
          let q : at + 8 + 8 ≡ at + 16 = omega arith in
          ap Then (field_there k.left base s f _ 8 (at + 8) there (omega arith))
          ∙ ap (from k.left base s f (faults_d (header n kind (number_at 8 s (at + 8)) 16))) q
          ∙ checked_descent kind (number_at 8 s (at + 8)) 16
          ∙ ap Onto (sym (pick_no (ltb (length s) (at + 16)) _ _ (le-ltb _ _ h)))

  -- size and type are read
  sized_descent : (size kind : ℕ) → at + 8 ≤ length s →
      Then (HeadFrom (sized_d k.left k.end n size kind) (at + 8)) ≡ Onto (pick (eqb size 1) (large_at s at end kind) (checked_at at end kind size 8))
  unfolding sized_d large_at on_head halted either
  sized_descent size kind there =
      pick_both (eqb size 1) Then Onto _ _ _ _
      (ap Then (unless_one (ltb k.end (n + 16)) 5 n (λ x. fail x (k.left f) (base + (at + 8))) (HeadFrom (large_d kind) (at + 8))
      ∙ ap (λ (t : Bool). pick t (fail (refusal 5 n) (k.left f) (base + (at + 8))) (HeadFrom (large_d kind) (at + 8))) (past_end 16))
      ∙ pick_with (ltb end (at + 16)) Then Onto _ _ _ _ (λ e. refl) (λ e. large_descent kind there e))
      (checked_descent kind size 8)

  -- size and type
  abbrev kind_d : ℕ → F → ℕ → List ℕ → Res Header F L
  kind_d size g m cs = field_d k.left plain (λ kind g' m' cs'. sized_d k.left k.end n size kind g' m' cs') 4 0 g m cs

  abbrev size_d : F → ℕ → List ℕ → Res Header F L
  size_d g m cs = field_d k.left plain kind_d 4 0 g m cs

  fields_there : at + 8 ≤ length s → HeadFrom size_d at ≡ HeadFrom (sized_d k.left k.end n (number_at 4 s at) (number_at 4 s (at + 4))) (at + 8)
  fields_there h =
      let q : at + 4 + 4 ≡ at + 8 = omega arith in
      field_there k.left base s f kind_d 4 at here (omega arith)
      ∙ field_there k.left base s f _ 4 (at + 4) (omega arith) (omega arith)
      ∙ ap (HeadFrom (sized_d k.left k.end n (number_at 4 s at) (number_at 4 s (at + 4)))) q

  fields_end : length s < at + 8 → HeadFrom size_d at ≡ ended k.left base s f
  fields_end h = at_length (lt_or_ge (length s) (at + 4))
    where
      at_length : (length s < at + 4) ⊎ (at + 4 ≤ length s) → HeadFrom size_d at ≡ ended k.left base s f
      at_length (inl l) = field_ends_lem k.left base s f kind_d 4 at here l
      at_length (inr l) = field_there k.left base s f kind_d 4 at here l ∙ field_ends_lem k.left base s f _ 4 (at + 4) l (omega arith)

  -- a header whose first byte is there
  head_fields : at < length s → HeadFrom (head_d k.left k.end) at ≡ unless (under_eight k.end n) (λ x. fail x (k.left f) (suc n)) (HeadFrom size_d at)
  unfolding head_d field_d
  head_fields h =
      let b : ℕ = get_or s at 0 in
      let q : b ≡ 0 * 256 + b = omega arith in
      let worse : Refusal → Res Header F L = λ (x : Refusal). fail x (k.left f) (suc n) in
      ap (head_d k.left k.end f n) (drop-cons s at 0 h)
      ∙ ap (λ (v : ℕ). unless (under_eight k.end n) worse (field_d k.left plain kind_d 3 v f (suc n) (drop (suc at) s))) q
      ∙ ap (λ (l : List ℕ). unless (under_eight k.end n) worse (size_d f n l)) (sym (drop-cons s at 0 h))

  box_there : at < length s → box_d k body_d f n (drop at s) ≡ Onto (head_at s at end)
  unfolding box_d head_at on_head halted either
  box_there h =
      let q : suc n ≡ base + (at + 1) = omega arith in
      ap Then (head_fields h
      ∙ unless_one (ltb k.end (n + 8)) 5 n (λ x. fail x (k.left f) (suc n)) (HeadFrom size_d at)
      ∙ ap (λ (t : Bool). pick t (fail (refusal 5 n) (k.left f) (suc n)) (HeadFrom size_d at)) (past_end 8))
      ∙ pick_with (ltb end (at + 8)) Then Onto _ _ _ _ (λ e. ap (fail (refusal 5 n) (k.left f)) q) (λ e. at_length (lt_or_ge (length s) (at + 8)))
      ∙ ap Onto (sym (pick_no (leb (length s) at) _ _ (lt-leb _ _ h)))
    where
      at_length : (length s < at + 8) ⊎ (at + 8 ≤ length s) → Then (HeadFrom size_d at)
          ≡ Onto (pick (ltb (length s) (at + 8)) (Err halt.Ended)
          (pick (eqb (number_at 4 s at) 1) (large_at s at end (number_at 4 s (at + 4))) (checked_at at end (number_at 4 s (at + 4)) (number_at 4 s at) 8)))
      at_length (inl l) = ap Then (fields_end l) ∙ ap Onto (sym (pick_yes (ltb (length s) (at + 8)) _ _ (lt-ltb _ _ l)))
      at_length (inr l) =
          ap Then (fields_there l)
          ∙ sized_descent (number_at 4 s at) (number_at 4 s (at + 4)) l
          ∙ ap Onto (sym (pick_no (ltb (length s) (at + 8)) _ _ (le-ltb _ _ l)))

  pub box_descent : box_d k body_d f n (drop at s) ≡ Onto (head_at s at end)
  unfolding box_d head_d head_at on_head halted either
  box_descent = at_length (lt_or_ge at (length s))
    where
      at_length : (at < length s) ⊎ (length s ≤ at) → box_d k body_d f (base + at) (drop at s) ≡ Onto (head_at s at end)
      at_length (inl h) = box_there h
      at_length (inr h) =
          let e : at ≡ length s = omega arith in
          ap (box_d k body_d f (base + at)) (drop_of_length-le s h) ∙ ap (λ (m : ℕ). cut (k.left f) (base + m)) e
          ∙ ap Onto (sym (pick_yes (leb (length s) at) _ _ (le-leb _ _ h)))
