-- What was read, taken apart: a field, a box, an index, an inner index, the material. And that more bytes after a box change nothing.
use Prim.Native.Nat.{ℕ, ◌+◌, ◌-◌, ◌≤◌, ◌<◌}
use mathlib.Core.Path.{◌≡◌, refl, sym, ap, ◌∙◌, subst}
use mathlib.Core.List.{List, ◌++◌}
use mathlib.Core.Option.{Option, some, none, some-injective}
use mathlib.Core.Bool.{Bool, true, false}
use mathlib.Core.Logic.{◌⊎◌, inl, inr}
use native.Mathlib.Omega.{arith}
use lib.Dec.{eqb, ltb}
use lib.ListN.{length, take, drop, length-append, length-drop, take-append-drop}
use lib.Seq.{length-take-le, take-append-le, drop-append-le, drop-drop}
use borrow.Author.Tests.{eqb-true, ltb-true, ltb-false, lt-ltb, le-ltb}
use Rattle.basics.specs.Choose.{pick, and_then}
use Rattle.basics.specs.Bytes.{number}
use Rattle.basics.proofs.Picks.{lt_or_ge, pick_no, pick_both, pick_if}
use Rattle.basics.proofs.Options.{then_inv, pick_some, pick_else}
use Rattle.basics.proofs.Tests.{and_both}
use Rattle.segment.specs.Constants.{sidx}
use Rattle.segment.specs.Boxes.{Field, field, Box, box_of, first_box, sizes, durations, sidx_index}
use Rattle.segment.specs.Tree.{Opened, open_index, boxes_of_gap, material, suits_entry, inner_index}

-- what follows an answer
pub then_goes : {A B : Type 0} (o : Option A) (k : A → Option B) (a : A) → o ≡ some a → and_then o k ≡ k a
unfolding and_then
then_goes o k a e = rw e

-- A field where there are enough bytes, and where there are not; and one that was read.
pub field_some : (m : ℕ) (xs : List ℕ) → m ≤ length xs → field m xs ≡ some (record { value = number (take m xs); rest = drop m xs })
unfolding field
field_some m xs h = pick_no (ltb (length xs) m) none _ (le-ltb (length xs) m h)

pub field_enough : {X : Type 0} (m : ℕ) (xs : List ℕ) (k : ℕ → List ℕ → Option X) → m ≤ length xs →
    and_then (field m xs) (λ v. k v.value v.rest) ≡ k (number (take m xs)) (drop m xs)
field_enough m xs k l = then_goes (field m xs) _ _ (field_some m xs l)

pub field_none : {X : Type 0} (m : ℕ) (xs : List ℕ) (k : Field → Option X) → length xs < m → and_then (field m xs) k ≡ none
unfolding field and_then pick
field_none m xs k l = rw (lt-ltb (length xs) m l)

pub field_says : (width : ℕ) (xs : List ℕ) (f : Field) → field width xs ≡ some f → (f.value ≡ number (take width xs)) × (f.rest ≡ drop width xs) × (width ≤ length xs)
unfolding field
field_says width xs f e =
    let (enough, said) = pick_else _ _ f e in
    let same = some-injective _ _ said in
    (ap (λ (g : Field). g.value) (sym same), ap (λ (g : Field). g.rest) (sym same), ltb-false (length xs) width enough)

pub field_rest : (width : ℕ) (xs : List ℕ) (f : Field) → field width xs ≡ some f → (width ≤ length xs) × (length f.rest ≡ length xs - width)
field_rest width xs f e = let (value, rest, long) = field_says width xs f e in (long, ap length rest ∙ length-drop width xs)

-- What a header says: size, type, and its own length.
pub record Start : Type 0 where
  pub size : ℕ
  pub kind : ℕ
  pub head : ℕ

-- the numbers that a header spells: size and type of 32 bits, and the size of 64 bits after them
abbrev pub size4 : List ℕ → ℕ
size4 bs = number (take 4 bs)

abbrev pub kind4 : List ℕ → ℕ
kind4 bs = number (take 4 (drop 4 bs))

abbrev pub size8 : List ℕ → ℕ
size8 bs = number (take 8 (drop 8 bs))

abbrev pub short : List ℕ → Start
short bs = record { size = size4 bs; kind = kind4 bs; head = 8 }

abbrev pub long : List ℕ → Start
long bs = record { size = size8 bs; kind = kind4 bs; head = 16 }

-- the header that bytes start with
unfoldable pub start : List ℕ → Option Start
start bs = pick (ltb (length bs) 8) none (pick (eqb (size4 bs) 1) (pick (ltb (length bs) 16) none (some (long bs))) (some (short bs)))

-- the box of a header
abbrev pub box_at : List ℕ → Start → Option Box
box_at xs t = box_of t.head t.size t.kind (drop t.head xs)

-- from the type on
abbrev typed : ℕ → ℕ → List ℕ → Option Box
typed size kind xs = pick (eqb size 1) (and_then (field 8 xs) (λ more. box_of 16 more.value kind more.rest)) (box_of 8 size kind xs)

first_typed : (xs : List ℕ) → 8 ≤ length xs → first_box xs ≡ typed (size4 xs) (kind4 xs) (drop 8 xs)
unfolding first_box
first_typed xs l =
    field_enough 4 xs (λ size ys. and_then (field 4 ys) (λ kind. typed size kind.value kind.rest)) (omega arith)
    ∙ field_enough 4 (drop 4 xs) (λ kind ys. typed (size4 xs) kind ys) (simp length-drop (omega arith))
    ∙ ap (λ zs. typed (size4 xs) (kind4 xs) zs) (drop-drop 4 4 xs)

first_few : (xs : List ℕ) → length xs < 8 → first_box xs ≡ none
unfolding first_box
first_few xs l = at (lt_or_ge (length xs) 4)
  where
    at : (length xs < 4) ⊎ (4 ≤ length xs) → first_box xs ≡ none
    at (inl h) = field_none 4 xs _ h
    at (inr h) =
        field_enough 4 xs (λ size ys. and_then (field 4 ys) (λ kind. typed size kind.value kind.rest)) h
        ∙ field_none 4 (drop 4 xs) _ (simp length-drop (omega arith))

-- the size of 64 bits
first_large : (xs : List ℕ) (kind : ℕ) → 16 ≤ length xs →
    and_then (field 8 (drop 8 xs)) (λ more. box_of 16 more.value kind more.rest) ≡ box_of 16 (size8 xs) kind (drop 16 xs)
first_large xs kind l = field_enough 8 (drop 8 xs) (λ size ys. box_of 16 size kind ys) (simp length-drop (omega arith)) ∙ ap (λ zs. box_of 16 (size8 xs) kind zs) (drop-drop 8 8 xs)

pub first_start : (xs : List ℕ) → first_box xs ≡ and_then (start xs) (box_at xs)
unfolding start and_then
first_start xs =
    sym (pick_if (ltb (length xs) 8) (λ o. and_then o (box_at xs)) _ _ (first_box xs)
    (λ few. sym (first_few xs (ltb-true _ _ few)))
    (λ enough.
    let l : 8 ≤ length xs = ltb-false _ _ enough in
    sym (first_typed xs l
    ∙ pick_both (eqb (size4 xs) 1) (λ o. o) (λ o. and_then o (box_at xs)) _ _ _ _
    (sym (pick_if (ltb (length xs) 16) (λ o. and_then o (box_at xs)) _ _ _
    (λ few. sym (field_none 8 (drop 8 xs) _ (let h : length xs < 16 = ltb-true _ _ few in simp length-drop (omega arith))))
    (λ enough'. sym (first_large xs (kind4 xs) (ltb-false _ _ enough')))))
    refl)))

-- A header is within the bytes, and is the same where more bytes follow.
pub start_fits : (xs : List ℕ) (t : Start) → start xs ≡ some t → (8 ≤ t.head) × (t.head ≤ length xs)
unfolding start pick
start_fits xs t e =
    let (enough, e') = pick_else (ltb (length xs) 8) _ t e in
    let l : 8 ≤ length xs = ltb-false _ _ enough in
    at l (eqb (size4 xs) 1) e'
  where
    at : 8 ≤ length xs → (b : Bool) → pick b (pick (ltb (length xs) 16) none (some (long xs))) (some (short xs)) ≡ some t → (8 ≤ t.head) × (t.head ≤ length xs)
    at l true q =
        let (enough, q') = pick_else (ltb (length xs) 16) _ t q in
        let m : 16 ≤ length xs = ltb-false _ _ enough in
        let w : long xs ≡ t = cc in
        rw (← w) (omega arith)
    at l false q = let w : short xs ≡ t = cc in rw (← w) (omega arith)

start_longer : (xs more : List ℕ) (t : Start) → start xs ≡ some t → start (xs ++ more) ≡ some t
unfolding start pick
start_longer xs more t e =
    let (enough, e') = pick_else (ltb (length xs) 8) _ t e in
    let l : 8 ≤ length xs = ltb-false _ _ enough in
    let both = length-append xs more in
    let d4 : take 4 (drop 4 (xs ++ more)) ≡ take 4 (drop 4 xs) = rw (drop-append-le 4 xs more (omega arith)) (take-append-le 4 (drop 4 xs) more (simp length-drop (omega arith))) in
    rw (le-ltb (length (xs ++ more)) 8 (omega arith), take-append-le 4 xs more (omega arith), d4) (at both (eqb (size4 xs) 1) e')
  where
    at : length (xs ++ more) ≡ length xs + length more → (b : Bool) → pick b (pick (ltb (length xs) 16) none (some (long xs))) (some (short xs)) ≡ some t →
        pick b (pick (ltb (length (xs ++ more)) 16) none (some (record { size = size8 (xs ++ more); kind = kind4 xs; head = 16 }))) (some (short xs)) ≡ some t
    at both true q =
        let (enough, q') = pick_else (ltb (length xs) 16) _ t q in
        let m : 16 ≤ length xs = ltb-false _ _ enough in
        let d8 : take 8 (drop 8 (xs ++ more)) ≡ take 8 (drop 8 xs) = rw (drop-append-le 8 xs more (omega arith)) (take-append-le 8 (drop 8 xs) more (simp length-drop (omega arith))) in
        rw (le-ltb (length (xs ++ more)) 16 (omega arith), d8) q'
    at both false q = q

-- What a box is of the bytes that start with it: it ends within them, its header has 8 bytes or more, header and body are all of it, and
-- its body follows its header.
pub record FirstBox (xs : List ℕ) (b : Box) : Type 0 where
  pub fits : b.size ≤ length xs
  pub eight : 8 ≤ b.size - length b.body
  pub bodied : b.size - length b.body + length b.body ≡ b.size
  pub inside : drop (b.size - length b.body) xs ≡ b.body ++ drop b.size xs

-- bytes after a header are a body and what follows
pub body_rest : (xs : List ℕ) (hd size : ℕ) → hd ≤ size → drop hd xs ≡ take (size - hd) (drop hd xs) ++ drop size xs
body_rest xs hd size l =
    let q : hd + (size - hd) ≡ size = omega arith in
    let d : drop (size - hd) (drop hd xs) ≡ drop size xs = drop-drop (size - hd) hd xs ∙ ap (λ m. drop m xs) q in
    sym (take-append-drop (size - hd) (drop hd xs)) ∙ ap (λ zs. take (size - hd) (drop hd xs) ++ zs) d

-- A box that was read: what it is of the bytes, and that it is the same where more bytes follow.
module _ (hd size kind : ℕ) (xs : List ℕ) (b : Box) (e : box_of hd size kind (drop hd xs) ≡ some b) (eight : 8 ≤ hd) (fits : hd ≤ length xs) where
  first_of : FirstBox xs b
  unfolding box_of
  first_of =
      let (ge, e') = pick_else (ltb size hd) _ b e in
      let (le, e'') = pick_else (ltb (length (drop hd xs)) (size - hd)) _ b e' in
      let w : record { kind = kind; size = size; body = take (size - hd) (drop hd xs) } ≡ b = cc in
      let l : hd ≤ size = ltb-false _ _ ge in
      let m : size - hd ≤ length (drop hd xs) = ltb-false _ _ le in
      let n : length (take (size - hd) (drop hd xs)) ≡ size - hd = length-take-le (size - hd) (drop hd xs) m in
      let d : length (drop hd xs) ≡ length xs - hd = length-drop hd xs in
      let q : size - length (take (size - hd) (drop hd xs)) ≡ hd = omega arith in
      rw (← w) (record { fits = omega arith; eight = omega arith; bodied = omega arith; inside = rw q (body_rest xs hd size l) })

  of_longer : (more : List ℕ) → box_of hd size kind (drop hd (xs ++ more)) ≡ some b
  unfolding box_of
  of_longer more =
      let (headed, e') = pick_else _ _ b e in
      let (enough, said) = pick_else _ _ b e' in
      let m : size - hd ≤ length (drop hd xs) = ltb-false _ _ enough in
      let both = length-append (drop hd xs) more in
      rw (drop-append-le hd xs more fits)
      (pick_no (ltb size hd) _ _ headed
      ∙ pick_no (ltb (length (drop hd xs ++ more)) (size - hd)) _ _ (le-ltb (length (drop hd xs ++ more)) (size - hd) (omega arith))
      ∙ ap (λ (body : List ℕ). some (record { kind = kind; size = size; body = body })) (take-append-le (size - hd) (drop hd xs) more m)
      ∙ said)

pub first_box_lem : (xs : List ℕ) (b : Box) → first_box xs ≡ some b → FirstBox xs b
first_box_lem xs b e =
    let (t, s, e') = then_inv (start xs) (box_at xs) b (sym (first_start xs) ∙ e) in
    let (eight, fits) = start_fits xs t s in
    first_of t.head t.size t.kind xs b e' eight fits

pub box_longer : (xs more : List ℕ) (b : Box) → first_box xs ≡ some b → first_box (xs ++ more) ≡ some b
box_longer xs more b e =
    let (t, s, e') = then_inv (start xs) (box_at xs) b (sym (first_start xs) ∙ e) in
    let (eight, fits) = start_fits xs t s in
    first_start (xs ++ more) ∙ then_goes (start (xs ++ more)) (box_at (xs ++ more)) t (start_longer xs more t s) ∙ of_longer t.head t.size t.kind xs b e' eight fits more

-- An index that was opened: its box, what that says, and what follows it.
pub opened_box : (b : Box) (xs : List ℕ) (o : Opened) → open_index b xs ≡ some o → (b ≡ o.box) × (sidx_index o.box.body ≡ some o.index) × (drop o.box.size xs ≡ o.rest)
unfolding open_index
opened_box b xs o e =
    let (i, says, same) = then_inv _ _ o e in
    subst (λ (p : Opened). (b ≡ p.box) × (sidx_index p.box.body ≡ some p.index) × (drop p.box.size xs ≡ p.rest)) (some-injective _ _ same) (refl, says, refl)

-- Rule 2. The material starts at the end of the top index plus its first offset, is as long as the sum of its entry sizes, and ends the
-- segment: `rest` is what follows the box of the top index. The gap before it is whole boxes that are skipped.
pub material_place : (top : Opened) (ys : List ℕ) → material top ≡ some ys →
    (length top.rest ≡ top.index.offset + sizes top.index.entries) × (drop top.index.offset top.rest ≡ ys)
    × ((gap : List Box) × (boxes_of_gap (take top.index.offset top.rest) ≡ some gap))
unfolding material
material_place top ys e =
    let (fits, e') = pick_some _ _ ys e in
    let (gap, skipped, at) = then_inv _ _ ys e' in
    (eqb-true _ _ fits, some-injective _ _ at, (gap, skipped))

-- An inner index: the first box of its entry, and all of rule 4.
pub record Inner (id scale start duration : ℕ) (xs : List ℕ) (o : Opened) : Type 0 where
  pub there : first_box xs ≡ some o.box
  pub kind : o.box.kind ≡ sidx
  pub says : sidx_index o.box.body ≡ some o.index
  pub rest : drop o.box.size xs ≡ o.rest
  pub same_id : o.index.id ≡ id
  pub same_scale : o.index.scale ≡ scale
  pub no_offset : o.index.offset ≡ 0
  pub starts : o.index.time ≡ start
  pub lasts : durations o.index.entries ≡ duration
  pub fills : o.box.size + sizes o.index.entries ≡ length xs

pub inner_says : (id scale start duration : ℕ) (xs : List ℕ) (inner : Opened) → inner_index id scale start duration xs ≡ some inner → Inner id scale start duration xs inner
unfolding inner_index suits_entry
inner_says id scale start duration xs inner e =
    let (b, e1, e2) = then_inv _ _ inner e in
    let (kind, e3) = pick_some _ _ inner e2 in
    let (o, e4, e5) = then_inv _ _ inner e3 in
    let (suits, e6) = pick_some _ _ inner e5 in
    let (same, says, rest) = opened_box b xs inner (e4 ∙ e6) in
    let one : o ≡ inner = some-injective _ _ e6 in
    let (a5, b6) = and_both _ _ (rw one at suits) in
    let (a4, b5) = and_both _ _ a5 in
    let (a3, b4) = and_both _ _ a4 in
    let (a2, b3) = and_both _ _ a3 in
    let (b1, b2) = and_both _ _ a2 in
    record {
      there = e1 ∙ ap some same;
      kind = eqb-true _ _ (rw same at kind);
      says = says;
      rest = rest;
      same_id = eqb-true _ _ b1;
      same_scale = eqb-true _ _ b2;
      no_offset = eqb-true _ _ b3;
      starts = eqb-true _ _ b4;
      lasts = eqb-true _ _ b5;
      fills = eqb-true _ _ b6;
    }
