-- Rules 1, 5 and 6 as facts of the tree, whatever the bytes: what stands where in what is accepted, said by places.
use Prim.Native.Nat.{ℕ, zero, suc, ◌+◌, ◌-◌, ◌*◌, ◌/◌, ◌%◌, ◌≤◌, ◌<◌}
use mathlib.Core.Path.{◌≡◌, refl, sym, ap, ◌∙◌, subst}
use mathlib.Core.List.{List, [], ◌∷◌, ◌++◌}
use mathlib.Core.Option.{some, some-injective, none-ne-some}
use mathlib.Core.Bool.{Bool, true, false, true≢false}
use mathlib.Core.Logic.{◌≢◌}
use native.Mathlib.Omega.{arith}
use lib.Dec.{eqb, ltb}
use lib.ListN.{length, take, drop, get_elem?, length-drop}
use lib.Seq.{drop-drop}
use borrow.Author.Tests.{eqb-true, eqb-false, eq-eqb, ne_eqb, ltb-false, le-ltb}
use Rattle.basics.specs.Choose.{pick, and_then}
use Rattle.basics.specs.Bytes.{number}
use Rattle.basics.proofs.Picks.{pick_yes, pick_no}
use Rattle.basics.proofs.Options.{then_inv, pick_some, pick_else}
use Rattle.segment.specs.Constants.{styp, sidx, moof, mdat, tfhd, tfdt, tfad}
use Rattle.segment.specs.Boxes.{except, among, Field, field, words, Box, first_box, boxes, top_kinds, only, without, styp_brands, tfhd_track, tfdt_time}
use Rattle.segment.specs.Leaves.{moof_first, boxes_of_leaf, head_and_time, traf_times, moof_times, gather, non_empty, leaf_times, never_fall}
use Rattle.segment.specs.Tree.{Opened, open_index, first_index, top_index, boxes_of_gap, material, first_time}
use Rattle.segment.specs.Parts.{At, One, Stands}
use Rattle.segment.proofs.Said.{field_says, first_box_lem, opened_box, material_place}

-- Tests that are choices.
neither : (t c : Bool) → pick t true c ≡ false → (t ≡ false) × (c ≡ false)
unfolding pick
neither true c e = absurd (true≢false e)
neither false c e = (refl, e)

pub but_not : (t c : Bool) → pick t false c ≡ true → (t ≡ false) × (c ≡ true)
unfolding pick
but_not true c e = absurd (true≢false (sym e))
but_not false c e = (refl, e)

-- the one at a place, and what is known of it
at_first : {A : Type 0} (K : A → Type 0) (a b : A) (xs : List A) → At (a ∷ xs) 0 b → K a → K b
at_first K a b xs there k = subst K (some-injective _ _ there) k

-- A number that is not in a list is none of it; one that is in it has a place in it.
among_none : (n : ℕ) (ms : List ℕ) → among n ms ≡ false → (j m : ℕ) → At ms j m → n ≢ m
unfolding among
among_none n [] e j m there same = none-ne-some m there
among_none n (k ∷ ms) e zero m there same = eqb-false n k (neither _ _ e).0 (same ∙ sym (some-injective _ _ there))
among_none n (k ∷ ms) e (suc j) m there same = among_none n ms (neither _ _ e).1 j m there same

among_at : (n : ℕ) (ms : List ℕ) → among n ms ≡ true → (j : ℕ) × At ms j n
unfolding among pick
among_at n [] e = absurd (true≢false (sym e))
among_at n (k ∷ ms) e = at (eqb n k) refl e (among_at n ms)
  where
    at : (t : Bool) → eqb n k ≡ t → pick t true (among n ms) ≡ true → (among n ms ≡ true → (j : ℕ) × At ms j n) → (j : ℕ) × At (k ∷ ms) j n
    at true is e' more = (0, ap some (sym (eqb-true n k is)))
    at false is e' more = let (j, there) = more e' in (suc j, there)

among_has : (n : ℕ) (ms : List ℕ) (j : ℕ) → At ms j n → among n ms ≡ true
unfolding among pick
among_has n [] j there = absurd (none-ne-some n there)
among_has n (k ∷ ms) zero there = rw (eq-eqb n k (sym (some-injective _ _ there)))
among_has n (k ∷ ms) (suc j) there = at (eqb n k) (among_has n ms j there)
  where
    at : (t : Bool) → among n ms ≡ true → pick t true (among n ms) ≡ true
    at true e = refl
    at false e = e

-- a box is of none of these types
abbrev pub NoneOf : List ℕ → Box → Type 0
NoneOf kinds b = (j k : ℕ) → At kinds j k → b.kind ≢ k

without_at : (kinds : List ℕ) (bs : List Box) → without kinds bs ≡ true → (i : ℕ) (b : Box) → At bs i b → NoneOf kinds b
unfolding without
without_at kinds [] e i b there = absurd (none-ne-some b there)
without_at kinds (c ∷ bs) e zero b there = at_first (NoneOf kinds) c b bs there (among_none c.kind kinds (but_not _ _ e).0)
without_at kinds (c ∷ bs) e (suc i) b there = without_at kinds bs (but_not _ _ e).1 i b there

without_holds : (kinds : List ℕ) (bs : List Box) → ((i : ℕ) (b : Box) → At bs i b → among b.kind kinds ≡ false) → without kinds bs ≡ true
unfolding without
without_holds kinds [] h = refl
without_holds kinds (c ∷ bs) h = pick_no (among c.kind kinds) _ _ (h 0 c refl) ∙ without_holds kinds bs (λ i b there. h (suc i) b there)

-- Rule 5. In a leaf a `moof` stands before any `mdat`.
abbrev pub MoofBefore : List Box → ℕ → Type 0
MoofBefore bs j = (i : ℕ) × (a : Box) × (i < j) × At bs i a × (a.kind ≡ moof)

moof_before : (bs : List Box) → moof_first bs ≡ true → (j : ℕ) (b : Box) → At bs j b → b.kind ≡ mdat → MoofBefore bs j
unfolding moof_first pick
moof_before [] e j b there is = absurd (none-ne-some b there)
moof_before (c ∷ bs) e zero b there is =
    let media : c.kind ≡ mdat = ap (λ (a : Box). a.kind) (some-injective _ _ there) ∙ is in
    absurd (at (eqb c.kind moof) refl e media)
  where
    at : (t : Bool) → eqb c.kind moof ≡ t → pick t true (pick (eqb c.kind mdat) false (moof_first bs)) ≡ true → c.kind ≡ mdat → ⊥
    at true is' e' media = let other = eqb-true c.kind moof is' in omega arith
    at false is' e' media = eqb-false c.kind mdat (but_not _ _ e').0 media
moof_before (c ∷ bs) e (suc j) b there is = at (eqb c.kind moof) refl e (λ e'. moof_before bs e' j b there is)
  where
    at : (t : Bool) → eqb c.kind moof ≡ t → pick t true (pick (eqb c.kind mdat) false (moof_first bs)) ≡ true → (moof_first bs ≡ true → MoofBefore bs j) →
        MoofBefore (c ∷ bs) (suc j)
    at true is' e' more = (0, c, omega arith, refl, eqb-true c.kind moof is')
    at false is' e' more = let (i, a, before, there', is'') = more (but_not (eqb c.kind mdat) (moof_first bs) e').1 in (suc i, a, omega arith, there', is'')

moof_first_lem : (bs : List Box) → ((j : ℕ) (b : Box) → At bs j b → b.kind ≡ mdat → MoofBefore bs j) → moof_first bs ≡ true
unfolding moof_first pick
moof_first_lem [] h = refl
moof_first_lem (c ∷ bs) h = at (eqb c.kind moof) (eqb c.kind mdat) refl refl (moof_first_lem bs)
  where
    later : c.kind ≢ moof → (j : ℕ) (b : Box) → At bs j b → MoofBefore (c ∷ bs) (suc j) → MoofBefore bs j
    later not-c j b there (zero, a, before, there', is) = absurd (not-c (at_first (λ (d : Box). d.kind ≡ moof → c.kind ≡ moof) c a bs there' (λ k. k) is))
    later not-c j b there (suc i, a, before, there', is) = (i, a, omega arith, there', is)

    at : (t u : Bool) → eqb c.kind moof ≡ t → eqb c.kind mdat ≡ u →
        (((j : ℕ) (b : Box) → At bs j b → b.kind ≡ mdat → MoofBefore bs j) → moof_first bs ≡ true) → pick t true (pick u false (moof_first bs)) ≡ true
    at true u is is' more = refl
    at false true is is' more = let (i, a, before, there, k) = h 0 c refl (eqb-true c.kind mdat is') in absurd (omega arith)
    at false false is is' more = more (λ j b there k. later (eqb-false c.kind moof is) j b there (h (suc j) b there k))

-- Rule 5, said by places: of a leaf's boxes none is a `styp` or a `sidx`, and any `mdat` has a `moof` before it.
pub record LeafHolds (bs : List Box) : Type 0 where
  pub none : (i : ℕ) (b : Box) → At bs i b → (b.kind ≢ styp) × (b.kind ≢ sidx)
  pub before : (j : ℕ) (b : Box) → At bs j b → b.kind ≡ mdat → MoofBefore bs j

pub leaf_holds : (xs : List ℕ) (bs : List Box) → boxes_of_leaf xs ≡ some bs → (boxes xs ≡ some bs) × LeafHolds bs
unfolding boxes_of_leaf
leaf_holds xs bs e =
    let (cs, whole, e1) = then_inv (boxes xs) _ bs e in
    let (clean, e2) = pick_some _ _ bs e1 in
    let (led, e3) = pick_some _ _ bs e2 in
    let same : cs ≡ bs = some-injective _ _ e3 in (
      whole ∙ e3,
      subst LeafHolds same
          record {
            none = λ i b there. let others = without_at (styp ∷ sidx ∷ []) cs clean i b there in (others 0 styp refl, others 1 sidx refl);
            before = moof_before cs led;
          },
    )

-- and whole boxes of which that holds are a leaf's
pub leaf_accepts : (xs : List ℕ) (bs : List Box) → boxes xs ≡ some bs → LeafHolds bs → boxes_of_leaf xs ≡ some bs
unfolding boxes_of_leaf and_then pick among
leaf_accepts xs bs whole holds =
    rw (whole, without_holds (styp ∷ sidx ∷ []) bs (λ i b there. let (a, c) = holds.none i b there in rw (ne_eqb b.kind styp a, ne_eqb b.kind sidx c)), moof_first_lem bs holds.before)

-- Where a list of boxes has none, one, or two of these types.
only_none : (kinds : List ℕ) (bs : List Box) → only kinds bs ≡ [] → (i : ℕ) (b : Box) → At bs i b → among b.kind kinds ≢ true
unfolding only pick
only_none kinds [] e i b there is = none-ne-some b there
only_none kinds (c ∷ bs) e i b there is = at (among c.kind kinds) refl e i there (only_none kinds bs)
  where
    at : (t : Bool) → among c.kind kinds ≡ t → pick t (c ∷ []) [] ++ only kinds bs ≡ [] → (i : ℕ) → At (c ∷ bs) i b →
        (only kinds bs ≡ [] → (i : ℕ) (b : Box) → At bs i b → among b.kind kinds ≢ true) → ⊥
    at true k e' i there more = let z : ◌≡◌ {A = ℕ} 0 1 = cc in absurd (omega arith)
    at false k e' zero there more = at_first (λ (a : Box). among a.kind kinds ≡ true → ⊥) c b bs there (λ k'. true≢false (sym k' ∙ k)) is
    at false k e' (suc i) there more = more e' i b there is

abbrev OnlyAt : List ℕ → List Box → ℕ → Type 0
OnlyAt kinds bs p = (i : ℕ) (b : Box) → At bs i b → among b.kind kinds ≡ true → i ≡ p

abbrev OnlyOne : List ℕ → List Box → Box → Type 0
OnlyOne kinds bs h = (p : ℕ) × At bs p h × OnlyAt kinds bs p

only_one : (kinds : List ℕ) (bs : List Box) (h : Box) → only kinds bs ≡ h ∷ [] → OnlyOne kinds bs h
unfolding only pick
only_one kinds [] h e = let z : ◌≡◌ {A = ℕ} 0 1 = cc in absurd (omega arith)
only_one kinds (c ∷ bs) h e = at (among c.kind kinds) refl e (only_one kinds bs h)
  where
    first : only kinds bs ≡ [] → OnlyAt kinds (c ∷ bs) 0
    first gone zero b there k = refl
    first gone (suc i) b there k = absurd (only_none kinds bs gone i b there k)

    later : (p : ℕ) → among c.kind kinds ≡ false → OnlyAt kinds bs p → OnlyAt kinds (c ∷ bs) (suc p)
    later p k' others zero b there k = absurd (at_first (λ (a : Box). among a.kind kinds ≡ true → ⊥) c b bs there (λ k''. true≢false (sym k'' ∙ k')) k)
    later p k' others (suc i) b there k = ap suc (others i b there k)

    at : (t : Bool) → among c.kind kinds ≡ t → pick t (c ∷ []) [] ++ only kinds bs ≡ h ∷ [] → (only kinds bs ≡ h ∷ [] → OnlyOne kinds bs h) → OnlyOne kinds (c ∷ bs) h
    at true k e' more =
        let same : c ≡ h = cc in
        let gone : only kinds bs ≡ [] = cc in
        (0, ap some same, first gone)
    at false k e' more = let (p, there, others) = more e' in (suc p, there, later p k others)

abbrev OnlyTwo : List ℕ → List Box → Box → Box → Type 0
OnlyTwo kinds bs h d =
    (p : ℕ) × (q : ℕ) × (p < q) × At bs p h × At bs q d × ((i : ℕ) (b : Box) → At bs i b → among b.kind kinds ≡ true → i ≢ p → i ≡ q)

only_two : (kinds : List ℕ) (bs : List Box) (h d : Box) → only kinds bs ≡ h ∷ d ∷ [] → OnlyTwo kinds bs h d
unfolding only pick
only_two kinds [] h d e = let z : ◌≡◌ {A = ℕ} 0 1 = cc in absurd (omega arith)
only_two kinds (c ∷ bs) h d e = at (among c.kind kinds) refl e (only_two kinds bs h d)
  where
    first : (q : ℕ) → OnlyAt kinds bs q → (i : ℕ) (b : Box) → At (c ∷ bs) i b → among b.kind kinds ≡ true → i ≢ 0 → i ≡ suc q
    first q others zero b there k away = absurd (away refl)
    first q others (suc i) b there k away = ap suc (others i b there k)

    later : (p q : ℕ) → among c.kind kinds ≡ false → ((i : ℕ) (b : Box) → At bs i b → among b.kind kinds ≡ true → i ≢ p → i ≡ q) →
        (i : ℕ) (b : Box) → At (c ∷ bs) i b → among b.kind kinds ≡ true → i ≢ suc p → i ≡ suc q
    later p q k' others zero b there k away = absurd (at_first (λ (a : Box). among a.kind kinds ≡ true → ⊥) c b bs there (λ k''. true≢false (sym k'' ∙ k')) k)
    later p q k' others (suc i) b there k away = ap suc (others i b there k (λ same. away (ap suc same)))

    at : (t : Bool) → among c.kind kinds ≡ t → pick t (c ∷ []) [] ++ only kinds bs ≡ h ∷ d ∷ [] → (only kinds bs ≡ h ∷ d ∷ [] → OnlyTwo kinds bs h d) → OnlyTwo kinds (c ∷ bs) h d
    at true k e' more =
        let same : c ≡ h = cc in
        let one : only kinds bs ≡ d ∷ [] = cc in
        let (q, there, others) = only_one kinds bs d one in
        (0, suc q, omega arith, ap some same, there, first q others)
    at false k e' more = let (p, q, order, there, there', others) = more e' in (suc p, suc q, omega arith, there, there', later p q k others)

-- Rule 6, said by places: of a `traf`'s boxes one is a `tfhd`, one after it is a `tfdt`, and none is a `tfad`. The decode time of the
-- `tfdt` is what it gives, where the track of the `tfhd` is the reference track; else it gives none.
pub record TrafHolds (track : ℕ) (bs : List Box) (times : List ℕ) : Type 0 where
  pub head : One (λ (b : Box). b.kind ≡ tfhd) bs
  pub time : One (λ (b : Box). b.kind ≡ tfdt) bs
  pub order : head.place < time.place
  pub none : (i : ℕ) (b : Box) → At bs i b → b.kind ≢ tfad
  pub id : ℕ
  pub tells : tfhd_track head.item.body ≡ some id
  pub decoded : ℕ
  pub says : tfdt_time time.item.body ≡ some decoded
  pub counts : id ≡ track → times ≡ decoded ∷ []
  pub others : id ≢ track → times ≡ []

abbrev traf_kinds : List ℕ
traf_kinds = tfhd ∷ tfdt ∷ tfad ∷ []

HeadTime : ℕ → List Box → List ℕ → Type 0
HeadTime track cs times = (h : Box) × (d : Box) × (cs ≡ h ∷ d ∷ []) × (h.kind ≡ tfhd) × (d.kind ≡ tfdt)
    × ((id : ℕ) × (decoded : ℕ) × (tfhd_track h.body ≡ some id) × (tfdt_time d.body ≡ some decoded) × (pick (eqb id track) (decoded ∷ []) [] ≡ times))

head_and_time_lem : (track : ℕ) (cs : List Box) (times : List ℕ) → head_and_time track cs ≡ some times → HeadTime track cs times
unfolding head_and_time HeadTime
head_and_time_lem track [] times e = absurd (none-ne-some times e)
head_and_time_lem track (h ∷ []) times e = absurd (none-ne-some times e)
head_and_time_lem track (h ∷ d ∷ []) times e =
    let (a, e1) = pick_some _ _ times e in
    let (b, e2) = pick_some _ _ times e1 in
    let (id, tells, e3) = then_inv (tfhd_track h.body) _ times e2 in
    let (decoded, says, e4) = then_inv (tfdt_time d.body) _ times e3 in
    (h, d, refl, eqb-true _ _ a, eqb-true _ _ b, (id, decoded, tells, says, some-injective _ _ e4))
head_and_time_lem track (h ∷ d ∷ b ∷ bs) times e = absurd (none-ne-some times e)

-- two boxes at one place are one
same_kind : (bs : List Box) (i j : ℕ) (a b : Box) → At bs i a → At bs j b → i ≡ j → a.kind ≡ b.kind
same_kind bs i j a b there there' same =
    ap (λ (c : Box). c.kind) (some-injective a b (sym there ∙ ap (λ (k : ℕ). get_elem? bs k) same ∙ there'))

apart : (n a b : ℕ) → n ≡ a → n ≡ b → a ≢ b → ⊥
apart n a b p q r = r (sym p ∙ q)

or_first : (i p q : ℕ) → (i ≢ p → i ≡ q) → i ≢ q → i ≡ p
or_first i p q h away = at (eqb i p) refl
  where
    at : (t : Bool) → eqb i p ≡ t → i ≡ p
    at true e = eqb-true i p e
    at false e = absurd (away (h (eqb-false i p e)))

pub traf_holds : (track : ℕ) (xs times : List ℕ) → traf_times track xs ≡ some times → (bs : List Box) × (boxes xs ≡ some bs) × TrafHolds track bs times
unfolding traf_times HeadTime
traf_holds track xs times e =
    let (bs, whole, e1) = then_inv (boxes xs) _ times e in
    let (h, d, two, is-head, is-time, (id, decoded, tells, says, given)) = head_and_time_lem track (only traf_kinds bs) times e1 in
    let (p, q, order, at_head, at-time, others) = only_two traf_kinds bs h d two in (
      bs,
      whole,
      record {
        head = record {
          place = p;
          item = h;
          there = at_head;
          has = is-head;
          only = λ i b there is.
              or_first i p q (others i b there (among_has b.kind traf_kinds 0 (ap some (sym is))))
              (λ same. apart b.kind tfhd tfdt is (same_kind bs i q b d there at-time same ∙ is-time) (omega arith));
        };
        time = record {
          place = q;
          item = d;
          there = at-time;
          has = is-time;
          only = λ i b there is.
              others i b there (among_has b.kind traf_kinds 1 (ap some (sym is))) (λ same. apart b.kind tfdt tfhd is (same_kind bs i p b h there at_head same ∙ is-head) (omega arith));
        };
        order = order;
        none = λ i b there is.
            apart b.kind tfad tfdt is
            (same_kind bs i q b d there at-time
            (others i b there (among_has b.kind traf_kinds 2 (ap some (sym is))) (λ same. apart b.kind tfad tfhd is (same_kind bs i p b h there at_head same ∙ is-head) (omega arith))) ∙ is-time)
            (omega arith);
        id = id;
        tells = tells;
        decoded = decoded;
        says = says;
        counts = λ same. sym given ∙ pick_yes (eqb id track) (decoded ∷ []) [] (eq-eqb id track same);
        others = λ differs. sym given ∙ pick_no (eqb id track) (decoded ∷ []) [] (ne_eqb id track differs);
      },
    )

-- Rule 6. Decode times never fall: of two places the later has no lower time. And times of which that holds are accepted.
abbrev pub NoFall : List ℕ → Type 0
NoFall ts = (i j s t : ℕ) → i ≤ j → At ts i s → At ts j t → s ≤ t

fall_floor : (last : ℕ) (ts : List ℕ) → never_fall last ts ≡ true → (j t : ℕ) → At ts j t → last ≤ t
unfolding never_fall
fall_floor last [] e j t there = absurd (none-ne-some t there)
fall_floor last (u ∷ ts) e zero t there =
    let same : u ≡ t = some-injective _ _ there in
    let low = ltb-false u last (but_not _ _ e).0 in
    omega arith
fall_floor last (u ∷ ts) e (suc j) t there =
    let (high, more) = but_not (ltb u last) (never_fall u ts) e in
    let low = ltb-false u last high in
    let up = fall_floor u ts more j t there in
    omega arith

pub never_falls : (last : ℕ) (ts : List ℕ) → never_fall last ts ≡ true → NoFall ts
unfolding never_fall
never_falls last [] e i j s t order there there' = absurd (none-ne-some s there)
never_falls last (u ∷ ts) e zero zero s t order there there' =
    let same : s ≡ t = sym (some-injective _ _ there) ∙ some-injective _ _ there' in
    omega arith
never_falls last (u ∷ ts) e zero (suc j) s t order there there' =
    let same : u ≡ s = some-injective _ _ there in
    let up = fall_floor u ts (but_not (ltb u last) (never_fall u ts) e).1 j t there' in
    omega arith
never_falls last (u ∷ ts) e (suc i) zero s t order there there' = absurd (omega arith)
never_falls last (u ∷ ts) e (suc i) (suc j) s t order there there' =
    never_falls u ts (but_not (ltb u last) (never_fall u ts) e).1 i j s t (omega arith) there there'

falls_never : (last : ℕ) (ts : List ℕ) → ((j t : ℕ) → At ts j t → last ≤ t) → NoFall ts → never_fall last ts ≡ true
unfolding never_fall
falls_never last [] floor h = refl
falls_never last (u ∷ ts) floor h =
    pick_no (ltb u last) _ _ (le-ltb u last (floor 0 u refl))
    ∙ falls_never u ts (λ j t there. h 0 (suc j) u t (omega arith) refl there) (λ i j s t order there there'. h (suc i) (suc j) s t (omega arith) there there')

pub times_fall_never : (ts : List ℕ) → (never_fall 0 ts ≡ true → NoFall ts) × (NoFall ts → never_fall 0 ts ≡ true)
times_fall_never ts = (never_falls 0 ts, falls_never 0 ts (λ j t there. omega arith))

-- Rule 6. A leaf has a first decode time.
pub leaf_timed : (track : ℕ) (xs ts : List ℕ) → leaf_times track xs ≡ some ts → (t : ℕ) × At ts 0 t × (first_time ts ≡ t)
unfolding leaf_times non_empty first_time
leaf_timed track xs ts e =
    let (bs, whole, e1) = then_inv (boxes_of_leaf xs) _ ts e in
    let (us, gathered, e2) = then_inv (gather moof (moof_times track) bs) non_empty ts e1 in
    at us e2
  where
    at : (us : List ℕ) → non_empty us ≡ some ts → (t : ℕ) × At ts 0 t × (first_time ts ≡ t)
    at [] e' = absurd (none-ne-some ts e')
    at (u ∷ us) e' = subst (λ (vs : List ℕ). (t : ℕ) × At vs 0 t × (first_time vs ≡ t)) (some-injective _ _ e') (u, refl, refl)

-- Rule 1. What a `styp` says: after the first 8 bytes of its body each 4 are a compatible brand, to its end.
word_next : (xs : List ℕ) (f : Field) (more : List ℕ) → f.value ≡ number (take 4 xs) → f.rest ≡ drop 4 xs →
    ((i w : ℕ) → At more i w → number (take 4 (drop (4 * i) f.rest)) ≡ w) → (i w : ℕ) → At (f.value ∷ more) i w → number (take 4 (drop (4 * i) xs)) ≡ w
word_next xs f more value rest h zero w there = sym value ∙ some-injective _ _ there
word_next xs f more value rest h (suc i) w there =
    let far : 4 + 4 * i ≡ 4 * suc i = omega arith in
    ap (λ (k : ℕ). number (take 4 (drop k xs))) (sym far) ∙ ap (λ (ys : List ℕ). number (take 4 ys)) (sym (drop-drop (4 * i) 4 xs))
    ∙ ap (λ (ys : List ℕ). number (take 4 (drop (4 * i) ys))) (sym rest) ∙ h i w there

words_say : (n : ℕ) (xs ws : List ℕ) → words n xs ≡ some ws → (length ws ≡ n) × ((i w : ℕ) → At ws i w → number (take 4 (drop (4 * i) xs)) ≡ w)
unfolding words
words_say zero xs ws e =
    subst (λ (vs : List ℕ). (length vs ≡ 0) × ((i w : ℕ) → At vs i w → number (take 4 (drop (4 * i) xs)) ≡ w)) (some-injective _ _ e)
    (refl, λ i w there. absurd (none-ne-some w there))
words_say (suc n) xs ws e =
    let (f, e1, e2) = then_inv (field 4 xs) _ ws e in
    let (more, e3, e4) = then_inv (words n f.rest) _ ws e2 in
    let (value, rest, long) = field_says 4 xs f e1 in
    let (many, each) = words_say n f.rest more e3 in
    subst (λ (vs : List ℕ). (length vs ≡ suc n) × ((i w : ℕ) → At vs i w → number (take 4 (drop (4 * i) xs)) ≡ w)) (some-injective _ _ e4)
    (ap suc many, word_next xs f more value rest each)

pub styp_brands_lem : (body brands : List ℕ) → styp_brands body ≡ some brands →
    (length body ≡ 8 + 4 * length brands) × ((i w : ℕ) → At brands i w → number (take 4 (drop (8 + 4 * i) body)) ≡ w)
unfolding styp_brands
styp_brands_lem body brands e =
    let (whole, e0) = pick_some _ _ brands e in
    let (major, e1, e2) = then_inv (field 4 body) _ brands e0 in
    let (minor, e3, e4) = then_inv (field 4 major.rest) _ brands e2 in
    let (value, rest, long) = field_says 4 body major e1 in
    let (value', rest', long') = field_says 4 major.rest minor e3 in
    let after : minor.rest ≡ drop 8 body = rest' ∙ ap (λ (ys : List ℕ). drop 4 ys) rest ∙ drop-drop 4 4 body in
    let (many, each) = words_say (length minor.rest / 4) minor.rest brands e4 in
    let fours = eqb-true (length body % 4) 0 whole in
    let left : length minor.rest ≡ length body - 8 = ap length after ∙ length-drop 8 body in
    let left' : length major.rest ≡ length body - 4 = ap length rest ∙ length-drop 4 body in (
      omega arith,
      λ i w there. ap (λ (ys : List ℕ). number (take 4 ys)) (sym (drop-drop (4 * i) 8 body)) ∙ ap (λ (ys : List ℕ). number (take 4 (drop (4 * i) ys))) (sym after) ∙ each i w there,
    )

-- Boxes that lie end to end from the first byte on, and the bytes after them.
abbrev pub Laid : List ℕ → List Box → List ℕ → Type 0
Laid xs [] ys = xs ≡ ys
Laid xs (b ∷ bs) ys = (first_box xs ≡ some b) × Laid (drop b.size xs) bs ys

-- a box that is skipped at the top level
abbrev pub Skipped : Box → Type 0
Skipped b = (b.kind ≢ styp) × (b.kind ≢ sidx) × (b.kind ≢ moof) × (b.kind ≢ mdat)

none_skipped : (b : Box) → NoneOf top_kinds b → Skipped b
none_skipped b others = (others 0 styp refl, others 1 sidx refl, others 2 moof refl, others 3 mdat refl)

-- what stands in bytes stands in those that begin sooner
pub stands_later : (n : ℕ) (xs : List ℕ) (o : Opened) → n ≤ length xs → Stands (drop n xs) o → Stands xs o
stands_later n xs o fits s =
    let ends = s.ends in
    let left = length-drop n xs in
    let far : n + (s.start + o.box.size) ≡ n + s.start + o.box.size = omega arith in
    record { start = n + s.start; there = rw drop-drop at s.there; kind = s.kind; says = s.says; rest = rw (drop-drop, far) at s.rest; ends = omega arith }

-- Rule 1, up to the top index: skipped boxes, and then the first `sidx`.
pub record Indexed (xs : List ℕ) (top : Opened) : Type 0 where
  pub skipped : List Box
  pub lie : Laid xs (skipped ++ top.box ∷ []) top.rest
  pub others : (i : ℕ) (b : Box) → At skipped i b → Skipped b
  pub stands : Stands xs top

here : (xs : List ℕ) (b : Box) (top : Opened) → first_box xs ≡ some b → b.kind ≡ sidx → open_index b xs ≡ some top → Indexed xs top
here xs b top first is e =
    let (same, says, rest) = opened_box b xs top e in
    let there : first_box xs ≡ some top.box = first ∙ ap some same in
    let fits = (first_box_lem xs top.box there).fits in
    let left = length-drop top.box.size xs in
    let long = ap length rest in
    let first_byte : 0 + top.box.size ≡ top.box.size = omega arith in
    record {
      skipped = [];
      lie = (there, rest);
      others = λ i c there. absurd (none-ne-some c there);
      stands = record { start = 0; there = there; kind = rw same at is; says = says; rest = rw first_byte rest; ends = omega arith };
    }

skipped_on : (bs : List Box) (b : Box) → Skipped b → ((i : ℕ) (c : Box) → At bs i c → Skipped c) → (i : ℕ) (c : Box) → At (b ∷ bs) i c → Skipped c
skipped_on bs b first more zero c there = at_first Skipped b c bs there first
skipped_on bs b first more (suc i) c there = more i c there

on : (xs : List ℕ) (b : Box) (top : Opened) → first_box xs ≡ some b → Skipped b → Indexed (drop b.size xs) top → Indexed xs top
on xs b top first is more =
    record {
      skipped = b ∷ more.skipped;
      lie = (first, more.lie);
      others = skipped_on more.skipped b is more.others;
      stands = stands_later b.size xs top (first_box_lem xs b first).fits more.stands;
    }

first_index_lem : (k : ℕ) (xs : List ℕ) (top : Opened) → first_index k xs ≡ some top → Indexed xs top
unfolding first_index pick
first_index_lem zero xs top e = absurd (none-ne-some top e)
first_index_lem (suc k) xs top e =
    let (b, first, e1) = then_inv (first_box xs) _ top e in
    at b first (eqb b.kind sidx) refl e1 (first_index_lem k (drop b.size xs) top)
  where
    at : (b : Box) → first_box xs ≡ some b → (t : Bool) → eqb b.kind sidx ≡ t → pick t (open_index b xs) (except (among b.kind top_kinds) (first_index k (drop b.size xs))) ≡ some top →
        (first_index k (drop b.size xs) ≡ some top → Indexed (drop b.size xs) top) → Indexed xs top
    at b first true is e' more = here xs b top first (eqb-true b.kind sidx is) e'
    at b first false is e' more =
        let (outside, e2) = pick_else (among b.kind top_kinds) (first_index k (drop b.size xs)) top e' in
        on xs b top first (none_skipped b (among_none b.kind top_kinds outside)) (more e2)

-- Rule 1. The first box is a `styp` that lists the brand; skipped boxes and then the first `sidx`, the top index, follow it.
pub record Opens (brand : ℕ) (xs : List ℕ) (top : Opened) : Type 0 where
  pub first : Box
  pub there : first_box xs ≡ some first
  pub kind : first.kind ≡ styp
  pub brands : List ℕ
  pub says : styp_brands first.body ≡ some brands
  pub place : ℕ
  pub listed : At brands place brand
  pub indexed : Indexed (drop first.size xs) top

pub top_opens : (brand : ℕ) (xs : List ℕ) (top : Opened) → top_index brand xs ≡ some top → Opens brand xs top
unfolding top_index
top_opens brand xs top e =
    let (b, first, e1) = then_inv (first_box xs) _ top e in
    let (is, e2) = pick_some _ _ top e1 in
    let (brands, said, e3) = then_inv (styp_brands b.body) _ top e2 in
    let (has, e4) = pick_some _ _ top e3 in
    let (j, there) = among_at brand brands has in
    record {
      first = b;
      there = first;
      kind = eqb-true b.kind styp is;
      brands = brands;
      says = said;
      place = j;
      listed = there;
      indexed = first_index_lem (length xs) (drop b.size xs) top e4;
    }

at_within : (ms : List ℕ) (i n : ℕ) → At ms i n → i < length ms
at_within [] i n there = absurd (none-ne-some n there)
at_within (m ∷ ms) zero n there = omega arith
at_within (m ∷ ms) (suc i) n there = let within = at_within ms i n there in omega arith

-- "The brand wanted must be among the compatible ones; the major brand alone doesn't do": it stands at 8 bytes or more of the body, and
-- ends within it.
pub brand_compatible : (brand : ℕ) (xs : List ℕ) (top : Opened) → top_index brand xs ≡ some top →
    (b : Box) × (i : ℕ) × (first_box xs ≡ some b) × (b.kind ≡ styp) × (8 + 4 * i + 4 ≤ length b.body) × (number (take 4 (drop (8 + 4 * i) b.body)) ≡ brand)
brand_compatible brand xs top e =
    let opens = top_opens brand xs top e in
    let (long, each) = styp_brands_lem opens.first.body opens.brands opens.says in
    let within = at_within opens.brands opens.place brand opens.listed in
    (opens.first, opens.place, opens.there, opens.kind, omega arith, each opens.place brand opens.listed)

-- Rule 1. In the gap of first-offset bytes after the top index stand whole boxes, and each is skipped.
pub gap_skipped : (top : Opened) (ys : List ℕ) → material top ≡ some ys →
    (gap : List Box) × (boxes (take top.index.offset top.rest) ≡ some gap) × ((i : ℕ) (b : Box) → At gap i b → Skipped b)
unfolding boxes_of_gap
gap_skipped top ys e =
    let (fits, rest, (gap, e1)) = material_place top ys e in
    let (bs, whole, e2) = then_inv (boxes (take top.index.offset top.rest)) _ gap e1 in
    let (clean, e3) = pick_some _ _ gap e2 in
    (bs, whole, λ i b there. none_skipped b (without_at top_kinds bs clean i b there))
