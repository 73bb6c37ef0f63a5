-- What an answer says: where a field ends and how long it is, and where a header stands, how long it is and where its box ends.
use Prim.Native.Nat.{ℕ, ◌+◌, ◌^◌, ◌≤◌, ◌<◌}
use mathlib.Core.Path.{◌≡◌, refl, ap, sym, subst, ◌∙◌}
use mathlib.Core.List.{List, [], ◌∷◌}
use mathlib.Core.Bool.{Bool, true, false}
use native.Mathlib.Omega.{arith}
use lib.Dec.{eqb, ltb, leb}
use lib.ListN.{length}
use borrow.Author.Tests.{ltb-true, ltb-false}
use types.Run.{OneOf}
use mathlib.Core.Logic.{inl, inr}
use Rattle.fields.specs.declared.Halt.{Halt}
use Rattle.std.specs.Prelude.{ok_or, Some, None, Ok, Err, Result}
use Rattle.std.specs.Result.{IsErrAnd}
use Rattle.std.proofs.lemmas.Result.{err_from_is_err_and}
use Rattle.basics.specs.Choose.{pick}
use Rattle.basics.proofs.Picks.{pick_holds}
use Rattle.machine.specs.declared.Header.{Header}
use Rattle.fields.specs.Answers.{number_at, field_at, Small, checked_at, large_at, head_at, FieldRead, HeadRead}
use Rattle.fields.specs.declared.Halt.TheVariants as halt
use Rattle.fields.specs.declared.Stop.{Stop}

-- a field that was read
pub record FieldIn (s : List ℕ) (at width v next : ℕ) : Type 0 where
  pub value : v ≡ number_at width s at
  pub after : next ≡ at + width
  pub inside : next ≤ length s

pub field_in : (s : List ℕ) (at width v next : ℕ) → field_at s at width ≡ Some (v, next) → FieldIn s at width v next
unfolding field_at pick
field_in s at width v next e = go (ltb (length s) (at + width)) refl e
  where
    go : (t : Bool) → ltb (length s) (at + width) ≡ t → pick {A = FieldRead} t None (Some (number_at width s at, at + width)) ≡ Some (v, next) → FieldIn s at width v next
    go true t q = let z : ◌≡◌ {A = ℕ} 0 1 = cc in absurd (omega arith)
    go false t q =
        let read : ◌≡◌ {A = ℕ × ℕ} (v, next) (number_at width s at, at + width) = cc in
        let after : next ≡ at + width = ap (λ (p : ℕ × ℕ). p.1) read in
        record { value = ap (λ (p : ℕ × ℕ). p.0) read; after = after; inside = omega (arith, ltb-false (length s) (at + width) t) }

pub field_out : (s : List ℕ) (at width : ℕ) → field_at s at width ≡ None → length s < at + width
unfolding field_at pick
field_out s at width e = go (ltb (length s) (at + width)) refl e
  where
    go : (t : Bool) → ltb (length s) (at + width) ≡ t → pick {A = FieldRead} t None (Some (number_at width s at, at + width)) ≡ None → length s < at + width
    go true t q = ltb-true _ _ t
    go false t q = let z : ◌≡◌ {A = ℕ} 0 1 = cc in absurd (omega arith)

pub field_small : (width : ℕ) {r : FieldRead} {v next : ℕ} → r ≡ Some (v, next) → Small width r → v < 256 ^ width
field_small width e h = subst (λ (q : FieldRead). Small width q) e h

-- what `?` hands on
pub handed : {T : Type 0} {r : Result T Halt} {x : Halt} → IsErrAnd r (λ y. y ≡ x) → r ≡ Err x
handed {T} {r} {x} h = let p = err_from_is_err_and r h in p.1 ∙ ap (λ (y : Halt). Err y) p.2

-- a field without which nothing goes on: it was read, or the bytes end
pub needed : {r : FieldRead} {got : Result (ℕ × ℕ) Halt} {v next : ℕ} → got ≡ ok_or r halt.Ended → got ≡ Ok (v, next) → r ≡ Some (v, next)
needed {r} {got} {v} {next} is e = by r (sym is ∙ e)
  where
    by : (q : FieldRead) → ok_or q halt.Ended ≡ Ok (v, next) → q ≡ Some (v, next)
    by None e = let z : ◌≡◌ {A = ℕ} 0 1 = cc in absurd (omega arith)
    by (Some p) e = let q : p ≡ (v, next) = cc in ap (λ (p : ℕ × ℕ). Some p) q

pub wanting : {r : FieldRead} {got : Result (ℕ × ℕ) Halt} {x : Halt} → got ≡ ok_or r halt.Ended → got ≡ Err x → (r ≡ None) × (x ≡ halt.Ended)
wanting {r} {got} {x} is e = by r (sym is ∙ e)
  where
    by : (q : FieldRead) → ok_or q halt.Ended ≡ Err x → (q ≡ None) × (x ≡ halt.Ended)
    by None e = let q : halt.Ended ≡ x = cc in (refl, sym q)
    by (Some p) e = let z : ◌≡◌ {A = ℕ} 0 1 = cc in absurd (omega arith)

-- a header that was read: its box ends in its container, and is no shorter than its header, whose bytes are there
pub record HeadIn (s : List ℕ) (at end : ℕ) (h : Header) : Type 0 where
  pub pos : h.pos ≡ at
  pub short : 8 ≤ h.head
  pub long : h.head ≤ 16
  pub holds : h.head ≤ h.size
  pub within : at + h.size ≤ end
  pub here : at + h.head ≤ length s

module _ {A : Type 0} where
  no_read : {x : Stop} {h : Header} → Err (halt.Bad x) ≡ Ok h → A
  no_read e = let z : ◌≡◌ {A = ℕ} 0 1 = cc in absurd (omega arith)

  not_read : {h : Header} → (Err halt.Ended) ≡ Ok h → A
  not_read e = let z : ◌≡◌ {A = ℕ} 0 1 = cc in absurd (omega arith)

module _ (s : List ℕ) (at end : ℕ) (h : Header) where
  checked_in : (kind size long : ℕ) → 8 ≤ long → long ≤ 16 → at + long ≤ length s → checked_at at end kind size long ≡ Ok h → HeadIn s at end h
  unfolding checked_at pick
  checked_in kind size long a b c e = go (ltb size long) refl (ltb end (at + size)) refl e
    where
      go : (t : Bool) → ltb size long ≡ t → (u : Bool) → ltb end (at + size) ≡ u →
          pick t (Err (halt.Bad (record { number = 4; place = at; count = at + long; leaves = 0 })))
          (pick u (Err (halt.Bad (record { number = 5; place = at; count = at + long; leaves = 0 }))) (Ok (record { pos = at; kind = kind; size = size; head = long })))
          ≡ Ok h → HeadIn s at end h
      go true t u v q = no_read q
      go false t true v q = no_read q
      go false t false v q =
          let p : at ≡ h.pos = cc in
          let r : size ≡ h.size = cc in
          let l : long ≡ h.head = cc in
          record {
            pos = sym p;
            short = omega arith;
            long = omega arith;
            holds = omega (arith, ltb-false size long t);
            within = omega (arith, ltb-false end (at + size) v);
            here = omega arith;
          }

  large_in : (kind : ℕ) → large_at s at end kind ≡ Ok h → HeadIn s at end h
  unfolding large_at pick
  large_in kind e = go (ltb end (at + 16)) (ltb (length s) (at + 16)) refl e
    where
      go : (t u : Bool) → ltb (length s) (at + 16) ≡ u →
          pick t (Err (halt.Bad (record { number = 5; place = at; count = at + 8; leaves = 0 }))) (pick u (Err halt.Ended) (checked_at at end kind (number_at 8 s (at + 8)) 16)) ≡ Ok h →
          HeadIn s at end h
      go true u v q = no_read q
      go false true v q = not_read q
      go false false v q = checked_in kind _ 16 (omega arith) (omega arith) (omega (arith, ltb-false (length s) (at + 16) v)) q

  pub head_in : head_at s at end ≡ Ok h → HeadIn s at end h
  unfolding head_at pick
  head_in e = go (leb (length s) at) (ltb end (at + 8)) (ltb (length s) (at + 8)) (eqb (number_at 4 s at) 1) refl e
    where
      go : (t u v w : Bool) → ltb (length s) (at + 8) ≡ v →
          pick t (Err halt.Ended)
          (pick u (Err (halt.Bad (record { number = 5; place = at; count = at + 1; leaves = 0 })))
          (pick v (Err halt.Ended) (pick w (large_at s at end (number_at 4 s (at + 4))) (checked_at at end (number_at 4 s (at + 4)) (number_at 4 s at) 8))))
          ≡ Ok h → HeadIn s at end h
      go true u v w x q = not_read q
      go false true v w x q = no_read q
      go false false true w x q = not_read q
      go false false false true x q = large_in _ q
      go false false false false x q = checked_in _ _ 8 (omega arith) (omega arith) (omega (arith, ltb-false (length s) (at + 8) x)) q

-- a fault that a header shows lies within its container
abbrev pub FaultWithin : ℕ → HeadRead → Type 0
FaultWithin end (Ok h) = Unit {0}
FaultWithin end (Err (halt.Bad x)) = (x.place ≤ end) × (x.count ≤ end)
FaultWithin end (Err halt.Ended) = Unit {0}

module _ (s : List ℕ) (at end : ℕ) where
  checked_within : (kind size long : ℕ) → at + long ≤ end → FaultWithin end (checked_at at end kind size long)
  unfolding checked_at
  checked_within kind size long h =
      pick_holds (FaultWithin end) (ltb size long) _ _ (λ e. (omega arith, h)) (λ e. pick_holds (FaultWithin end) (ltb end (at + size)) _ _ (λ e'. (omega arith, h)) (λ e'. tt))

  pub head_within : at < end → FaultWithin end (head_at s at end)
  unfolding head_at large_at
  head_within some =
      pick_holds (FaultWithin end) (leb (length s) at) _ _ (λ e. tt) (λ e.
      pick_holds (FaultWithin end) (ltb end (at + 8)) _ _ (λ e'. (omega arith, omega arith)) (λ short.
      let eight : at + 8 ≤ end = ltb-false end (at + 8) short in
      pick_holds (FaultWithin end) (ltb (length s) (at + 8)) _ _ (λ e'. tt) (λ e'.
      pick_holds (FaultWithin end) (eqb (number_at 4 s at) 1) _ _
      (λ e''. pick_holds (FaultWithin end) (ltb end (at + 16)) _ _ (λ q. (omega arith, eight)) (λ long.
      let sixteen : at + 16 ≤ end = ltb-false end (at + 16) long in
      pick_holds (FaultWithin end) (ltb (length s) (at + 16)) _ _ (λ q. tt) (λ q. checked_within _ _ 16 sixteen)))
      (λ e''. checked_within _ _ 8 eight))))

-- an answer with three cases that is one of the last two is not the first
pub not_first : {A : Type 0} {tag : ℕ} → tag ≡ 0 → OneOf (1 ∷ 2 ∷ []) tag → A
not_first e (inl p) = absurd (omega arith)
not_first e (inr p) = absurd (omega arith)
