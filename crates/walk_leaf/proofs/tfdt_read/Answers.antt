-- `walk_leaf::tfdt_read` meets its contract, by those of `read_field`, `version_flaw`, `stop_at`, `read_sized` and `time_box`, and by the laws
-- `track_tfdt`, `tfdt_ended`, `tfdt_flawed`, `tfdt_short`, `tfdt_timed`, `version_low` and `version_fits`.
use Prim.Native.Nat.{ℕ, ◌+◌}
use mathlib.Core.Path.{◌≡◌, refl, ap, sym, ◌∙◌}
use mathlib.Core.List.{List}
use native.Mathlib.Omega.{arith}
use lib.Dec.{eqb}
use Rattle.basics.specs.Choose.{pick}
use Rattle.machine.specs.declared.Header.{Header}
use Rattle.state.specs.Traf.{tfdt_version_faults, reference}
use Rattle.fields.specs.Answers.{stop_at}
use Rattle.fields.proofs.Answers.{FieldIn, field_in, handed, needed, wanting}
use Rattle.flaws.specs.Flaws.{flaw_of, numbered}
use Rattle.walk_leaf.specs.Views.{walked_d}
use Rattle.walk_leaf.specs.Walks.{Headed}
use Rattle.fields.specs.Onward.{halted}
use Rattle.flaws.proofs.Numbered.{some_number, no_number}
use Rattle.std.specs.Prelude.{Option, Some, None, Err}
use Rattle.walk_leaf.proofs.Tracks.{track_tfdt, tfdt_ended, tfdt_flawed, tfdt_short, tfdt_timed, version_low, version_fits}
use Rattle.fields.specs.declared.Halt.TheVariants as halt
use Rattle.walk_leaf.proofs.tfdt_read.Goals as goal

-- what a version that was read shows, at any place
module _ (s : List ℕ) (at v next : ℕ) (flaw : Option ℕ) (h : Header) (head : Headed s at h) (i : FieldIn s (at + h.head) 1 v next)
    (told : (base : ℕ) → flaw ≡ numbered (flaw_of (tfdt_version_faults (base + h.pos) (base + h.pos + h.size) v (base + (h.pos + h.head + 1))))) where
  shows_at : (base : ℕ) → flaw ≡ numbered (flaw_of (tfdt_version_faults (base + at) (base + h.pos + h.size) v (base + next)))
  shows_at base =
      let q : h.pos + h.head + 1 ≡ next = let p = head.pos in let n = i.after in omega arith in
      told base ∙ ap (λ (m : ℕ). numbered (flaw_of (tfdt_version_faults (base + h.pos) (base + h.pos + h.size) v (base + m)))) q
      ∙ ap (λ (p : ℕ). numbered (flaw_of (tfdt_version_faults (base + p) (base + h.pos + h.size) v (base + next)))) head.pos

  shown : (number : ℕ) → flaw ≡ Some number → (base : ℕ) →
      (flaw_of (tfdt_version_faults (base + at) (base + h.pos + h.size) v (base + next)) ≡ number) × (flaw_of (tfdt_version_faults (base + at) (base + h.pos + h.size) v (base + next)) ≡ 0 → ⊥)
  shown number z base = some_number _ number (sym (shows_at base) ∙ z)

  -- where it shows no number, the decode time ends the box
  module _ (z : flaw ≡ None) where
    clean : (base : ℕ) → flaw_of (tfdt_version_faults (base + at) (base + h.pos + h.size) v (base + next)) ≡ 0
    clean base = no_number _ (sym (shows_at base) ∙ z)

    sized : at + h.size ≡ next + 3 + pick (eqb v 1) 8 4
    sized =
        let e = version_fits (0 + at) (0 + h.pos + h.size) v (0 + next) (clean 0) in
        let p = head.pos in
        omega arith

pub returns-in_err-version : goal.returns-in_err-version
unfolding walked_d halted
returns-in_err-version c id =
    let a = c.args in
    let s = a.bytes.now in
    let (head, kind, eight) = c.requires in
    let none = wanting c.ok_or.ensures.value c.in_err-version.was in
    rw (handed c.from_residual.ensures.1, none.1) (record {
      right = λ base f.
          tfdt_ended _ a.so base s f a.at (a.at + a.h.head) _ head.here (sym c.read_field.ensures.0 ∙ none.0)
          ∙ sym (track_tfdt id a.so base s f a.at a.h head kind);
      fixed = tt;
    })

pub returns-in-Some : goal.returns-in-Some
unfolding walked_d halted
returns-in-Some c id =
    let a = c.args in
    let s = a.bytes.now in
    let (head, kind, eight) = c.requires in
    let e = sym c.read_field.ensures.0 ∙ needed c.ok_or.ensures.value c.in_ok-version.was in
    let i = field_in s (a.at + a.h.head) 1 _ _ e in
    let there = i.inside in
    let after = i.after in
    let shown = shown s a.at _ _ _ a.h head i c.version_flaw.ensures c.in-Some.flaw c.in-Some.is in
    let low = version_low (0 + a.at) (0 + a.h.pos + a.h.size) c.in_ok-version.version (0 + c.in_ok-version.next) in
    rw c.stop_at.ensures (record {
      right = λ base f.
          ap (λ (n : ℕ). walked_d base s (a.at + a.h.size) f (Err (halt.Bad (stop_at n a.at c.in_ok-version.next)))) (sym (shown base).0)
          ∙ tfdt_flawed (reference a.so.track) a.so base s f a.at (a.at + a.h.head) _ head.here e there (shown base).1
          ∙ sym (track_tfdt id a.so base s f a.at a.h head kind);
      fixed = record { none = refl; low = omega (arith, (shown 0).0); place = omega arith; count = omega arith };
    })

pub overflow_add-next : goal.overflow_add-next
overflow_add-next c =
    let a = c.args in
    let i = field_in a.bytes.now (a.at + a.h.head) 1 _ _ (sym c.read_field.ensures.0 ∙ needed c.ok_or.ensures.value c.in_ok-version.was) in
    let after = i.after in
    let far = c.requires.0.far in
    let holds = c.requires.0.holds in
    omega arith

pub read_sized-requires : goal.read_sized-requires
read_sized-requires c =
    let a = c.args in
    let i = field_in a.bytes.now (a.at + a.h.head) 1 _ _ (sym c.read_field.ensures.0 ∙ needed c.ok_or.ensures.value c.in_ok-version.was) in
    let after = i.after in
    let far = c.requires.0.far in
    let holds = c.requires.0.holds in
    omega arith

pub returns-in_err-v : goal.returns-in_err-v
unfolding walked_d halted
returns-in_err-v c id =
    let a = c.args in
    let s = a.bytes.now in
    let (head, kind, eight) = c.requires in
    let e = sym c.read_field.ensures.0 ∙ needed c.ok_or.ensures.value c.in_ok-version.was in
    let i = field_in s (a.at + a.h.head) 1 _ _ e in
    let clean = clean s a.at _ _ _ a.h head i c.version_flaw.ensures c.in_default.is in
    let none = wanting c.ok_or-2.ensures.value c.in_err-v.was in
    rw (handed c.from_residual-in_err-v.ensures.1, none.1) (record {
      right = λ base f.
          tfdt_short (reference a.so.track) a.so base s f a.at (a.at + a.h.head) _ head.here e i.inside (clean base) (sym c.read_sized.ensures ∙ none.0)
          ∙ sym (track_tfdt id a.so base s f a.at a.h head kind);
      fixed = tt;
    })

-- the decode time that was read ends the box
pub time_box-requires : goal.time_box-requires
time_box-requires c =
    let a = c.args in
    let s = a.bytes.now in
    let i = field_in s (a.at + a.h.head) 1 _ _ (sym c.read_field.ensures.0 ∙ needed c.ok_or.ensures.value c.in_ok-version.was) in
    let j = field_in s (c.in_ok-version.next + 3) _ _ _ (sym c.read_sized.ensures ∙ needed c.ok_or-2.ensures.value c.in_ok-v.was) in
    let first = i.after in
    let second = j.after in
    omega arith

pub returns : goal.returns
returns c id =
    let a = c.args in
    let s = a.bytes.now in
    let (head, kind, eight) = c.requires in
    let e = sym c.read_field.ensures.0 ∙ needed c.ok_or.ensures.value c.in_ok-version.was in
    let i = field_in s (a.at + a.h.head) 1 _ _ e in
    let g = sym c.read_sized.ensures ∙ needed c.ok_or-2.ensures.value c.in_ok-v.was in
    let j = field_in s (c.in_ok-version.next + 3) _ _ _ g in
    let clean = clean s a.at _ _ _ a.h head i c.version_flaw.ensures c.in_default.is in
    let ends : a.at + a.h.size ≡ c.in_ok-v.end = sized s a.at _ _ _ a.h head i c.version_flaw.ensures c.in_default.is ∙ sym j.after in
    record {
      right = λ base f.
          ap (λ (m : ℕ). walked_d base s m f c.time_box.result) ends
          ∙ c.time_box.ensures.right base s f
          ∙ tfdt_timed (reference a.so.track) a.so base s f a.at (a.at + a.h.head) _ head.here e i.inside (clean base) g
          ∙ sym (track_tfdt id a.so base s f a.at a.h head kind);
      fixed = rw ends (c.time_box.ensures.fixed s j.inside);
    }
