-- A call that gives back 2 leaves all that it was lent as it was: by the definitions of the calls, and since a state inside the ranges is
-- never refused with 2 (`feed_not_two`, `finish_not_two`).
use Rattle.std.specs.Prelude.{ℕ, Result, Ok, Err}
use Prim.Native.Nat.{ℕ}
use mathlib.Core.Path.{◌≡◌, refl, sym, ap, ◌∙◌}
use mathlib.Core.List.{List, [], ◌∷◌}
use mathlib.Core.Bool.{Bool, true, false}
use mathlib.Core.Option.{Option, some, none}
use native.Mathlib.Omega.{arith}
use lib.Dec.{ltb, eqb}
use lib.ListN.{length}
use Rattle.basics.specs.Bytes.{AllBytes}
use Rattle.basics.specs.Choose.{pick}
use Rattle.machine.specs.declared.Refusal.{Refusal}
use Rattle.moment.specs.declared.Request.{Request}
use Rattle.marks.specs.declared.Mark.{Mark}
use Rattle.state.specs.declared.State.{State}
use Rattle.state.specs.Flow.{work_bytes}
use Rattle.state.specs.Calls.{Out, start_of, feed_of, finish_of, finish_after}
use Rattle.state.proofs.RangeTests.{in_range_lem}
use Rattle.state.proofs.Ranges.{start_in_range, feed_in_range}
use Rattle.state.proofs.NeverGiven.{feed_not_two, finish_not_two}
use Rattle.numbered.specs.Numbers.{state_numbers}
use Rattle.numbered.specs.Unpacked.{unpack_of}
use Rattle.numbered.proofs.Unpacks.{unpacked_is}
use Rattle.mazurlot.proofs.Laws.{two_writes_nothing}
use Rattle.mazurlot.specs.Answers.{Said, said, of_count, slot_after, one_value, lookup_values, mark_values}
use Rattle.mazurlot.specs.Calls.{call, saying, start_call, fed_from, feed_call, finished_from, finish_call, whole_call, lookup_call, resolve_call}

-- what says 2 leaves the slot as it was
saying_two : (s : Said) (slot ns work table : List ℕ) → s.number ≡ 2 → saying s slot ns work table ≡ call 2 slot ns work table
saying_two s slot ns work table e = ap (λ (n : ℕ). call n (slot_after s slot) ns work table) e ∙ ap (λ (l : List ℕ). call 2 l ns work table) (sym (two_writes_nothing s.number s.values slot e))

-- an answer of feed or finish that is no refusal with 2 says another number
count_says : (a : Result ℕ Refusal) → ((x : Refusal) → a ≡ Err x → x.number ≡ 2 → ⊥) → (of_count a).number ≡ 2 → ⊥
unfolding of_count
count_says (Ok n) h e = let z : ◌≡◌ {A = ℕ} 0 2 = e in omega arith
count_says (Err x) h e = h x refl e

pub start_two : (brand : ℕ) (ns : List ℕ) → (start_call brand ns).number ≡ 2 → start_call brand ns ≡ call 2 [] ns [] []
unfolding start_call pick
start_two brand ns = by (eqb (length ns) state_numbers) refl
  where
    by : (b : Bool) → eqb (length ns) state_numbers ≡ b → (start_call brand ns).number ≡ 2 → start_call brand ns ≡ call 2 [] ns [] []
    by true e two = let z : ◌≡◌ {A = ℕ} 0 2 = rw e at two in absurd (omega arith)
    by false e two = rw e

module _ (piece work table slot : List ℕ) (bytes : AllBytes piece) where
  fed_two : (ns : List ℕ) (o : Option State) → unpack_of ns ≡ o → (fed_from o piece ns work table slot).number ≡ 2 → fed_from o piece ns work table slot ≡ call 2 slot ns work table
  unfolding fed_from
  fed_two ns none e two = saying_two (said (pick (ltb (length work) work_bytes) 1 2) (0 ∷ [])) slot ns work table two
  fed_two ns (some s) e two =
      let inside = (in_range_lem s).0 (unpacked_is ns s e).1 in
      absurd (count_says (feed_of s piece work table).answer (λ x is. feed_not_two s piece work table x bytes inside is) two)

  pub feed_two : (ns : List ℕ) → (feed_call piece ns work table slot).number ≡ 2 → feed_call piece ns work table slot ≡ call 2 slot ns work table
  unfolding feed_call pick
  feed_two ns = by (ltb (length slot) one_value) refl
    where
      by : (b : Bool) → ltb (length slot) one_value ≡ b → (feed_call piece ns work table slot).number ≡ 2 → feed_call piece ns work table slot ≡ call 2 slot ns work table
      by true e two = rw e
      by false e two = rw e (fed_two ns (unpack_of ns) refl (rw e at two))

module _ (slot : List ℕ) where
  finished_two : (ns : List ℕ) (o : Option State) → unpack_of ns ≡ o → (finished_from o ns slot).number ≡ 2 → finished_from o ns slot ≡ call 2 slot ns [] []
  unfolding finished_from
  finished_two ns none e two = refl
  finished_two ns (some s) e two =
      let inside = (in_range_lem s).0 (unpacked_is ns s e).1 in
      absurd (count_says (finish_of s).answer (λ x is. finish_not_two s x inside is) two)

  pub finish_two : (ns : List ℕ) → (finish_call ns slot).number ≡ 2 → finish_call ns slot ≡ call 2 slot ns [] []
  unfolding finish_call pick
  finish_two ns = by (ltb (length slot) one_value) refl
    where
      by : (b : Bool) → ltb (length slot) one_value ≡ b → (finish_call ns slot).number ≡ 2 → finish_call ns slot ≡ call 2 slot ns [] []
      by true e two = rw e
      by false e two = rw e (finished_two ns (unpack_of ns) refl (rw e at two))

module _ (brand : ℕ) (segment work table slot : List ℕ) (bytes : AllBytes segment) where
  fed : Out (Result ℕ Refusal)
  fed = feed_of (start_of brand) segment work table

  whole_says : (a : Result ℕ Refusal) → fed.answer ≡ a → (of_count (finish_after fed a).answer).number ≡ 2 → ⊥
  unfolding finish_after of_count fed
  whole_says (Ok n) e two =
      let inside = feed_in_range (start_of brand) segment work table bytes (start_in_range brand) in
      count_says (finish_of (feed_of (start_of brand) segment work table).state).answer (λ x is. finish_not_two (feed_of (start_of brand) segment work table).state x inside is) two
  whole_says (Err x) e two = feed_not_two (start_of brand) segment work table x bytes (start_in_range brand) e two

  pub whole_two : (ns : List ℕ) → (whole_call brand segment ns work table slot).number ≡ 2 → whole_call brand segment ns work table slot ≡ call 2 slot ns work table
  unfolding whole_call pick fed
  whole_two ns = by (ltb (length slot) one_value) (eqb (length ns) state_numbers) refl refl
    where
      by : (b d : Bool) → ltb (length slot) one_value ≡ b → eqb (length ns) state_numbers ≡ d →
          (whole_call brand segment ns work table slot).number ≡ 2 → whole_call brand segment ns work table slot ≡ call 2 slot ns work table
      by true d e f two = rw e
      by false true e f two = absurd (whole_says fed.answer refl (rw (e, f) at two))
      by false false e f two = rw (e, f)

-- a lookup, and a mark: state and table are lent to be read only
pub lookup_two : (r : Request) (ns table slot : List ℕ) → (lookup_call r ns table slot).number ≡ 2 → lookup_call r ns table slot ≡ call 2 slot [] [] []
unfolding lookup_call pick
lookup_two r ns table slot = by (ltb (length slot) lookup_values) refl
  where
    by : (b : Bool) → ltb (length slot) lookup_values ≡ b → (lookup_call r ns table slot).number ≡ 2 → lookup_call r ns table slot ≡ call 2 slot [] [] []
    by true e two = rw e
    by false e two = rw e (saying_two _ slot [] [] [] (rw e at two))

pub resolve_two : (m : Mark) (ns table slot : List ℕ) → (resolve_call m ns table slot).number ≡ 2 → resolve_call m ns table slot ≡ call 2 slot [] [] []
unfolding resolve_call pick
resolve_two m ns table slot = by (ltb (length slot) mark_values) refl
  where
    by : (b : Bool) → ltb (length slot) mark_values ≡ b → (resolve_call m ns table slot).number ≡ 2 → resolve_call m ns table slot ≡ call 2 slot [] [] []
    by true e two = rw e
    by false e two = rw e (saying_two _ slot [] [] [] (rw e at two))
