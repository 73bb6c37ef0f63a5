-- What the bytes of a number leave when they are taken together: the piece reads on as it did, and the state stays in its ranges.
use Rattle.std.specs.Prelude.{ℕ, Result}
use Prim.Native.Nat.{ℕ, ◌+◌, ◌-◌, ◌≤◌, ◌<◌}
use mathlib.Core.Path.{◌≡◌, refl, ap, sym, subst, ◌∙◌}
use mathlib.Core.List.{List, [], ◌∷◌}
use mathlib.Core.Logic.{inl, inr}
use mathlib.Core.Option.{Option, some, none}
use native.Mathlib.Omega.{arith}
use types.Run.{OneOf}
use denote.Enum.Declared.{tag_of}
use lib.ListN.{length, get_or, take, drop, take-append-drop, length-drop, drop_of_length-le}
use lib.Seq.{length-take-le, take_all}
use Rattle.basics.specs.Bytes.{number_from, AllBytes}
use Rattle.segment.specs.Constants.{limit}
use Rattle.machine.specs.declared.Refusal.{Refusal}
use Rattle.state.specs.Flow.{work_bytes}
use Rattle.state.specs.declared.Stage.{Stage}
use Rattle.state.specs.declared.State.{State}
use Rattle.state.specs.declared.State.TheVariants as state
use Rattle.state.specs.Step.{step_all}
use Rattle.state.specs.Calls.{Out, flow_of, state_of, fed, feed_state}
use Rattle.state.specs.Numbers.{stage_number, stage_on, work_on, put_in, Short, Fits}
use Rattle.state.specs.Ranges.{Within, InRange, spelled_bounds, bounds, stage_bounds}
use Rattle.state.specs.Jump.{least}
use Rattle.basics.proofs.Bytes.{each_byte_all, bytes_first, all_drop}
use Rattle.state.proofs.Jump.{least_first, least_second}
use Rattle.state.proofs.Numbers.{none_on, none_put, number_taken}
use Rattle.state.proofs.RangeNumbers.{stage_fits}
use Rattle.state.proofs.RangeTests.{spelled_within}
use Rattle.state.proofs.Ranges.{feed_state_kept}
use Rattle.state.specs.contracts.State.{the_type}
use Rattle.number_at_hand.specs.declared.AtHand.{AtHand}
use Rattle.number_at_hand.specs.Views.{next_place, at_hand_of}
use Rattle.std.specs.Prelude.{slice_range}
use Rattle.spelling.specs.Together.{Taken, taken, together, together_now, spelled_on, stored_in, Room}

-- none of them is the last, they are there, and the count stays within the limit
together_more : (more rest n : ℕ) → together more rest n ≤ more
together_more more rest n = least_first more (least rest (limit - n))

together_rest : (more rest n : ℕ) → together more rest n ≤ rest
together_rest more rest n = omega (arith, least_second more (least rest (limit - n)), least_first rest (limit - n))

together_limit : (more rest n : ℕ) → n ≤ limit → n + together more rest n ≤ limit
together_limit more rest n low = omega (arith, low, least_second more (least rest (limit - n)), least_second rest (limit - n))

-- they are stored where the number is
stored_same : (place : Option ℕ) (more : ℕ) (work bytes : List ℕ) → stored_in (next_place place more) work bytes ≡ put_in place more work bytes
unfolding next_place put_in stored_in
stored_same none more work bytes = refl
stored_same (some i) more work bytes = refl

-- their places are inside the work area
stored_fits : (place : Option ℕ) (more k long : ℕ) → Short place more → k ≤ more → work_bytes ≤ long → Room (next_place place more) k long
unfolding next_place Short Room
stored_fits none more k long short most there = tt
stored_fits (some i) more k long short most there = omega (arith, short.0, short.1)

-- a state that reads no more stays as it is
pub others_stay : (s : State) (piece : List ℕ) (i : ℕ) (work : List ℕ) → OneOf (1 ∷ 2 ∷ 3 ∷ []) (tag_of the_type s) → taken s i work ≡ spelled_on s piece i work
unfolding spelled_on
others_stay (state.Reading n leaves now last s) piece i work (inl e) = absurd (omega arith)
others_stay (state.Reading n leaves now last s) piece i work (inr (inl e)) = absurd (omega arith)
others_stay (state.Reading n leaves now last s) piece i work (inr (inr e)) = absurd (omega arith)
others_stay (state.Ended n leaves top) piece i work e = refl
others_stay (state.Refused n leaves x) piece i work e = refl
others_stay (state.Accepted n leaves top) piece i work e = refl

-- The stage whose number is told as `x`, and bytes of it.
module _ (s : Stage) (x : AtHand) (bytes work : List ℕ) (e : x ≡ at_hand_of (stage_number s)) where
  pub acc_fits : Fits (stage_number s) → length bytes ≤ x.more → Within (spelled_bounds 7 (length bytes) x.acc)
  acc_fits fits most =
      let w : Within (spelled_bounds 7 x.more x.acc) = rw e fits.0 in
      spelled_within 7 x.more 7 (length bytes) x.acc (omega (arith, w.0)) (omega arith) w

  pub bytes_fit : Fits (stage_number s) → length bytes ≤ x.more → work_bytes ≤ length work → Room x.place (length bytes) (length work)
  bytes_fit fits most long = rw e (stored_fits (stage_number s).place (stage_number s).more (length bytes) (length work) fits.1 (rw e at most) long)

  pub stage_moves : (acc : ℕ) (r : Stage) (work' : List ℕ) → acc ≡ number_from x.acc bytes → work' ≡ stored_in x.place work bytes →
      r ≡ (stage_number s).again (x.more - length bytes) acc → (r ≡ stage_on s (length bytes) bytes) × (work' ≡ work_on s work bytes)
  stage_moves acc r work' ea ew er =
      (rw (er, ea, e) refl, rw (ew, e) (stored_same (stage_number s).place (stage_number s).more work bytes))

-- bytes of a piece of bytes
bytes_inside : (piece : List ℕ) (i k : ℕ) → ((j : ℕ) → get_or piece j 0 < 256) → AllBytes (take k (drop i piece))
bytes_inside piece i k f =
    let a : AllBytes (drop i piece) = all_drop i piece (each_byte_all piece f) in
    bytes_first (take k (drop i piece)) (drop k (drop i piece)) (rw (take-append-drop k (drop i piece)) a)

-- `k` bytes of the number of a reading in its ranges: the piece reads on after them as it did
module _ (s : Stage) (n leaves now last : ℕ) (r : InRange (state.Reading n leaves now last s)) where
  -- the state after them
  unfoldable after : ℕ → List ℕ → State
  after k bytes = state.Reading (n + k) leaves now last (stage_on s k bytes)

  number_fed : (k i : ℕ) (piece work table : List ℕ) → k ≤ (stage_number s).more → n + k ≤ limit → i + k ≤ length piece →
      feed_state (after k (take k (drop i piece))) (drop (i + k) piece) (work_on s work (take k (drop i piece))) table
      ≡ feed_state (state.Reading n leaves now last s) (drop i piece) work table
  unfolding feed_state bounds after
  number_fed k i piece work table most low there =
      ap fed (sym (number_taken k piece i n s (flow_of leaves now last work table) there low most (stage_fits s now r.1.1).1))

  number_inside : (k : ℕ) (bytes : List ℕ) → length bytes ≡ k → AllBytes bytes → k ≤ (stage_number s).more → n + k ≤ limit → InRange (after k bytes)
  unfolding feed_state step_all state_of after
  number_inside k bytes e all most low =
      let a : take k bytes ≡ bytes = take_all k bytes (omega (arith, e)) in
      let b : drop (0 + k) bytes ≡ [] = drop_of_length-le bytes {i = 0 + k} (omega (arith, e)) in
      let same = number_fed k 0 bytes [] [] most low (omega (arith, e)) in
      let kept = feed_state_kept (state.Reading n leaves now last s) bytes [] [] all r in
      rw (a, b) at (subst (λ (o : Out (Result ℕ Refusal)). InRange o.state) (sym same) kept)

-- whatever the state: bytes are left, and they are read on as before
pub spelled_later : (s : State) (piece : List ℕ) (i : ℕ) (work : List ℕ) → i < length piece → (i ≤ (spelled_on s piece i work).at) × ((spelled_on s piece i work).at < length piece)
unfolding spelled_on
spelled_later (state.Reading n leaves now last s) piece i work h =
    (omega arith, omega (arith, h, together_rest (stage_number s).more (length piece - i - 1) n))
spelled_later (state.Ended n leaves top) piece i work h = (omega arith, h)
spelled_later (state.Refused n leaves x) piece i work h = (omega arith, h)
spelled_later (state.Accepted n leaves top) piece i work h = (omega arith, h)

pub spelled_fed : (s : State) (piece : List ℕ) (i : ℕ) (work table : List ℕ) → InRange s → i < length piece → let t : Taken = spelled_on s piece i work in
    feed_state t.state (drop t.at piece) t.work table ≡ feed_state s (drop i piece) work table
unfolding spelled_on bounds after
spelled_fed (state.Reading n leaves now last s) piece i work table r h =
    let k : ℕ = together_now s n piece i in
    number_fed s n leaves now last r k i piece work table (together_more (stage_number s).more (length piece - i - 1) n)
    (together_limit (stage_number s).more (length piece - i - 1) n r.0)
    (omega (arith, h, together_rest (stage_number s).more (length piece - i - 1) n))
spelled_fed (state.Ended n leaves top) piece i work table r h = refl
spelled_fed (state.Refused n leaves x) piece i work table r h = refl
spelled_fed (state.Accepted n leaves top) piece i work table r h = refl

-- and its numbers stay in their ranges
pub spelled_inside : (s : State) (piece : List ℕ) (i : ℕ) (work : List ℕ) → InRange s → i < length piece → ((j : ℕ) → get_or piece j 0 < 256) → InRange (spelled_on s piece i work).state
unfolding spelled_on bounds after
spelled_inside (state.Reading n leaves now last s) piece i work r h f =
    let k : ℕ = together_now s n piece i in
    let most : k ≤ length piece - i - 1 = together_rest (stage_number s).more (length piece - i - 1) n in
    number_inside s n leaves now last r k (take k (drop i piece)) (length-take-le k (drop i piece) (simp length-drop (omega (arith, most)))) (bytes_inside piece i k f)
    (together_more (stage_number s).more (length piece - i - 1) n)
    (together_limit (stage_number s).more (length piece - i - 1) n r.0)
spelled_inside (state.Ended n leaves top) piece i work r h f = r
spelled_inside (state.Refused n leaves x) piece i work r h f = r
spelled_inside (state.Accepted n leaves top) piece i work r h f = r

-- A reading in its ranges; and of its number, told as `x`, the `k` bytes that are taken, as the code finds them.
module _ {q : State} {n leaves now last : ℕ} {s : Stage} (same : q ≡ state.Reading n leaves now last s) (r : InRange q) where
  inside : InRange (state.Reading n leaves now last s)
  inside = subst InRange same r

  pub stage_inside : Within (stage_bounds s now)
  unfolding bounds
  stage_inside = inside.1.1

  pub count_inside : n ≤ limit
  unfolding bounds
  count_inside = inside.0

  module _ (piece : List ℕ) (i : ℕ) (work : List ℕ) {x : AtHand} {k : ℕ} (ex : x ≡ at_hand_of (stage_number s)) (ek : k ≡ together x.more (length piece - i - 1) n) where
    as_defined : k ≡ together_now s n piece i
    as_defined = rw (ek, ex) refl

    pub count_fits : n + k ≤ limit
    count_fits = rw as_defined (together_limit (stage_number s).more (length piece - i - 1) n count_inside)

    pub place_fits : i < length piece → i + k < length piece
    place_fits h = omega (arith, h, as_defined, together_rest (stage_number s).more (length piece - i - 1) n)

    -- the bytes that are taken
    here : (on : ℕ) → on ≡ i + k → i < length piece → (slice_range piece i on ≡ take k (drop i piece)) × (length (slice_range piece i on) ≡ k)
    here on eo h =
        let a : on - i ≡ k = omega arith in
        let f : i + k < length piece = place_fits h in
        (rw a refl, rw a (length-take-le k (drop i piece) (simp length-drop (omega (arith, f)))))

    pub number_fits : (on : ℕ) → on ≡ i + k → i < length piece → work_bytes ≤ length work →
        (x ≡ at_hand_of (stage_number s)) × Fits (stage_number s) × (length (slice_range piece i on) ≤ x.more) × (work_bytes ≤ length work)
    number_fits on eo h long =
        let m : k ≤ x.more = rw ek (together_more x.more (length piece - i - 1) n) in
        (ex, stage_fits s now stage_inside, omega (arith, (here on eo h).1, m), long)

    pub nothing_taken : k ≡ 0 → (taken (state.Reading n leaves now last s) i work ≡ spelled_on q piece i work) × InRange (state.Reading n leaves now last s)
    unfolding spelled_on
    nothing_taken e =
        let z : together_now s n piece i ≡ 0 = sym as_defined ∙ e in
        let a : n + 0 ≡ n = omega arith in
        let b : i + 0 ≡ i = omega arith in
        (rw (same, z, a, b, none_on s, none_put s work) refl, inside)

    pub number_taken_on : (on : ℕ) → on ≡ i + k → i < length piece → (next : Stage) (work' : List ℕ) → let bytes : List ℕ = slice_range piece i on in
        (next ≡ stage_on s (length bytes) bytes) × (work' ≡ work_on s work bytes) → taken (state.Reading (n + k) leaves now last next) on work' ≡ spelled_on q piece i work
    unfolding spelled_on
    number_taken_on on eo h next work' e = rw (same, e.0, e.1, (here on eo h).1, (here on eo h).0, eo, as_defined) refl

-- what is as the definition says is in its ranges
pub then_inside : (q s : State) (piece : List ℕ) (i j : ℕ) (work work' : List ℕ) → InRange q → i < length piece → ((m : ℕ) → get_or piece m 0 < 256) →
    taken s j work' ≡ spelled_on q piece i work → (taken s j work' ≡ spelled_on q piece i work) × InRange s
then_inside q s piece i j work work' r h f e = (e, subst InRange (sym (ap (λ (t : Taken). t.state) e)) (spelled_inside q piece i work r h f))
