-- The boxes of a `traf`, from what the code reads of them: skipped bodies, a `tfhd`, and a `tfdt` by its version and its decode time.
use Prim.Native.Nat.{ℕ, suc, ◌+◌, ◌-◌, ◌≤◌, ◌<◌}
use mathlib.Core.Path.{◌≡◌, refl, ap, sym, ◌∙◌}
use mathlib.Core.List.{List, ◌++◌}
use mathlib.Core.Bool.{Bool, true, false, not, ◌&&◌, ◌||◌}
use mathlib.Core.Logic.{◌⊎◌, inl, inr}
use native.Mathlib.Omega.{arith}
use lib.Dec.{eqb, ltb}
use lib.ListN.{length, drop}
use borrow.Author.Tests.{lt-ltb, le-ltb, eq-eqb, ne_eqb, ltb-false, eqb-true, eqb-false}
use Rattle.std.specs.Prelude.{Some, None, Ok, Err, Option}
use Rattle.basics.specs.Choose.{pick}
use Rattle.basics.proofs.Picks.{lt_or_ge, pick_yes, pick_no}
use Rattle.machine.specs.Faults.{shows, lowest, unless}
use Rattle.machine.specs.Run.{Res, okay, fail, either, after, field_d, plain, skip_d}
use Rattle.machine.specs.Heads.{box_end}
use Rattle.machine.specs.declared.Header.{Header}
use Rattle.machine.proofs.Kept.{Each, each_shows, each_append}
use Rattle.machine.proofs.Runs.{after_assoc}
use Rattle.segment.specs.Constants.{tfhd, tfdt}
use Rattle.state.specs.Flow.{Flow, Left, left}
use Rattle.state.specs.Rows.{traf_faults}
use Rattle.state.specs.Traf.{Gave, nothing, headed, timed, tfdt_version_faults, fall_faults, reference, saw, traf_now}
use Rattle.state.specs.declared.TrafSo.{TrafSo}
use Rattle.state.specs.declared.TrafPhase.{TrafPhase}
use Rattle.state.specs.declared.TrafPhase.TheVariants as track
use Rattle.descent.specs.Opening.{skip_to}
use Rattle.descent.specs.Leaf.{tfhd_d, width_d, tfdt_d, traf_body_d}
use Rattle.fields.specs.Answers.{field_at, stop_at, FieldRead}
use Rattle.fields.specs.Onward.{placed, stopped, ended, from, halted, on_field}
use Rattle.fields.proofs.Descents.{field_there, field_ends_lem, field_descent, skip_there, skip_ends}
use Rattle.flaws.specs.Flaws.{flaw_of, numbered}
use Rattle.flaws.proofs.Flaws.{Placed, flaw_none, flaw_some}
use Rattle.flaws.proofs.Places.{traf_flaws}
use Rattle.walk_leaf.specs.Views.{walked_d}
use Rattle.walk_leaf.specs.Walks.{Headed, TrackWalked, seen_at, gave_d, track_d}
use Rattle.fields.specs.declared.Halt.TheVariants as halt

-- a skipped body, from anywhere before its end
module _ {R : Type 0} (k : R) (base : ℕ) (s : List ℕ) (f : Flow) (at end : ℕ) (here : at ≤ length s) (before : at ≤ end) where
  pub skip_over : end ≤ length s → walked_d base s end f (Ok k) ≡ from left base s f (skip_to k (base + end)) at
  unfolding walked_d
  skip_over h = sym (skip_there left base s f k end at here before h)

  pub skip_cut : length s < end → walked_d base s end f (Err halt.Ended) ≡ from left base s f (skip_to k (base + end)) at
  unfolding walked_d halted
  skip_cut h = sym (skip_ends left base s f k end at here before h)

-- a field that is not looked at, and then one that is
module _ {R F L : Type 0} (left : F → L) (base : ℕ) (s : List ℕ) (f : F) (k : ℕ → F → ℕ → List ℕ → Res R F L) (w v at : ℕ) (here : at ≤ length s) where
  pub second_field : from left base s f (field_d left plain (λ u g m cs. field_d left plain k v 0 g m cs) w 0) at ≡ on_field left base s f k (field_at s (at + w) v)
  unfolding field_at on_field
  second_field = by (lt_or_ge (length s) (at + w))
    where
      by : (length s < at + w) ⊎ (at + w ≤ length s) →
          from left base s f (field_d left plain (λ u g m cs. field_d left plain k v 0 g m cs) w 0) at ≡ on_field left base s f k (field_at s (at + w) v)
      by (inl h) =
          field_ends_lem left base s f (λ u g m cs. field_d left plain k v 0 g m cs) w at here h
          ∙ ap (on_field left base s f k) (sym (pick_yes (ltb (length s) (at + w + v)) None _ (lt-ltb (length s) (at + w + v) (omega arith))))
      by (inr h) = field_there left base s f (λ u g m cs. field_d left plain k v 0 g m cs) w at here h ∙ field_descent left base s f k v (at + w) h

-- what a skipped box gives, and what a `tfhd` gives
module _ (so : TrafSo) (end : ℕ) (f : Flow) (n : ℕ) (bs : List ℕ) where
  pub gave_nothing : after (skip_to nothing end f n bs) (gave_d so) ≡ skip_to so end f n bs
  unfolding gave_d fall_faults unless traf_now either
  gave_nothing = after_assoc (skip_d left _ f n bs) (λ u g m cs. okay nothing g m cs) (gave_d so)

  pub gave_headed : (r : Bool) → after (skip_to (headed r) end f n bs) (gave_d so) ≡ skip_to (record { track = track.Headed r; seen = so.seen }) end f n bs
  unfolding gave_d fall_faults unless traf_now either
  gave_headed r = after_assoc (skip_d left _ f n bs) (λ u g m cs. okay (headed r) g m cs) (gave_d so)

-- A `tfhd`, by its track ID, which stands after the flags.
module _ (id : ℕ) (so : TrafSo) (base : ℕ) (s : List ℕ) (f : Flow) (at end : ℕ) (here : at ≤ length s) where
  abbrev Tfhd : Res TrafSo Flow Left
  Tfhd = after (from left base s f (tfhd_d id (base + end)) at) (gave_d so)

  abbrev then_d : ℕ → Flow → ℕ → List ℕ → Res Gave Flow Left
  then_d v g m cs = skip_to (headed (eqb v id)) (base + end) g m cs

  abbrev Told : FieldRead → Res TrafSo Flow Left
  Told r = after (on_field left base s f then_d r) (gave_d so)

  told : Tfhd ≡ Told (field_at s (at + 4) 4)
  unfolding tfhd_d
  told = ap (λ (r : Res Gave Flow Left). after r (gave_d so)) (second_field left base s f then_d 4 4 at here)

  pub tfhd_ended : field_at s (at + 4) 4 ≡ None → ended left base s f ≡ Tfhd
  unfolding on_field either
  tfhd_ended e = sym (told ∙ ap Told e)

  -- the track ID is there: the box is then skipped
  tfhd_read : {v next : ℕ} → field_at s (at + 4) 4 ≡ Some (v, next) → from left base s f (skip_to (record { track = track.Headed (eqb v id); seen = so.seen }) (base + end)) next ≡ Tfhd
  unfolding on_field
  tfhd_read {v} {next} e = sym (told ∙ ap Told e ∙ gave_headed so (base + end) f (base + next) (drop next s) (eqb v id))

  -- the whole box is there
  pub tfhd_whole : {v next : ℕ} → field_at s (at + 4) 4 ≡ Some (v, next) → next ≤ end → end ≤ length s →
      walked_d base s end f (Ok (record { track = track.Headed (eqb v id); seen = so.seen })) ≡ Tfhd
  tfhd_whole {v} {next} e before all = skip_over _ base s f next end (omega arith) before all ∙ tfhd_read e

  -- the bytes end inside the box, which has room for the track ID: they end before it, or after it
  pub tfhd_short : at + 8 ≤ end → length s < end → ended left base s f ≡ Tfhd
  unfolding walked_d halted field_at
  tfhd_short room few = by (lt_or_ge (length s) (at + 4 + 4))
    where
      by : (length s < at + 4 + 4) ⊎ (at + 4 + 4 ≤ length s) → ended left base s f ≡ Tfhd
      by (inl h) = tfhd_ended (pick_yes _ _ _ (lt-ltb _ _ h))
      by (inr h) = skip_cut _ base s f (at + 4 + 4) end h (omega arith) few ∙ tfhd_read (pick_no _ _ _ (le-ltb _ _ h))

unlike : {A : Type 0} → true ≡ false → A
unlike q = let z : ◌≡◌ {A = ℕ} 0 1 = cc in absurd (omega arith)

-- of two faults: the highest number that is shown, and that neither is
module _ (p : ℕ) where
  low_two : (a b : Bool) → flaw_of (shows a 10 p ++ shows b 6 p) ≤ 10
  unfolding flaw_of shows lowest pick
  low_two true true = omega arith
  low_two true false = omega arith
  low_two false true = omega arith
  low_two false false = omega arith

  none_two : (a b : Bool) → flaw_of (shows a 10 p ++ shows b 6 p) ≡ 0 → (a ≡ false) × (b ≡ false)
  unfolding flaw_of shows lowest pick
  none_two true true z = absurd (omega arith)
  none_two true false z = absurd (omega arith)
  none_two false true z = absurd (omega arith)
  none_two false false z = (refl, refl)

-- The version of a `tfdt`: the number that it shows.
module _ (p e v n : ℕ) where
  abbrev shown : ℕ
  shown = flaw_of (tfdt_version_faults p e v n)

  version_high : 1 < v → shown ≡ 10
  unfolding tfdt_version_faults flaw_of shows lowest
  version_high h = rw (lt-ltb 1 v h, ne_eqb v 0 (λ q. omega arith), ne_eqb v 1 (λ q. omega arith))

  pub version_old : v ≡ 0 → shown ≡ pick (eqb e (n + 7)) 0 6
  unfolding tfdt_version_faults flaw_of shows lowest pick
  version_old old = rw old (by (eqb e (n + 7)))
    where
      by : (t : Bool) → flaw_of (shows false 10 p ++ shows (true && not t || false && not (eqb e (n + 11))) 6 p) ≡ pick t 0 6
      by true = refl
      by false = refl

  pub version_new : v ≡ 1 → shown ≡ pick (eqb e (n + 11)) 0 6
  unfolding tfdt_version_faults flaw_of shows lowest pick
  version_new one = rw one (by (eqb e (n + 11)))
    where
      by : (t : Bool) → flaw_of (shows false 10 p ++ shows (false && not (eqb e (n + 7)) || true && not t) 6 p) ≡ pick t 0 6
      by true = refl
      by false = refl

  pub version_told : numbered shown ≡ pick (eqb v 0) (pick (eqb e (n + 7)) None (Some 6)) (pick (eqb v 1) (pick (eqb e (n + 11)) None (Some 6)) (Some 10))
  unfolding pick numbered
  version_told = by (eqb v 0) (eqb v 1) refl refl
    where
      or_six : (t : Bool) → numbered (pick t 0 6) ≡ pick t None (Some 6)
      or_six true = refl
      or_six false = refl

      by : (b c : Bool) → eqb v 0 ≡ b → eqb v 1 ≡ c → numbered shown ≡ pick b (pick (eqb e (n + 7)) None (Some 6)) (pick c (pick (eqb e (n + 11)) None (Some 6)) (Some 10))
      by true c q r = ap numbered (version_old (eqb-true v 0 q)) ∙ or_six _
      by false true q r = ap numbered (version_new (eqb-true v 1 r)) ∙ or_six _
      by false false q r =
          let a = eqb-false v 0 q in
          let b = eqb-false v 1 r in
          ap numbered (version_high (omega arith))

  pub version_placed : Each (Placed p) (tfdt_version_faults p e v n)
  unfolding tfdt_version_faults
  version_placed = each_append (Placed p) _ _ (each_shows (Placed p) (ltb 1 v) 10 p (refl, omega arith)) (each_shows (Placed p) _ 6 p (refl, omega arith))

  -- no number is above 10, and none is shown where the box is as long as its version says
  pub version_low : shown ≤ 10
  unfolding tfdt_version_faults
  version_low = low_two p (ltb 1 v) _

  pub version_fits : shown ≡ 0 → e ≡ n + 3 + pick (eqb v 1) 8 4
  unfolding tfdt_version_faults pick
  version_fits none = by (eqb v 0) (eqb v 1) (eqb e (n + 7)) (eqb e (n + 11)) refl refl refl refl (none_two p (ltb 1 v) _ none).1
    where
      by : (b c d g : Bool) → eqb v 0 ≡ b → eqb v 1 ≡ c → eqb e (n + 7) ≡ d → eqb e (n + 11) ≡ g → (b && not d || c && not g) ≡ false → e ≡ n + 3 + pick c 8 4
      by true true d g qb qc qd qg z = absurd (omega (arith, eqb-true v 0 qb, eqb-true v 1 qc))
      by true false true g qb qc qd qg z = omega (arith, eqb-true e (n + 7) qd)
      by true false false g qb qc qd qg z = unlike z
      by false true d true qb qc qd qg z = omega (arith, eqb-true e (n + 11) qg)
      by false true d false qb qc qd qg z = unlike z
      by false false d g qb qc qd qg z =
          let few : v ≤ 1 = ltb-false 1 v (none_two p (ltb 1 v) _ none).0 in
          let some : (v ≡ 0) → ⊥ = λ q. unlike (sym (eq-eqb v 0 q) ∙ qb) in
          unlike (sym (eq-eqb v 1 (omega arith)) ∙ qc)

-- the same of a header, by the length of its body
module _ (h : Header) (v base : ℕ) (holds : h.head ≤ h.size) where
  abbrev flaw_at : Option ℕ
  flaw_at = numbered (flaw_of (tfdt_version_faults (base + h.pos) (box_end (placed base h)) v (base + (h.pos + h.head + 1))))

  same_end : (k : ℕ) → eqb (box_end (placed base h)) (base + (h.pos + h.head + 1) + k) ≡ eqb (h.size - h.head) (suc k)
  same_end k = by (eqb (h.size - h.head) (suc k)) refl
    where
      by : (t : Bool) → eqb (h.size - h.head) (suc k) ≡ t → eqb (box_end (placed base h)) (base + (h.pos + h.head + 1) + k) ≡ t
      by true q = eq-eqb _ _ (omega (arith, eqb-true (h.size - h.head) (suc k) q))
      by false q = ne_eqb _ _ (λ z. eqb-false (h.size - h.head) (suc k) q (omega arith))

  pub flaw_told : flaw_at ≡ pick (eqb v 0) (pick (eqb (h.size - h.head) 8) None (Some 6)) (pick (eqb v 1) (pick (eqb (h.size - h.head) 12) None (Some 6)) (Some 10))
  flaw_told = version_told (base + h.pos) (box_end (placed base h)) v (base + (h.pos + h.head + 1)) ∙ rw (same_end 7, same_end 11) refl

-- A `tfdt` that starts at the position `pos` and whose body is at `at`; `r` says whether its track is the reference track.
module _ (r : Bool) (so : TrafSo) (base : ℕ) (s : List ℕ) (f : Flow) (pos at e : ℕ) (here : at ≤ length s) where
  abbrev Tfdt : Res TrafSo Flow Left
  Tfdt = after (from left base s f (tfdt_d r (base + pos) e) at) (gave_d so)

  abbrev version_d : ℕ → Flow → ℕ → List ℕ → Res Gave Flow Left
  version_d v g m cs =
      unless (tfdt_version_faults (base + pos) e v m) (λ x. fail x (left g) m) (field_d left plain (λ flags h k ds. width_d (eqb v 1) r (base + pos) h k ds) 3 0 g m cs)

  abbrev Versioned : FieldRead → Res TrafSo Flow Left
  Versioned q = after (on_field left base s f version_d q) (gave_d so)

  versioned : Tfdt ≡ Versioned (field_at s at 1)
  unfolding tfdt_d
  versioned = ap (λ (q : Res Gave Flow Left). after q (gave_d so)) (field_descent left base s f version_d 1 at here)

  -- its version is not there
  pub tfdt_ended : field_at s at 1 ≡ None → ended left base s f ≡ Tfdt
  unfolding on_field either
  tfdt_ended q = sym (versioned ∙ ap Versioned q)

  module _ {v next : ℕ} (q : field_at s at 1 ≡ Some (v, next)) (there : next ≤ length s) where
    abbrev flaw : ℕ
    flaw = flaw_of (tfdt_version_faults (base + pos) e v (base + next))

    -- its version shows a number
    pub tfdt_flawed : (flaw ≡ 0 → ⊥) → stopped left base s f (stop_at flaw pos next) ≡ Tfdt
    unfolding on_field either
    tfdt_flawed z =
        sym
        (versioned ∙ ap Versioned q
        ∙ ap (λ (w : Res Gave Flow Left). after w (gave_d so)) (flaw_some (base + pos) (λ x. fail x (left f) (base + next)) _ _ (version_placed (base + pos) e v (base + next)) z))

    -- what follows its decode time
    abbrev time_d : ℕ → Flow → ℕ → List ℕ → Res Gave Flow Left
    time_d u g m cs = okay (timed r (base + pos) u) g m cs

    sized : (big : Bool) → from left base s f (field_d left plain (λ flags h k ds. width_d big r (base + pos) h k ds) 3 0) next
        ≡ on_field left base s f time_d (field_at s (next + 3) (pick big 8 4))
    unfolding width_d pick
    sized true = second_field left base s f time_d 3 8 next there
    sized false = second_field left base s f time_d 3 4 next there

    abbrev Timed : FieldRead → Res TrafSo Flow Left
    Timed w = after (on_field left base s f time_d w) (gave_d so)

    timing : flaw ≡ 0 → Tfdt ≡ Timed (field_at s (next + 3) (pick (eqb v 1) 8 4))
    unfolding on_field
    timing z =
        versioned ∙ ap Versioned q
        ∙ ap (λ (w : Res Gave Flow Left). after w (gave_d so))
        (flaw_none (base + pos) (λ x. fail x (left f) (base + next)) _ _ (version_placed (base + pos) e v (base + next)) z ∙ sized (eqb v 1))

    pub tfdt_short : flaw ≡ 0 → field_at s (next + 3) (pick (eqb v 1) 8 4) ≡ None → ended left base s f ≡ Tfdt
    unfolding on_field either
    tfdt_short z g = sym (timing z ∙ ap Timed g)

    pub tfdt_timed : flaw ≡ 0 → {u end : ℕ} → field_at s (next + 3) (pick (eqb v 1) 8 4) ≡ Some (u, end) → from left base s f (gave_d so (timed r (base + pos) u)) end ≡ Tfdt
    unfolding on_field either
    tfdt_timed z g = sym (timing z ∙ ap Timed g)

-- A decode time.
module _ (so : TrafSo) (base : ℕ) (s : List ℕ) (f : Flow) (at end v : ℕ) where
  abbrev TimeOf : Bool → Res TrafSo Flow Left
  TimeOf r = from left base s f (gave_d so (timed r (base + at) v)) end

  abbrev Time : Res TrafSo Flow Left
  Time = TimeOf (reference so.track)

  -- of another track
  pub time_other : reference so.track ≡ false → from left base s f (okay (record { track = track.Timed; seen = so.seen })) end ≡ Time
  unfolding gave_d fall_faults shows unless traf_now saw
  time_other n = sym (ap TimeOf n)

  module _ (m : reference so.track ≡ true) where
    pub time_falls : v < so.seen.last → stopped left base s f (stop_at 18 at end) ≡ Time
    unfolding gave_d fall_faults shows unless lowest
    time_falls h = sym (ap TimeOf m ∙ rw (lt-ltb v so.seen.last h))

    pub time_climbs : so.seen.last ≤ v → from left base s f (okay (record { track = track.Timed; seen = seen_at so.seen v })) end ≡ Time
    unfolding gave_d fall_faults shows unless traf_now saw
    time_climbs h = sym (ap TimeOf m ∙ rw (le-ltb v so.seen.last h))

-- A box of a `traf`, by its type.
module _ (id : ℕ) (so : TrafSo) (base : ℕ) (s : List ℕ) (f : Flow) (at : ℕ) (h : Header) (head : Headed s at h) where
  abbrev Track : Res TrafSo Flow Left
  Track = from left base s f (track_d id (so) (placed base h)) (at + h.head)

  abbrev Then : (Flow → ℕ → List ℕ → Res Gave Flow Left) → Res TrafSo Flow Left
  Then k = after (from left base s f k (at + h.head)) (gave_d so)

  -- where the box ends
  ends : base + h.pos + h.size ≡ base + (at + h.size)
  ends = let q = head.pos in omega arith

  pub track_tfhd : h.kind ≡ tfhd → Track ≡ Then (tfhd_d id (base + (at + h.size)))
  unfolding traf_body_d
  track_tfhd e =
      ap (λ (r : Res Gave Flow Left). after r (gave_d so)) (pick_yes _ _ _ (eq-eqb h.kind tfhd e))
      ∙ ap (λ (e : ℕ). Then (tfhd_d id e)) ends

  pub track_tfdt : h.kind ≡ tfdt → Track ≡ Then (tfdt_d (reference so.track) (base + at) (base + h.pos + h.size))
  unfolding traf_body_d
  track_tfdt e =
      ap (λ (r : Res Gave Flow Left). after r (gave_d so))
      (pick_no _ _ _ (ne_eqb h.kind tfhd (λ q. omega arith)) ∙ pick_yes _ _ _ (eq-eqb h.kind tfdt e))
      ∙ ap (λ (p : ℕ). Then (tfdt_d (reference so.track) (base + p) (base + h.pos + h.size))) head.pos

  -- any other is skipped
  pub track_other : (h.kind ≡ tfhd → ⊥) → (h.kind ≡ tfdt → ⊥) → from left base s f (skip_to so (base + (at + h.size))) (at + h.head) ≡ Track
  unfolding traf_body_d
  track_other a b =
      sym
      (ap (λ (r : Res Gave Flow Left). after r (gave_d so))
      (pick_no _ _ _ (ne_eqb h.kind tfhd a) ∙ pick_no _ _ _ (ne_eqb h.kind tfdt b))
      ∙ gave_nothing so (base + h.pos + h.size) f (base + (at + h.head)) (drop (at + h.head) s)
      ∙ ap (λ (e : ℕ). from left base s f (skip_to so e) (at + h.head)) ends)

-- a type that a `traf` does not know
neither : (a b : Bool) → (a || b) ≡ false → (a ≡ false) × (b ≡ false)
neither true b e = unlike e
neither false b e = (refl, e)

pub unknown : (kind : ℕ) → (eqb kind tfhd || eqb kind tfdt) ≡ false → (kind ≡ tfhd → ⊥) × (kind ≡ tfdt → ⊥)
unknown kind e = let n = neither _ _ e in (eqb-false kind tfhd n.0, eqb-false kind tfdt n.1)

-- a box that a `traf` does not know is passed where its bytes are there, and else the bytes end inside it
module _ (id : ℕ) (so : TrafSo) (s : List ℕ) (at : ℕ) (h : Header) (head : Headed s at h) (no_tfhd : h.kind ≡ tfhd → ⊥) (no_tfdt : h.kind ≡ tfdt → ⊥) where
  within : at + h.head ≤ at + h.size
  within = let holds = head.holds in omega arith

  pub other_passed : at + h.size ≤ length s → TrackWalked s id at h so (Ok so)
  other_passed there = record {
    right = λ base f. skip_over so base s f (at + h.head) (at + h.size) head.here within there ∙ track_other id so base s f at h head no_tfhd no_tfdt;
    fixed = there;
  }

  pub other_cut : length s < at + h.size → TrackWalked s id at h so (Err halt.Ended)
  other_cut gone = record {
    right = λ base f. skip_cut so base s f (at + h.head) (at + h.size) head.here within gone ∙ track_other id so base s f at h head no_tfhd no_tfdt;
    fixed = tt;
  }

-- a `tfhd` or a `tfdt` whose header shows no number has a body of 8 bytes
pub body_eight : (t : TrafPhase) (h : Header) → (h.kind ≡ tfhd) ⊎ (h.kind ≡ tfdt) → h.head ≤ h.size → flaw_of (traf_faults t h) ≡ 0 → h.head + 8 ≤ h.size
unfolding pick
body_eight t h k holds none =
    by (ltb (h.size - h.head) 8) _ refl (simp (known k) at (sym (traf_flaws t h) ∙ none))
  where
    known : (h.kind ≡ tfhd) ⊎ (h.kind ≡ tfdt) → (eqb h.kind tfhd || eqb h.kind tfdt) ≡ true
    known (inl e) = rw (eq-eqb h.kind tfhd e)
    known (inr e) = rw (eq-eqb h.kind tfdt e, ne_eqb h.kind tfhd (λ q. omega arith))

    by : (t : Bool) (n : ℕ) → ltb (h.size - h.head) 8 ≡ t → pick {A = ℕ} t 6 n ≡ 0 → h.head + 8 ≤ h.size
    by true n e z = absurd (omega arith)
    by false n e z = omega (arith, ltb-false (h.size - h.head) 8 e)
