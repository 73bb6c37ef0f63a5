-- The numbers of an index before its entries, at a position: read, passed over, and each of them tested where it ends.
use Prim.Native.Nat.{ℕ, suc, ◌+◌, ◌*◌, ◌≤◌, ◌<◌}
use mathlib.Core.Path.{◌≡◌, refl, ap, sym, ◌∙◌}
use mathlib.Core.List.{List}
use mathlib.Core.Bool.{Bool, true, false, not, ◌&&◌, ◌||◌}
use mathlib.Core.Logic.{◌⊎◌, inl, inr}
use native.Mathlib.Omega.{arith}
use lib.Dec.{eqb, ltb}
use lib.ListN.{length}
use borrow.Author.Tests.{lt-ltb, le-ltb, ltb-false, eq-eqb, ne_eqb, eqb-false}
use Rattle.std.specs.Prelude.{Some, None}
use Rattle.basics.specs.Choose.{pick}
use Rattle.basics.proofs.Picks.{lt_or_ge, pick_yes}
use Rattle.segment.specs.Constants.{entry_bytes, most_entries}
use Rattle.machine.specs.Faults.{refusal, shows, lowest, unless}
use Rattle.machine.specs.Run.{Res, fail, field_d, plain}
use Rattle.machine.specs.declared.Refusal.{Refusal}
use Rattle.state.specs.declared.Span.{Span}
use Rattle.state.specs.declared.Draft.{Draft}
use Rattle.state.specs.declared.IndexRead.{IndexRead}
use Rattle.state.specs.Flow.{Flow, Left, left}
use Rattle.state.specs.Sidx.{Place, topmost, under, wide_more}
use Rattle.state.specs.Sidx.{sidx_version_faults, id_faults, scale_faults, time_faults, offset_faults, count_faults}
use Rattle.index.proofs.Laws.{first_lower, second_lower}
use Rattle.descent.specs.Sidx.{counted_d, count_d, reserved_d, offset_d, time_d, scale_d, id_d, flags_d, version_d}
use Rattle.fields.specs.Answers.{field_at, stop_at, FieldRead}
use Rattle.fields.specs.Onward.{stopped, ended, from, on_field}
use Rattle.fields.proofs.Descents.{field_descent, field_there, field_ends_lem}
use Rattle.walk_index.specs.Parts.{span_at, wanted_of, draft}

abbrev Res' : Type 0
Res' = Res IndexRead Flow Left

-- A field at a position, by the code's answer.
module _ (base : ℕ) (s : List ℕ) (f : Flow) (k : ℕ → Flow → ℕ → List ℕ → Res') (w at : ℕ) {r : FieldRead} (e : r ≡ field_at s at w) where
  pub read_in : {v next : ℕ} → at ≤ length s → r ≡ Some (v, next) → from left base s f (field_d left plain k w 0) at ≡ from left base s f (k v) next
  unfolding on_field
  read_in here g = field_descent left base s f k w at here ∙ ap (on_field left base s f k) (sym e ∙ g)

  pub read_out : at ≤ length s → r ≡ None → from left base s f (field_d left plain k w 0) at ≡ ended left base s f
  unfolding on_field
  read_out here g = field_descent left base s f k w at here ∙ ap (on_field left base s f k) (sym e ∙ g)

  -- the same after `m` bytes that are passed over: if they are not all there, the field is not either
  module _ (j : ℕ → Flow → ℕ → List ℕ → Res') (m a : ℕ) (there : a + m ≡ at) (here : a ≤ length s)
      (same : (v : ℕ) → from left base s f (j v) at ≡ from left base s f (field_d left plain k w 0) at) where
    past : from left base s f (field_d left plain j m 0) a ≡ on_field left base s f k (field_at s at w)
    unfolding on_field field_at
    past = at_length (lt_or_ge (length s) (a + m))
      where
        at_length : (length s < a + m) ⊎ (a + m ≤ length s) → from left base s f (field_d left plain j m 0) a ≡ on_field left base s f k (field_at s at w)
        at_length (inl h) =
            let short : length s < at + w = omega arith in
            field_ends_lem left base s f j m a here h ∙ ap (on_field left base s f k) (sym (pick_yes (ltb (length s) (at + w)) _ _ (lt-ltb _ _ short)))
        at_length (inr h) =
            let inside : at ≤ length s = omega arith in
            field_there left base s f j m a here h ∙ rw there (same _ ∙ field_descent left base s f k w at inside)

    pub past_in : {v next : ℕ} → r ≡ Some (v, next) → from left base s f (field_d left plain j m 0) a ≡ from left base s f (k v) next
    unfolding on_field
    past_in g = past ∙ ap (on_field left base s f k) (sym e ∙ g)

    pub past_out : r ≡ None → from left base s f (field_d left plain j m 0) a ≡ ended left base s f
    unfolding on_field
    past_out g = past ∙ ap (on_field left base s f k) (sym e ∙ g)

-- one fault, where it is shown and where it is not
module _ {xs : List Refusal} {t : Bool} (n place : ℕ) (e : xs ≡ shows t n place) (worse : Refusal → Res') (x : Res') where
  pub shown : t ≡ true → unless xs worse x ≡ worse (refusal n place)
  unfolding unless shows lowest
  shown h = rw (e, h)

  pub hidden : t ≡ false → unless xs worse x ≡ x
  unfolding unless shows
  hidden h = rw (e, h)

-- a number of an inner index that is not the one that it has to be
abbrev pub other : Bool → ℕ → ℕ → Bool
other inner v want = inner && not (eqb v want)

-- the tests of the places, as the code asks them
id_test : (p : Place) (span : Span) (v : ℕ) → id_faults p span v ≡ shows (other (wanted_of p).inner v (wanted_of p).id) 12 span.pos
unfolding id_faults wanted_of shows
id_test topmost span v = refl
id_test (under top slot around) span v = refl

time_test : (p : Place) (span : Span) (now v : ℕ) → time_faults p span now v ≡ shows (other (wanted_of p).inner v now) 12 span.pos
unfolding time_faults wanted_of shows
time_test topmost span now v = refl
time_test (under top slot around) span now v = refl

offset_test : (p : Place) (span : Span) (v : ℕ) → offset_faults p span v ≡ shows (other (wanted_of p).inner v 0) 12 span.pos
unfolding offset_faults wanted_of shows
offset_test topmost span v = refl
offset_test (under top slot around) span v = refl

-- a timescale of 0 goes before one that is not the parent's
scale_tests : (p : Place) (span : Span) (v : ℕ) (worse : Refusal → Res') (x : Res') →
    unless (scale_faults p span v) worse x
    ≡ unless (shows (eqb v 0) 11 span.pos) worse (unless (shows (other (wanted_of p).inner v (wanted_of p).scale) 12 span.pos) worse x)
unfolding scale_faults wanted_of unless shows
scale_tests topmost span v worse x = refl
scale_tests (under top slot around) span v worse x = first_lower (eqb v 0) (not (eqb v top.scale)) 11 12 span.pos worse x (omega arith)

-- where the bytes end before a number that others are passed over before
module _ (p : Place) (span : Span) (base : ℕ) (s : List ℕ) (f : Flow) (d : Draft) (at a : ℕ) {r : FieldRead} (g : r ≡ None) (here : a ≤ length s) where
  pub no_count_there : r ≡ field_at s at 2 → a + 2 ≡ at → from left base s f (field_d left plain (reserved_d p span d) 2 0) a ≡ ended left base s f
  unfolding reserved_d
  no_count_there e there = past_out base s f (count_d p span d) 2 at e (reserved_d p span d) 2 a there here (λ u. refl) g

  pub no_id_there : r ≡ field_at s at 4 → a + 3 ≡ at → from left base s f (field_d left plain (flags_d p span d) 3 0) a ≡ ended left base s f
  unfolding flags_d
  no_id_there e there = past_out base s f (id_d p span d) 4 at e (flags_d p span d) 3 a there here (λ u. refl) g

-- a number of either width
sized : (wide : Bool) → pick wide 8 4 ≡ suc (wide_more wide)
unfolding wide_more pick
sized true = refl
sized false = refl

pub sized_in : (s : List ℕ) (at : ℕ) (wide : Bool) {r : FieldRead} → r ≡ field_at s at (pick wide 8 4) → r ≡ field_at s at (suc (wide_more wide))
sized_in s at wide e = e ∙ ap (field_at s at) (sized wide)

-- a number has at most eight bytes
pub wide_most : (wide : Bool) → suc (wide_more wide) ≤ 8
unfolding wide_more
wide_most true = omega arith
wide_most false = omega arith

-- a count that is none of the wrong ones
pub right_count : (v : ℕ) → (eqb v 0 || ltb most_entries v) ≡ false → (1 ≤ v) × (v ≤ most_entries)
right_count v h = at (eqb v 0) (ltb most_entries v) refl refl h
  where
    at : (t u : Bool) → eqb v 0 ≡ t → ltb most_entries v ≡ u → (t || u) ≡ false → (1 ≤ v) × (v ≤ most_entries)
    at true u e g q = let z : ◌≡◌ {A = ℕ} 0 1 = cc in absurd (omega arith)
    at false true e g q = let z : ◌≡◌ {A = ℕ} 0 1 = cc in absurd (omega arith)
    at false false e g q = (omega (arith, eqb-false v 0 e), omega (arith, ltb-false most_entries v g))

-- The tests of a number that was read, `next` the position after it.
module _ (p : Place) (base pos end : ℕ) (s : List ℕ) (f : Flow) (d : Draft) (v next : ℕ) where
  abbrev span : Span
  span = span_at base pos end

  abbrev On : (Flow → ℕ → List ℕ → Res') → Res'
  On k = from left base s f k next

  abbrev Bad : ℕ → Res'
  Bad n = stopped left base s f (stop_at n pos next)

  -- the two numbers that bytes are passed over before
  module _ (at a : ℕ) {r : FieldRead} (g : r ≡ Some (v, next)) (here : a ≤ length s) where
    pub past_count : r ≡ field_at s at 2 → a + 2 ≡ at → from left base s f (field_d left plain (reserved_d p span d) 2 0) a ≡ On (count_d p span d v)
    unfolding reserved_d
    past_count e there = past_in base s f (count_d p span d) 2 at e (reserved_d p span d) 2 a there here (λ u. refl) g

    pub past_id : r ≡ field_at s at 4 → a + 3 ≡ at → from left base s f (field_d left plain (flags_d p span d) 3 0) a ≡ On (id_d p span d v)
    unfolding flags_d
    past_id e there = past_in base s f (id_d p span d) 4 at e (flags_d p span d) 3 a there here (λ u. refl) g

  count_tests : On (count_d p span d v)
      ≡ unless (shows (not (eqb (base + end) (base + next + entry_bytes * v))) 6 (base + pos)) (λ x. fail x (left f) (base + next))
      (unless (shows (eqb v 0 || ltb most_entries v) 11 (base + pos)) (λ x. fail x (left f) (base + next)) (On (counted_d p span d v v)))
  unfolding count_d count_faults
  count_tests = first_lower _ _ 6 11 _ _ _ (omega arith)

  pub count_long : (end ≡ next + entry_bytes * v → ⊥) → On (count_d p span d v) ≡ Bad 6
  count_long h = count_tests ∙ shown 6 (base + pos) refl _ _ (ap not (ne_eqb (base + end) (base + next + entry_bytes * v) (λ e. h (omega arith))))

  module _ (whole : end ≡ next + entry_bytes * v) where
    filled : not (eqb (base + end) (base + next + entry_bytes * v)) ≡ false
    filled = ap not (eq-eqb (base + end) (base + next + entry_bytes * v) (omega arith))

    pub count_wrong : (eqb v 0 || ltb most_entries v) ≡ true → On (count_d p span d v) ≡ Bad 11
    count_wrong h = count_tests ∙ hidden 6 (base + pos) refl _ _ filled ∙ shown 11 (base + pos) refl _ _ h

    pub count_read : (eqb v 0 || ltb most_entries v) ≡ false → On (count_d p span d v) ≡ On (counted_d p span d v v)
    count_read h = count_tests ∙ hidden 6 (base + pos) refl _ _ filled ∙ hidden 11 (base + pos) refl _ _ h

  pub offset_other : other (wanted_of p).inner v 0 ≡ true → On (offset_d p span d v) ≡ Bad 12
  unfolding offset_d
  offset_other h = shown 12 (base + pos) (offset_test p span v) _ _ h

  pub offset_read : other (wanted_of p).inner v 0 ≡ false →
      On (offset_d p span d v) ≡ On (field_d left plain (reserved_d p span (draft d.wide d.id d.scale d.time v)) 2 0)
  unfolding offset_d
  offset_read h = hidden 12 (base + pos) (offset_test p span v) _ _ h

  pub time_other : other (wanted_of p).inner v f.now ≡ true → On (time_d p span d v) ≡ Bad 12
  unfolding time_d
  time_other h = shown 12 (base + pos) (time_test p span f.now v) _ _ h

  pub time_read : other (wanted_of p).inner v f.now ≡ false →
      On (time_d p span d v) ≡ On (field_d left plain (offset_d p span (draft d.wide d.id d.scale v 0)) (suc (wide_more d.wide)) 0)
  unfolding time_d
  time_read h = hidden 12 (base + pos) (time_test p span f.now v) _ _ h

  pub scale_none : eqb v 0 ≡ true → On (scale_d p span d v) ≡ Bad 11
  unfolding scale_d
  scale_none h = scale_tests p span v _ _ ∙ shown 11 (base + pos) refl _ _ h

  pub scale_other : eqb v 0 ≡ false → other (wanted_of p).inner v (wanted_of p).scale ≡ true → On (scale_d p span d v) ≡ Bad 12
  unfolding scale_d
  scale_other h g = scale_tests p span v _ _ ∙ hidden 11 (base + pos) refl _ _ h ∙ shown 12 (base + pos) refl _ _ g

  pub scale_read : eqb v 0 ≡ false → other (wanted_of p).inner v (wanted_of p).scale ≡ false →
      On (scale_d p span d v) ≡ On (field_d left plain (time_d p span (draft d.wide d.id v 0 0)) (suc (wide_more d.wide)) 0)
  unfolding scale_d
  scale_read h g = scale_tests p span v _ _ ∙ hidden 11 (base + pos) refl _ _ h ∙ hidden 12 (base + pos) refl _ _ g

  pub id_other : other (wanted_of p).inner v (wanted_of p).id ≡ true → On (id_d p span d v) ≡ Bad 12
  unfolding id_d
  id_other h = shown 12 (base + pos) (id_test p span v) _ _ h

  pub id_read : other (wanted_of p).inner v (wanted_of p).id ≡ false → On (id_d p span d v) ≡ On (field_d left plain (scale_d p span (draft d.wide v 0 0 0)) 4 0)
  unfolding id_d
  id_read h = hidden 12 (base + pos) (id_test p span v) _ _ h

-- The tests of the version: the box's length goes before it.
module _ (p : Place) (base pos end : ℕ) (s : List ℕ) (f : Flow) (v next : ℕ) where
  abbrev box : Span
  box = span_at base pos end

  abbrev Onto : (Flow → ℕ → List ℕ → Res') → Res'
  Onto k = from left base s f k next

  short_placed : (eqb v 1 && ltb (base + end) (base + next + 31)) ≡ (eqb v 1 && ltb end (next + 31))
  short_placed = ap (λ (t : Bool). eqb v 1 && t) (at (lt_or_ge end (next + 31)))
    where
      at : (end < next + 31) ⊎ (next + 31 ≤ end) → ltb (base + end) (base + next + 31) ≡ ltb end (next + 31)
      at (inl h) = lt-ltb (base + end) (base + next + 31) (omega arith) ∙ sym (lt-ltb _ _ h)
      at (inr h) = le-ltb (base + end) (base + next + 31) (omega arith) ∙ sym (le-ltb _ _ h)

  version_tests : Onto (version_d p box v)
      ≡ unless (shows (eqb v 1 && ltb (base + end) (base + next + 31)) 6 (base + pos)) (λ x. fail x (left f) (base + next))
      (unless (shows (ltb 1 v) 10 (base + pos)) (λ x. fail x (left f) (base + next)) (Onto (field_d left plain (flags_d p box (draft (eqb v 1) 0 0 0 0)) 3 0)))
  unfolding version_d sidx_version_faults
  version_tests = second_lower _ _ 10 6 _ _ _ (omega arith)

  pub version_short : (eqb v 1 && ltb end (next + 31)) ≡ true → Onto (version_d p box v) ≡ stopped left base s f (stop_at 6 pos next)
  version_short h = version_tests ∙ shown 6 (base + pos) refl _ _ (short_placed ∙ h)

  module _ (fits : (eqb v 1 && ltb end (next + 31)) ≡ false) where
    pub version_other : ltb 1 v ≡ true → Onto (version_d p box v) ≡ stopped left base s f (stop_at 10 pos next)
    version_other h = version_tests ∙ hidden 6 (base + pos) refl _ _ (short_placed ∙ fits) ∙ shown 10 (base + pos) refl _ _ h

    pub version_read : ltb 1 v ≡ false → Onto (version_d p box v) ≡ Onto (field_d left plain (flags_d p box (draft (eqb v 1) 0 0 0 0)) 3 0)
    version_read h = version_tests ∙ hidden 6 (base + pos) refl _ _ (short_placed ∙ fits) ∙ hidden 10 (base + pos) refl _ _ h
