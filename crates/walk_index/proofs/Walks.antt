-- What the code answers of an entry, whole or not, is what the descent reads; and so of entries, one after the other.
use Prim.Native.Nat.{ℕ, zero, suc, ◌+◌, ◌-◌, ◌*◌, ◌%◌, ◌≤◌, ◌<◌}
use mathlib.Core.Path.{◌≡◌, refl, ap, sym, subst, ◌∙◌}
use mathlib.Core.List.{List}
use mathlib.Core.Bool.{Bool, true, false, ◌&&◌}
use native.Mathlib.Omega.{arith}
use lib.Dec.{eqb, leb}
use lib.ListN.{length, take, drop}
use borrow.Author.Tests.{ne_eqb}
use Rattle.fields.specs.declared.Halt.{Halt}
use Rattle.std.specs.Prelude.{Some, None, Ok, Err}
use Rattle.basics.specs.Put.{put_all}
use Rattle.basics.proofs.Put.{put_length}
use Rattle.segment.specs.Constants.{type_bit, entry_bytes}
use Rattle.machine.specs.Faults.{refusal}
use Rattle.machine.specs.Run.{Res, fail}
use Rattle.state.specs.declared.Span.{Span}
use Rattle.state.specs.declared.Draft.{Draft}
use Rattle.state.specs.declared.Sums.{Sums}
use Rattle.state.specs.declared.IndexRead.{IndexRead}
use Rattle.state.specs.Flow.{Flow, Left, left, with_work}
use Rattle.state.specs.Sidx.{Place, part_of, next_entry, index_of}
use Rattle.state.specs.Ranges.{word_limit}
use Rattle.descent.specs.Sidx.{close_d, entry_d, entries_d, counted_d}
use Rattle.fields.specs.Answers.{number_at, stop_at}
use Rattle.fields.specs.declared.Stop.{Stop}
use Rattle.fields.specs.Onward.{ended, from, halted}
use Rattle.walk_index.specs.Parts.{span_at, sums, EntryTaken, taken_d, TakenFixed, added_d, EntryWalked, PartWalked, AddedWalked}
use Rattle.walk_index.proofs.Entries.{entry_none, entry_whole, entry_cut}
use Rattle.fields.specs.declared.Halt.TheVariants as halt

abbrev Res' : Type 0
Res' = Res IndexRead Flow Left

module _ (s : List ℕ) (i j : ℕ) (work work' : List ℕ) where
  -- its size is 0, and its first word is stored
  module _ (e : work' ≡ put_all work i (take 4 (drop j s))) (there : j + 4 ≤ length s) (none : eqb (number_at 4 s j % type_bit) 0 ≡ true) where
    first_long : length work' ≡ length work
    first_long = ap length e ∙ put_length work i (take 4 (drop j s))

    pub entry_refused : EntryWalked s i j work work' None
    unfolding taken_d
    entry_refused = record {
      right = λ p span more t base f place. sym (entry_none p span more t base s f work i j place there none
          ∙ ap (λ (w : List ℕ). fail (refusal 11 span.pos) (left (with_work f w)) (base + (j + 4))) (sym e));
      long = first_long;
      fixed = tt;
    }

    pub part_refused : (pos : ℕ) (x : Stop) → x ≡ stop_at 11 pos (j + 4) → (end : ℕ) → j + 12 ≤ end → pos ≤ end → PartWalked s pos i j end work work' (Err (halt.Bad x))
    unfolding added_d halted
    part_refused pos x q end h k = rw q (record {
      right = λ p d count base span more t f place at. sym (entry_none p span more t base s f work i j place there none
          ∙ ap (λ (w : List ℕ). fail (refusal 11 span.pos) (left (with_work f w)) (base + (j + 4))) (sym e)
          ∙ ap (λ (q : ℕ). fail (refusal 11 q) (left (with_work f work')) (base + (j + 4))) at);
      long = first_long;
      fixed = λ from. (refl, k, omega arith);
    })

  -- its twelve bytes are stored
  pub entry_taken : (size duration : ℕ) →
      work' ≡ put_all (put_all (put_all work i (take 4 (drop j s))) (i + 4) (take 4 (drop (j + 4) s))) (i + 4 + 4) (take 4 (drop (j + 4 + 4) s)) → j + 12 ≤ length s →
      (number_at 4 s j % type_bit ≡ 0 → ⊥) → size ≡ number_at 4 s j % type_bit → duration ≡ number_at 4 s (j + 4) → duration < word_limit →
      EntryWalked s i j work work' (Some (size, duration))
  unfolding taken_d
  entry_taken size duration e there some es ed small = rw (es, ed) (record {
    right = λ p span more t base f place. sym (entry_whole p span more t base s f work i j place there (ne_eqb _ _ some)
        ∙ ap (λ (w : List ℕ). from left base s (with_work f w) (more (sums t.next t.count (t.sizes + number_at 4 s j % type_bit) (t.durations + number_at 4 s (j + 4)))) (j + 12)) (sym e));
    long = ap length e ∙ put_length _ _ _ ∙ put_length _ _ _ ∙ put_length _ _ _;
    fixed = (omega arith, omega arith);
  })

  -- the bytes end in it
  pub part_ended : (pos : ℕ) → work' ≡ put_all work i (drop j s) → j ≤ length s → length s < j + 12 →
      (leb (j + 4) (length s) && eqb (number_at 4 s j % type_bit) 0) ≡ false → (end : ℕ) → PartWalked s pos i j end work work' (Err halt.Ended)
  unfolding added_d halted
  part_ended pos e here short h end = record {
    right = λ p d count base span more t f place at. sym (entry_cut p span more t base s f work i j place here short h
        ∙ ap (λ (w : List ℕ). ended left base s (with_work f w)) (sym e));
    long = ap length e ∙ put_length work i (drop j s);
    fixed = λ from. tt;
  }

-- the numbers of an entry that was taken are small
pub taken_small : {r : EntryTaken} {size duration : ℕ} → r ≡ Some (size, duration) → TakenFixed r → (size < type_bit) × (duration < word_limit)
taken_small e h = subst (λ (q : EntryTaken). TakenFixed q) e h

-- two tests that both hold
pub both_hold : (a b : Bool) → (a && b) ≡ true → (a ≡ true) × (b ≡ true)
both_hold true b h = (refl, h)
both_hold false b h = let z : ◌≡◌ {A = ℕ} 0 1 = cc in absurd (omega arith)

-- so many entries, and the end of the box
module _ (p : Place) (span : Span) (d : Draft) where
  unfoldable pub rest_d : ℕ → Sums → Flow → ℕ → List ℕ → Res'
  rest_d zero t f n bs = close_d p span (index_of d t) f n bs
  rest_d (suc k) t f n bs = entries_d p span d k t f n bs

  rest_counted : (v k : ℕ) (f : Flow) (n : ℕ) (bs : List ℕ) → rest_d k (sums 0 v 0 0) f n bs ≡ counted_d p span d v k f n bs
  unfolding rest_d counted_d
  rest_counted v zero f n bs = refl
  rest_counted v (suc k) f n bs = refl

  rest_next : (k : ℕ) (t : Sums) (f : Flow) (n : ℕ) (bs : List ℕ) → rest_d (suc k) t f n bs ≡ entry_d p span (λ u g m cs. rest_d k (next_entry u) g m cs) t f n bs
  unfolding rest_d entries_d
  rest_next zero t f n bs = refl
  rest_next (suc k) t f n bs = refl

-- Entries passed: what is read from here is what is read from the first one on.
pub record EntriesSo (s : List ℕ) (pos from' end part : ℕ) (work₀ : List ℕ) (sizes durations i j : ℕ) (work : List ℕ) : Type 0 where
  pub done : ℕ
  pub place : i ≡ part + entry_bytes * done
  pub next : j ≡ from' + entry_bytes * done
  pub sized : sizes ≤ type_bit * done
  pub lasted : durations ≤ word_limit * done
  pub within : j ≤ end
  pub there : j ≤ length s
  pub long : length work ≡ length work₀
  pub right : (p : Place) (d : Draft) (count base : ℕ) (f : Flow) → part_of p ≡ part → end ≡ from' + entry_bytes * count →
      rest_d p (span_at base pos end) d (count - done) (sums done count sizes durations) (with_work f work) (base + j) (drop j s)
      ≡ from left base s (with_work f work₀) (counted_d p (span_at base pos end) d count count) from'

module _ (s : List ℕ) (pos at end part : ℕ) (work₀ : List ℕ) where
  pub passed_first : at ≤ end → at ≤ length s → EntriesSo s pos at end part work₀ 0 0 part at work₀
  passed_first h k = record {
    done = 0;
    place = omega arith;
    next = omega arith;
    sized = omega arith;
    lasted = omega arith;
    within = h;
    there = k;
    long = refl;
    right = λ p d count base f hp e.
        let k : count - 0 ≡ count = omega arith in
        ap (λ (m : ℕ). rest_d p (span_at base pos end) d m (sums 0 count 0 0) (with_work f work₀) (base + at) (drop at s)) k
        ∙ rest_counted p (span_at base pos end) d count count (with_work f work₀) (base + at) (drop at s);
  }

  module _ (sizes durations i j : ℕ) (work : List ℕ) (so : EntriesSo s pos at end part work₀ sizes durations i j work) where
    -- what an entry is read for, with others to come
    abbrev on_d : Place → Draft → ℕ → ℕ → Sums → Flow → ℕ → List ℕ → Res'
    on_d p d base k u g m cs = rest_d p (span_at base pos end) d k (next_entry u) g m cs

    at_entry : j < end → (p : Place) (d : Draft) (count base : ℕ) (f : Flow) → part_of p ≡ part → end ≡ at + entry_bytes * count →
        from left base s (with_work f work) (entry_d p (span_at base pos end) (on_d p d base (count - suc so.done)) (sums so.done count sizes durations)) j
        ≡ from left base s (with_work f work₀) (counted_d p (span_at base pos end) d count count) at
    at_entry h p d count base f hp e =
        let k : count - so.done ≡ suc (count - suc so.done) = omega (arith, so.next) in
        sym (rest_next p (span_at base pos end) d (count - suc so.done) (sums so.done count sizes durations) (with_work f work) (base + j) (drop j s))
        ∙ ap (λ (m : ℕ). rest_d p (span_at base pos end) d m (sums so.done count sizes durations) (with_work f work) (base + j) (drop j s)) (sym k)
        ∙ so.right p d count base f hp e

    at_place : (p : Place) → part_of p ≡ part → i ≡ part_of p + entry_bytes * so.done
    at_place p hp = rw hp so.place

    module _ (work' : List ℕ) {r : EntryTaken} (walked : EntryWalked s i j work work' r) where
      pub passed_next : {size duration : ℕ} → r ≡ Some (size, duration) → j + 12 ≤ end → j + 12 ≤ length s →
          EntriesSo s pos at end part work₀ (sizes + size) (durations + duration) (i + 12) (j + 12) work'
      unfolding taken_d
      passed_next {size} {duration} e h k =
          let w : EntryWalked s i j work work' (Some (size, duration)) = rw e at walked in
          record {
            done = suc so.done;
            place = omega (arith, so.place);
            next = omega (arith, so.next);
            sized = omega (arith, so.sized, w.fixed.0);
            lasted = omega (arith, so.lasted, w.fixed.1);
            within = h;
            there = k;
            long = w.long ∙ so.long;
            right = λ p d count base f hp q.
                w.right p (span_at base pos end) (on_d p d base (count - suc so.done)) (sums so.done count sizes durations) base f (at_place p hp)
                ∙ at_entry (omega arith) p d count base f hp q;
          }

      pub passed_refused : r ≡ None → (x : Stop) → x ≡ stop_at 11 pos (j + 4) → j + 12 ≤ end → pos ≤ end → AddedWalked s pos at end part work₀ work' (Err (halt.Bad x))
      unfolding taken_d added_d halted
      passed_refused e x q h k =
          let w : EntryWalked s i j work work' None = rw e at walked in
          rw q (record {
            right = λ p d count base f hp q.
                w.right p (span_at base pos end) (on_d p d base (count - suc so.done)) (sums so.done count sizes durations) base f (at_place p hp)
                ∙ at_entry (omega arith) p d count base f hp q;
            long = w.long ∙ so.long;
            fixed = (refl, k, omega arith);
          })

    pub passed_part : (work' : List ℕ) (x : Halt) → j < end → PartWalked s pos i j end work work' (Err x) → AddedWalked s pos at end part work₀ work' (Err x)
    passed_part work' x h w = record {
      right = λ p d count base f hp q.
          w.right p d count base (span_at base pos end) (on_d p d base (count - suc so.done)) (sums so.done count sizes durations) f (at_place p hp) refl
          ∙ at_entry h p d count base f hp q;
      long = w.long ∙ so.long;
      fixed = w.fixed at;
    }

    pub passed_last : end ≤ j → AddedWalked s pos at end part work₀ work (Ok (record { sizes = sizes; durations = durations }))
    unfolding rest_d added_d halted
    passed_last h =
        let e : j ≡ end = omega (arith, so.within) in
        record {
          right = λ p d count base f hp q.
              let k : count - so.done ≡ 0 = omega (arith, so.next) in
              ap (λ (a : ℕ). from left base s (with_work f work) (close_d p (span_at base pos end) (index_of d (sums count count sizes durations))) a) (sym e)
              ∙ ap (λ (m : ℕ). rest_d p (span_at base pos end) d m (sums so.done count sizes durations) (with_work f work) (base + j) (drop j s)) (sym k)
              ∙ so.right p d count base f hp q;
          long = so.long;
          fixed = (omega (arith, so.there), λ count q. omega (arith, so.sized, so.next));
        }
