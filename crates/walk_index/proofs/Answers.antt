-- What goes out of an index: its numbers or its entries are not read, its sums are wrong, or it is read.
use Prim.Native.Nat.{ℕ, ◌+◌, ◌≤◌}
use mathlib.Core.Path.{◌≡◌, refl, ap, sym, subst, ◌∙◌}
use mathlib.Core.List.{List, []}
use mathlib.Core.Bool.{Bool, true, false, ◌||◌}
use native.Mathlib.Omega.{arith}
use lib.Dec.{eqb}
use borrow.Author.Tests.{ltb-false, leb-false}
use Rattle.fields.specs.declared.Halt.{Halt}
use Rattle.std.specs.Prelude.{Option, Some, None, Ok, Err}
use Rattle.segment.specs.Constants.{limit, time_limit}
use Rattle.machine.specs.Faults.{shows}
use Rattle.machine.specs.Run.{Res}
use Rattle.state.specs.declared.Span.{Span}
use Rattle.state.specs.declared.Draft.{Draft}
use Rattle.state.specs.declared.IndexRead.{IndexRead}
use Rattle.state.specs.Flow.{Flow, Left, left, with_work}
use Rattle.state.specs.Sidx.{Place, topmost, under, part_of, index_of, sum_faults}
use Rattle.index.specs.declared.Where.{Where}
use Rattle.index.specs.declared.Where.TheVariants as places
use Rattle.index.specs.Views.{place_of, shown_by, Shallow}
use Rattle.index.proofs.Numbers.{part_most}
use Rattle.descent.specs.Sidx.{close_d, sidx_d}
use Rattle.fields.specs.Answers.{number_at, stop_at}
use Rattle.fields.specs.declared.Stop.{Stop}
use Rattle.fields.specs.Onward.{from, halted}
use Rattle.walk_index.specs.Parts.{span_at, wanted_of, draft, sums, FieldsRead, fields_d, FieldsFixed, EntriesRead, added_d, EntriesFixed, AddedWalked}
use Rattle.walk_index.specs.Views.{index_d, SumsFit, IndexWalked}
use Rattle.walk_index.specs.declared.Wanted.{Wanted}
use Rattle.walk_index.specs.declared.Fields.{Fields}
use Rattle.walk_index.specs.declared.Added.{Added}
use Rattle.walk_index.proofs.Numbers.{shown, hidden}
use Rattle.fields.specs.declared.Halt.TheVariants as halt

abbrev Res' : Type 0
Res' = Res IndexRead Flow Left

same_flow : (f : Flow) (work : List ℕ) → f.work ≡ work → with_work f work ≡ f
same_flow f work e = ap (λ (w : List ℕ). with_work f w) (sym e)

part_wanted : (p : Place) → part_of p ≡ (wanted_of p).part
unfolding part_of wanted_of
part_wanted topmost = refl
part_wanted (under top slot around) = refl

-- a level's part leaves room for the entries of one index
pub part_small : (p : Where) (w : Wanted) → w ≡ wanted_of (place_of p) → Shallow p → w.part ≤ 36864
part_small p w e h = rw (e, ← part_wanted (place_of p)) (part_most p h)

pub fields_read : (s : List ℕ) (end : ℕ) {r : FieldsRead} {x : Fields} → r ≡ Ok x → FieldsFixed s end r → FieldsFixed s end (Ok x)
fields_read s end e h = subst (λ (q : FieldsRead). FieldsFixed s end q) e h

pub entries_read : (s : List ℕ) (at end : ℕ) {r : EntriesRead} {a : Added} → r ≡ Ok a → EntriesFixed s at end r → EntriesFixed s at end (Ok a)
entries_read s at end e h = subst (λ (q : EntriesRead). EntriesFixed s at end q) e h

-- no sums go out with a refusal, or where the bytes end
no_sums : (p : Where) (n : ℕ) (x : Halt) (y : IndexRead) → Err x ≡ Ok y → SumsFit p n y
no_sums p n x y e = let z : ◌≡◌ {A = ℕ} 0 1 = cc in absurd (omega arith)

-- tests that show nothing
none_shown : (a b : Bool) (n q : ℕ) → shows (a || b) n q ≡ [] → (a ≡ false) × (b ≡ false)
unfolding shows
none_shown true b n q e = let z : ◌≡◌ {A = ℕ} 0 1 = cc in absurd (omega arith)
none_shown false true n q e = let z : ◌≡◌ {A = ℕ} 0 1 = cc in absurd (omega arith)
none_shown false false n q e = (refl, refl)

sums_fit : (p : Where) (when n : ℕ) (x : IndexRead) → ((y : Span) → sum_faults (place_of p) y x when n ≡ []) → SumsFit p n x
unfolding sum_faults
sums_fit places.Topmost when n x h =
    let (a, b) = none_shown _ _ _ _ (h (record { pos = 0; end = 0 })) in
    (ltb-false limit (n + x.offset + x.sizes) a, leb-false time_limit (x.time + x.durations) b)
sums_fit (places.Under top slot depth) when n x h = tt

module _ (p : Where) (when base : ℕ) (s : List ℕ) (pos at end : ℕ) (work : List ℕ) (w : Wanted) (ew : w ≡ wanted_of (place_of p)) (r : FieldsRead)
    (right : (q : Place) (b : ℕ) (f : Flow) → wanted_of q ≡ w → f.now ≡ when →
    fields_d q (span_at b pos end) (eqb (number_at 1 s at) 1) b s f r ≡ from left b s f (sidx_d q (span_at b pos end)) at)
    (fixed : FieldsFixed s end r) where
  abbrev span : Span
  span = span_at base pos end

  -- the reading from the numbers on, while this flows
  abbrev All : Flow → Res'
  All f = from left base s f (sidx_d (place_of p) span) at

  from_numbers : (f : Flow) → f.now ≡ when → f.work ≡ work → fields_d (place_of p) span (eqb (number_at 1 s at) 1) base s (with_work f work) r ≡ All f
  from_numbers f hn hw = right (place_of p) base (with_work f work) (sym ew) hn ∙ ap All (same_flow f work hw)

  pub numbers_out : (x : Halt) → r ≡ Err x → IndexWalked p when base s pos at end work work (Err x)
  unfolding index_d fields_d
  numbers_out x q = record {
    right = λ f hn hw. ap (fields_d (place_of p) span (eqb (number_at 1 s at) 1) base s (with_work f work)) (sym q) ∙ from_numbers f hn hw;
    long = refl;
    fixed = subst (λ (w : FieldsRead). FieldsFixed s end w) q fixed;
    sums = no_sums p (base + end) x;
  }

  -- the numbers were read
  module _ (x : Fields) (ex : r ≡ Ok x) (work' : List ℕ) (q : EntriesRead) (walked : AddedWalked s pos x.«from» end w.part work work' q) where
    abbrev d : Draft
    d = draft (eqb (number_at 1 s at) 1) x.id x.scale x.time x.offset

    from_entries : (f : Flow) → f.now ≡ when → f.work ≡ work → added_d (place_of p) span d x.count end base s (with_work f work') q ≡ All f
    unfolding fields_d
    from_entries f hn hw =
        walked.right (place_of p) d x.count base f (part_wanted (place_of p) ∙ ap (λ (u : Wanted). u.part) (sym ew)) (fields_read s end ex fixed).3
        ∙ ap (fields_d (place_of p) span (eqb (number_at 1 s at) 1) base s (with_work f work)) (sym ex)
        ∙ from_numbers f hn hw

    pub entries_stop : (y : Halt) → q ≡ Err y → IndexWalked p when base s pos at end work work' (Err y)
    unfolding index_d added_d
    entries_stop y e = record {
      right = λ f hn hw. ap (added_d (place_of p) span d x.count end base s (with_work f work')) (sym e) ∙ from_entries f hn hw;
      long = walked.long;
      fixed = subst (λ (w : EntriesRead). EntriesFixed s x.«from» end w) e walked.fixed;
      sums = no_sums p (base + end) y;
    }

    -- the entries were read
    module _ (a : Added) (eq : q ≡ Ok a) where
      abbrev index : IndexRead
      index = index_of d (sums x.count x.count a.sizes a.durations)

      module _ (flaw : Option ℕ) (told : (y : Span) → sum_faults (place_of p) y index when (base + end) ≡ shown_by flaw y.pos) where
        from_sums : (f : Flow) → f.now ≡ when → f.work ≡ work → from left base s (with_work f work') (close_d (place_of p) span index) end ≡ All f
        unfolding added_d
        from_sums f hn hw = ap (added_d (place_of p) span d x.count end base s (with_work f work')) (sym eq) ∙ from_entries f hn hw

        faults : (f : Flow) → f.now ≡ when → sum_faults (place_of p) span index f.now (base + end) ≡ shown_by flaw (base + pos)
        faults f hn = ap (λ (t : ℕ). sum_faults (place_of p) span index t (base + end)) hn ∙ told span

        pub sums_wrong : (number : ℕ) → flaw ≡ Some number → (y : Stop) → y ≡ stop_at number pos end → pos ≤ end → IndexWalked p when base s pos at end work work' (Err (halt.Bad y))
        unfolding index_d close_d halted shows
        sums_wrong number h y ey k = rw ey (record {
          right = λ f hn hw. sym (shown {t = true} number (base + pos) (faults f hn ∙ ap (λ (o : Option ℕ). shown_by o (base + pos)) h) _ _ refl) ∙ from_sums f hn hw;
          long = walked.long;
          fixed = (refl, k, omega arith);
          sums = λ u e. let z : ◌≡◌ {A = ℕ} 0 1 = cc in absurd (omega arith);
        })

        pub sums_right : flaw ≡ None → IndexWalked p when base s pos at end work work' (Ok index)
        unfolding index_d close_d shows
        sums_right h = record {
          right = λ f hn hw. sym (hidden {t = false} 0 (base + pos) (faults f hn ∙ ap (λ (o : Option ℕ). shown_by o (base + pos)) h) _ _ refl) ∙ from_sums f hn hw;
          long = walked.long;
          fixed = let g = fields_read s end ex fixed in (g.0, g.1, (entries_read s x.«from» end eq walked.fixed).0);
          sums = λ u e.
              let same : index ≡ u = cc in
              subst (SumsFit p (base + end)) same (sums_fit p when (base + end) index (λ y. told y ∙ ap (λ (o : Option ℕ). shown_by o y.pos) h));
        }
