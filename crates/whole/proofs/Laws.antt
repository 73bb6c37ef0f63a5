-- What the answers of the opening, the gap and the material make of the descent's reading of a segment, and what that comes to.
use Rattle.std.specs.Prelude.{ℕ, Result, Ok, Err}
use Prim.Native.Nat.{ℕ, suc, ◌+◌, ◌-◌, ◌≤◌, ◌<◌, min}
use mathlib.Core.Path.{◌≡◌, refl, ap, sym, subst, ◌∙◌}
use mathlib.Core.List.{List, ◌++◌}
use mathlib.Core.Logic.{◌⊎◌, inl, inr}
use native.Mathlib.Omega.{arith}
use lib.Dec.{ltb}
use lib.ListN.{length, take, drop, drop_of_length-le, take-append-drop}
use lib.Seq.{drop-cons, drop-append-le, take_all, length-take-le}
use native.Mathlib.Numerals.{add-one}
use borrow.Author.Tests.{ne_eqb, lt-ltb, le-ltb}
use Rattle.fields.specs.declared.Halt.{Halt}
use Rattle.std.specs.Prelude.{Ok, Err}
use Rattle.basics.specs.Choose.{pick}
use Rattle.basics.specs.Bytes.{AllBytes}
use Rattle.basics.proofs.Picks.{lt_or_ge, pick_yes, pick_no}
use Rattle.segment.specs.Constants.{limit}
use Rattle.machine.specs.declared.Refusal.{Refusal}
use Rattle.machine.specs.Faults.{refusal, shows, lowest}
use Rattle.machine.specs.Limit.{beyond}
use Rattle.machine.specs.Run.{Res, okay, fail, cut, either, after}
use Rattle.state.specs.declared.Top.{Top}
use Rattle.state.specs.declared.IndexRead.{IndexRead}
use Rattle.state.specs.Flow.{Flow, Left, with_now, with_work, work_bytes}
use Rattle.state.specs.Step.{flow0}
use Rattle.state.specs.declared.State.TheVariants as state
use Rattle.state.specs.Calls.{Out, out, left_of, start_of, whole_of}
use Rattle.state.specs.Stages.{top_of, top_level}
use Rattle.descent.specs.Whole.{gap_d, under_d, entry_parts_d, material_d, segment_d, outcome}
use Rattle.descent.specs.Opening.{opening_d}
use Rattle.descent.specs.Whole.{read_d, whole_d}
use Rattle.law_d.proofs.LawD.{law_d}
use Rattle.fields.specs.declared.Stop.{Stop}
use Rattle.fields.specs.Onward.{halted}
use Rattle.walk_opening.specs.Views.{OpeningAnswer, NoLeaves, opened_d, OpeningFixed, Crossed, crossed_d, GapFixed, GapWalked}
use Rattle.walk_entries.specs.Views.{flow_at, Went, went_d, entries_d, below_d, reading_at}
use Rattle.whole.specs.Views.{SegmentRead, segment_read, unlisted, WithinBytes, WithinLimit, SegmentWalked, too_long}
use Rattle.walk_entries.specs.declared.Reached.{Reached}
use Rattle.walk_entries.specs.declared.Broken.{Broken}
use Rattle.walk_entries.specs.declared.Broken.TheVariants as broken
use Rattle.fields.specs.declared.Halt.TheVariants as halt
use Rattle.std.specs.Result.{MatchResult, IsErrAnd}
use Rattle.std.proofs.lemmas.Result.{err_from_is_err_and}

-- a reading whose error was made by `unlisted`
module _ {A : Type 0} where
  abbrev Mapped : Result A Halt → Result A Broken → Type 0
  Mapped r q = MatchResult r (λ x. q ≡ Ok x) (λ e. IsErrAnd q (λ y. y ≡ unlisted e))

  pub mapped_err : (r : Result A Halt) {q : Result A Broken} {y : Broken} → Mapped r q → q ≡ Err y → (x : Halt) × (r ≡ Err x) × (y ≡ unlisted x)
  mapped_err (Ok x) {q} {y} m e =
      let no : ◌≡◌ {A = Result A Broken} (Ok x) (Err y) = sym m ∙ e in
      let z : ◌≡◌ {A = ℕ} 0 1 = cc in
      absurd (omega arith)
  mapped_err (Err x) {q} {y} m e =
      let p = err_from_is_err_and q m in
      let same : ◌≡◌ {A = Result A Broken} (Err p.0) (Err y) = sym p.1 ∙ e in
      let eq : y ≡ p.0 = cc in
      (x, refl, eq ∙ p.2)

  pub mapped_ok : (r : Result A Halt) {q : Result A Broken} {x : A} → Mapped r q → q ≡ Ok x → r ≡ Ok x
  mapped_ok (Ok v) {q} {x} m e =
      let same : ◌≡◌ {A = Result A Broken} (Ok v) (Ok x) = sym m ∙ e in
      let eq : v ≡ x = cc in
      ap (λ (w : A). Ok w) eq
  mapped_ok (Err v) {q} {x} m e =
      let p = err_from_is_err_and q m in
      let no : ◌≡◌ {A = Result A Broken} (Err p.0) (Ok x) = sym p.1 ∙ e in
      let z : ◌≡◌ {A = ℕ} 0 1 = cc in
      absurd (omega arith)

abbrev Read : Type 0
Read = Res Top Flow Left

-- a refusal before the first leaf, of bytes that stand at the segment's start
first_stop : (x : Stop) (work table : List ℕ) → x.leaves ≡ 0 →
    ◌≡◌ {A = Read} (fail (refusal x.number x.place) (left_of x.leaves work table) x.count) (fail (refusal x.number (0 + x.place)) (left_of 0 work table) (0 + x.count))
first_stop x work table e =
    let p : x.place ≡ 0 + x.place = omega arith in
    let c : x.count ≡ 0 + x.count = omega arith in
    ap (λ (n : ℕ). fail (refusal x.number x.place) (left_of n work table) x.count) e
    ∙ ap (λ (n : ℕ). fail (refusal x.number n) (left_of 0 work table) x.count) p
    ∙ ap (fail (refusal x.number (0 + x.place)) (left_of 0 work table)) c

first_end : (s work table : List ℕ) → ◌≡◌ {A = Read} (cut (left_of 0 work table) (length s)) (cut (left_of 0 work table) (0 + length s))
first_end s work table = let q : length s ≡ 0 + length s = omega arith in ap (cut (left_of 0 work table)) q

module _ (s work table : List ℕ) where
  -- the opening was not read
  pub opening_off : (work' : List ℕ) (k : IndexRead → Flow → ℕ → List ℕ → Read) (x : Halt) → NoLeaves x →
      segment_read s work' table (Err (unlisted x)) ≡ after (opened_d 0 s (with_work (flow0 work table) work') (Err x)) k
  unfolding segment_read opened_d halted either
  opening_off work' k (halt.Bad x) f = first_stop x work' table f
  opening_off work' k halt.Ended f = first_end s work' table

  -- the gap was not crossed
  pub gap_off : (end now : ℕ) (k : Unit {0} → Flow → ℕ → List ℕ → Read) (x : Halt) → NoLeaves x →
      segment_read s work table (Err (unlisted x)) ≡ after (crossed_d 0 s end (with_now (flow0 work table) now) (Err x)) k
  unfolding segment_read crossed_d halted either
  gap_off end now k (halt.Bad x) f = first_stop x work table f
  gap_off end now k halt.Ended f = first_end s work table

  -- the material was not passed
  pub material_off : (k : Unit {0} → Flow → ℕ → List ℕ → Read) (x : Broken) → segment_read s work table (Err x) ≡ after (went_d 0 s work table (Err x)) k
  unfolding segment_read went_d either
  material_off k (broken.Bad x) = refl
  material_off k (broken.Ended n) = let q : length s ≡ 0 + length s = omega arith in ap (cut (left_of n work table)) q

-- the entries of the top index, from its first one on
top_entries : (x : IndexRead) (n : ℕ) (f : Flow) (m : ℕ) (bs : List ℕ) → entries_d 4 (top_of x) (top_level x n) f m bs ≡ under_d 4 (top_of x) 1 (top_level x n) f m bs
unfolding under_d
top_entries x n f m bs =
    let q : x.count - 0 ≡ x.count = omega arith in
    ap (λ (k : ℕ). entry_parts_d (below_d 4 (top_of x)) (top_of x) 1 k (top_level x n) f m bs) q

-- What follows the top index: the gap, and the material.
module _ (x : IndexRead) (n start : ℕ) (s work table : List ℕ) (r : Crossed) (gap : GapWalked s n start r) (from : start ≡ n + x.offset) where
  -- the time line stands at the index's start
  abbrev F : Flow
  F = with_now (flow0 work table) x.time

  -- the material, and then what the top index says
  abbrev finish : Unit {0} → Flow → ℕ → List ℕ → Read
  finish v h k ds = okay (top_of x) h k ds

  abbrev covered : Unit {0} → Flow → ℕ → List ℕ → Read
  covered u g m cs = after (under_d 4 (top_of x) 1 (top_level x n) g m cs) finish

  abbrev Material : Read
  Material = material_d x (flow0 work table) n (drop n s)

  crossed : after (crossed_d 0 s start F r) covered ≡ Material
  unfolding material_d
  crossed =
      let far : start - n ≡ x.offset = omega arith in
      let zero-n : 0 + n ≡ n = omega arith in
      ap (λ (q : Res (Unit {0}) Flow Left). after q covered)
      (gap.right 0 F ∙ ap (λ (d : ℕ). gap_d d F (0 + n) (drop n s)) far ∙ ap (λ (m : ℕ). gap_d x.offset F m (drop n s)) zero-n)

  pub gap_stops : (y : Halt) → r ≡ Err y → segment_read s work table (Err (unlisted y)) ≡ Material
  gap_stops y q =
      gap_off s work table start x.time covered y (subst (GapFixed s start) q gap.fixed)
      ∙ ap (λ (w : Crossed). after (crossed_d 0 s start F w) covered) (sym q)
      ∙ crossed

  -- where the material starts
  abbrev first : Reached
  first = record { n = start; now = x.time; leaves = 0; last = 0 }

  abbrev Entries : Res (Unit {0}) Flow Left
  Entries = reading_at (entries_d 4 (top_of x) (top_level x n)) 0 s first work table

  material_reading : {u : Unit {0}} → r ≡ Ok u → after Entries finish ≡ Material
  unfolding crossed_d either
  material_reading is =
      let zero-start : start ≡ 0 + start = omega arith in
      let far : start - 0 ≡ start = omega arith in
      ap (λ (d : ℕ). after (entries_d 4 (top_of x) (top_level x n) F start (drop d s)) finish) far
      ∙ ap (λ (q : Res (Unit {0}) Flow Left). after q finish) (top_entries x n F start (drop start s))
      ∙ ap (λ (m : ℕ). covered tt F m (drop start s)) zero-start
      ∙ ap (λ (q : Crossed). after (crossed_d 0 s start F q) covered) (sym is)
      ∙ crossed

  module _ {u : Unit {0}} (is : r ≡ Ok u) (work' table' : List ℕ) (q : Went) (right : went_d 0 s work' table' q ≡ Entries) where
    pub material_stops : (y : Broken) → q ≡ Err y → segment_read s work' table' (Err y) ≡ Material
    material_stops y e = material_off s work' table' finish y ∙ ap (λ (w : Went). after (went_d 0 s work' table' w) finish) (sym e)
        ∙ ap (λ (y : Res (Unit {0}) Flow Left). after y finish) right ∙ material_reading is

    pub material_done : (so : Reached) → q ≡ Ok so → segment_read s work' table' (Ok (so, top_of x)) ≡ Material
    unfolding segment_read went_d either
    material_done so on =
        let far : so.n ≡ so.n - 0 = omega arith in
        ap (λ (d : ℕ). okay (top_of x) (flow_at so work' table') so.n (drop d s)) far
        ∙ ap (λ (y : Went). after (went_d 0 s work' table' y) finish) (sym on)
        ∙ ap (λ (y : Res (Unit {0}) Flow Left). after y finish) right
        ∙ material_reading is

-- The segment: the opening, and what follows it.
module _ (brand : ℕ) (s work table work' : List ℕ) (r : OpeningAnswer)
    (right : opened_d 0 s (with_work (flow0 work table) work') r ≡ opening_d brand (flow0 work table) 0 s) where
  abbrev onward : IndexRead → Flow → ℕ → List ℕ → Read
  onward x g m cs = material_d x g m cs

  pub opening_stops : (x : Halt) → r ≡ Err x → OpeningFixed s r → segment_read s work' table (Err (unlisted x)) ≡ segment_d brand (flow0 work table) 0 s
  unfolding segment_d
  opening_stops x e f =
      opening_off s work table work' onward x (subst (OpeningFixed s) e f)
      ∙ ap (λ (q : OpeningAnswer). after (opened_d 0 s (with_work (flow0 work table) work') q) onward) (sym e)
      ∙ ap (λ (q : Res IndexRead Flow Left). after q onward) right

  pub opening_done : (x : IndexRead) (end : ℕ) → r ≡ Ok (x, end) → material_d x (flow0 work' table) end (drop end s) ≡ segment_d brand (flow0 work table) 0 s
  unfolding segment_d opened_d either
  opening_done x end is =
      let zero-end : end ≡ 0 + end = omega arith in
      ap (λ (m : ℕ). material_d x (flow0 work' table) m (drop end s)) zero-end
      ∙ ap (λ (q : OpeningAnswer). after (opened_d 0 s (with_work (flow0 work table) work') q) onward) (sym is)
      ∙ ap (λ (q : Res IndexRead Flow Left). after q onward) right

pub opening_fixed : (s : List ℕ) (r : OpeningAnswer) (x : IndexRead) (end : ℕ) → r ≡ Ok (x, end) → OpeningFixed s r → OpeningFixed s (Ok (x, end))
opening_fixed s r x end e f = subst (OpeningFixed s) e f

pub gap_fixed : (s : List ℕ) (end : ℕ) (r : Crossed) {u : Unit {0}} → r ≡ Ok u → GapFixed s end r → end ≤ length s
gap_fixed s end r e f = subst (GapFixed s end) e f

-- the lesser of two numbers, where it is less than the second
pub least_less : (a b n : ℕ) → n ≡ min a b → n < b → (n ≡ a) × (a < b)
least_less a b n e h = (omega arith, omega arith)

-- What a reading comes to.
module _ (bytes work table : List ℕ) where
  abbrev within : List ℕ
  within = take limit bytes

  abbrev pub Comes : SegmentRead → Out (Result ℕ Refusal)
  Comes r = outcome (beyond (refusal 3 limit) (segment_read within work table r) (drop limit bytes))

  -- the bytes within the limit, and those past it
  all_bytes : (n : ℕ) → n ≤ length within → drop n within ++ drop limit bytes ≡ drop n bytes
  all_bytes n h = sym (drop-append-le n within (drop limit bytes) h) ∙ ap (drop n) (take-append-drop limit bytes)

  comes_done : (so : Reached) (top : Top) → so.n ≤ length within → Comes (Ok (so, top)) ≡ outcome (okay top (flow_at so work table) so.n (drop so.n bytes))
  unfolding segment_read beyond
  comes_done so top h = ap (λ (l : List ℕ). outcome (okay top (flow_at so work table) so.n l)) (all_bytes so.n h)

  -- all bytes are those of the material
  pub comes_accepted : (so : Reached) (top : Top) → so.n ≤ length within → length bytes ≤ so.n →
      out (Ok so.leaves) (state.Accepted so.n so.leaves top) work table ≡ Comes (Ok (so, top))
  unfolding outcome
  comes_accepted so top h all = sym (comes_done so top h ∙ ap (λ (l : List ℕ). outcome (okay top (flow_at so work table) so.n l)) (drop_of_length-le bytes all))

  -- one is left over
  pub comes_longer : (so : Reached) (top : Top) → so.n ≤ length within → so.n < length bytes → too_long so.n so.leaves work table ≡ Comes (Ok (so, top))
  unfolding outcome
  comes_longer so top h more = sym (comes_done so top h ∙ ap (λ (l : List ℕ). outcome (okay top (flow_at so work table) so.n l)) (drop-cons bytes so.n 0 more))

  pub comes_refused : (x : Stop) → out (Err (refusal x.number x.place)) (state.Refused x.count x.leaves (refusal x.number x.place)) work table ≡ Comes (Err (broken.Bad x))
  unfolding segment_read beyond outcome
  comes_refused x = refl

  -- they end within the limit
  pub comes_short : (leaves : ℕ) → length bytes ≤ limit →
      out (Err (refusal 20 (length bytes))) (state.Refused (length bytes) leaves (refusal 20 (length bytes))) work table ≡ Comes (Err (broken.Ended leaves))
  unfolding segment_read beyond outcome
  comes_short leaves h =
      let n : length within ≡ length bytes = ap length (take_all limit bytes h) in
      sym (ap (λ (l : List ℕ). outcome (beyond (refusal 3 limit) (cut (left_of leaves work table) (length within)) l)) (drop_of_length-le bytes h)
      ∙ ap (λ (m : ℕ). outcome (cut (left_of leaves work table) m)) n)

  -- they end past it
  pub comes_past : (leaves : ℕ) → limit < length bytes → too_long limit leaves work table ≡ Comes (Err (broken.Ended leaves))
  unfolding segment_read beyond outcome lowest shows pick
  comes_past leaves h =
      let n : length within ≡ limit = length-take-le limit bytes (omega arith) in
      sym (ap (λ (l : List ℕ). outcome (beyond (refusal 3 limit) (cut (left_of leaves work table) (length within)) l)) (drop-cons bytes limit 0 h)
      ∙ ap (λ (m : ℕ). outcome (fail (refusal 3 limit) (left_of leaves work table) (suc m))) n)

-- a byte after the material: 3 at the limit, and 21 elsewhere
pub long_limit : (n leaves : ℕ) (work table : List ℕ) → n ≡ limit →
    out (Err (refusal 3 n)) (state.Refused (n + 1) leaves (refusal 3 n)) work table ≡ too_long n leaves work table
unfolding lowest shows pick
long_limit n leaves work table e = rw (e, add-one)

pub long_elsewhere : (n leaves : ℕ) (work table : List ℕ) → (n ≡ limit → ⊥) →
    out (Err (refusal 21 n)) (state.Refused (n + 1) leaves (refusal 21 n)) work table ≡ too_long n leaves work table
unfolding lowest shows
long_elsewhere n leaves work table e = rw (ne_eqb n limit e, add-one)

-- The whole, by law D.
module _ (brand : ℕ) (bytes work table : List ℕ) (all : AllBytes bytes) where
  pub whole_short : length work < work_bytes → out (Err (refusal 1 0)) (start_of brand) work table ≡ whole_of brand bytes work table
  unfolding whole_d
  whole_short h = sym (pick_yes (ltb (length work) work_bytes) _ _ (lt-ltb _ _ h)) ∙ law_d brand bytes work table all

  pub whole_long : work_bytes ≤ length work → outcome (read_d brand bytes work table) ≡ whole_of brand bytes work table
  unfolding whole_d
  whole_long h = sym (pick_no (ltb (length work) work_bytes) _ _ (le-ltb _ _ h)) ∙ law_d brand bytes work table all

-- the bytes within the limit, as the code lends them
pub within_limit : (bytes : List ℕ) (most : ℕ) → most ≡ min limit (length bytes) → take most bytes ≡ take limit bytes
within_limit bytes most e = at (lt_or_ge limit (length bytes))
  where
    at : (limit < length bytes) ⊎ (length bytes ≤ limit) → take most bytes ≡ take limit bytes
    at (inl h) = let q : most ≡ limit = omega arith in ap (λ (n : ℕ). take n bytes) q
    at (inr h) = take_all most bytes (omega arith) ∙ sym (take_all limit bytes h)

-- within bytes that are within the limit
pub within_both : (n : ℕ) (s : List ℕ) (r : SegmentRead) → length s ≤ n → n ≤ limit → WithinBytes s r → WithinLimit r
within_both n s (Ok (so, top)) a b h = omega arith
within_both n s (Err (broken.Bad x)) a b h = tt
within_both n s (Err (broken.Ended leaves)) a b h = tt

-- the bytes and the brand that a reading is of, as others name them
pub read_as : {brand brand' : ℕ} {s s' work table work' table' : List ℕ} {r : SegmentRead} → brand ≡ brand' → s ≡ s' →
    SegmentWalked brand s work table work' table' r → SegmentWalked brand' s' work table work' table' r
read_as {brand' = brand'} {s = s} {work = work} {table = table} {work' = work'} {table' = table'} {r = r} p q w =
    subst (λ (l : List ℕ). SegmentWalked brand' l work table work' table' r) q (subst (λ (b : ℕ). SegmentWalked b s work table work' table' r) p w)
