-- The first box of an index entry: what its header shows, its index, and what that indexes.
use Prim.Native.Nat.{ℕ, suc, ◌+◌, ◌-◌, ◌≤◌, ◌<◌}
use mathlib.Core.Path.{◌≡◌, refl, ap, sym, subst, ◌∙◌}
use mathlib.Core.List.{List}
use mathlib.Core.Bool.{Bool, true, false, not, ◌&&◌}
use native.Mathlib.Omega.{arith}
use lib.Dec.{eqb, leb}
use lib.ListN.{length, drop}
use borrow.Author.Tests.{leb-false}
use Rattle.fields.specs.declared.Halt.{Halt}
use Rattle.basics.specs.Choose.{pick}
use Rattle.segment.specs.Constants.{limit, levels, styp, sidx}
use Rattle.machine.specs.Faults.{refusal, unless}
use Rattle.machine.specs.Run.{Res, fail, either, after}
use Rattle.machine.specs.declared.Header.{Header}
use Rattle.machine.proofs.Lowest.{AtMostEach}
use Rattle.state.specs.declared.Top.{Top}
use Rattle.state.specs.declared.Slot.{Slot}
use Rattle.state.specs.declared.IndexRead.{IndexRead}
use Rattle.state.specs.Flow.{Flow, Left, left, with_work}
use Rattle.state.specs.Rows.{top_lengths, inner_faults}
use Rattle.state.specs.Opening.{span_of}
use Rattle.state.specs.Sidx.{under}
use Rattle.state.specs.Stages.{inner_kind, inner_level}
use Rattle.descent.specs.Sidx.{sidx_d}
use Rattle.descent.specs.Whole.{UnderD, slot_d}
use Rattle.std.specs.Prelude.{Option, Some, None, Ok, Err}
use Rattle.std.specs.Option.{option_or}
use Rattle.flaws.specs.Flaws.{flaw_of, numbered}
use Rattle.flaws.proofs.Numbered.{no_number, three_kinds, length_first}
use Rattle.flaws.proofs.Flaws.{length_or}
use Rattle.flaws.proofs.Places.{inner_flaws, inner_beyond}
use Rattle.flaws.proofs.Told.{moved_length, told_some, told_none, beyond_high}
use Rattle.fields.specs.Answers.{stop_at, head_at, HeadRead}
use Rattle.fields.specs.Onward.{placed, on_head}
use Rattle.fields.proofs.Answers.{FaultWithin, head_within}
use Rattle.fields.proofs.Descents.{shown_d, box_descent}
use Rattle.index.specs.declared.Where.TheVariants as places
use Rattle.walk_index.specs.Views.{IndexAnswer, index_d, IndexFixed, IndexWalked}
use Rattle.walk_entries.specs.Views.{flow_at, went_d, placed_of, HaltLow, below_d, depth_at, entries_d, inner_body_at, reading_at}
use Rattle.walk_entries.specs.declared.Reached.{Reached}
use Rattle.walk_entries.proofs.Laws.{head_out, index_out, under_entries}
use Rattle.fields.specs.declared.Halt.TheVariants as halt

abbrev Went' : Type 0
Went' = Res (Unit {0}) Flow Left

-- the number that the type shows, with so many indexes open around
abbrev pub kind_flaw : ℕ → ℕ → ℕ
kind_flaw around kind = pick (eqb kind styp) 7 (pick (not (eqb kind sidx)) 9 (pick (eqb kind sidx && leb levels around) 13 0))

-- the code's number is that of the header where it stands in the segment
inner_same : (base around : ℕ) (h : Header) → length_or h (kind_flaw around h.kind) ≡ flaw_of (inner_faults around (placed base h))
inner_same base around h = sym (inner_flaws around (placed base h) ∙ moved_length (base + h.pos) h _)

pub inner_told : (base around : ℕ) (h : Header) {shown other : Option ℕ} → shown ≡ option_or (numbered (flaw_of (top_lengths h))) other →
    other ≡ pick (eqb h.kind styp) (Some 7) (pick (not (eqb h.kind sidx)) (Some 9) (pick (eqb h.kind sidx && leb levels around) (Some 13) None)) →
    shown ≡ numbered (flaw_of (inner_faults around (placed base h)))
inner_told base around h e q = length_first h (kind_flaw around h.kind) e (q ∙ three_kinds _ _ _) ∙ ap numbered (inner_same base around h)

-- a header that shows none is that of an index on level 4 at the most
none_shown : (t i d : Bool) → ◌≡◌ {A = ℕ} (pick t 7 (pick (not i) 9 (pick (i && d) 13 0))) 0 → d ≡ false
unfolding pick
none_shown true i d e = absurd (omega arith)
none_shown false false d e = absurd (omega arith)
none_shown false true true e = absurd (omega arith)
none_shown false true false e = refl

shallow : (around : ℕ) (h : Header) → length_or h (kind_flaw around h.kind) ≡ 0 → around < levels
unfolding pick
shallow around h e = at (eqb (flaw_of (top_lengths h)) 0) refl e
  where
    at : (t : Bool) → eqb (flaw_of (top_lengths h)) 0 ≡ t → pick t (kind_flaw around h.kind) (flaw_of (top_lengths h)) ≡ 0 → around < levels
    at true t q = leb-false levels around (none_shown (eqb h.kind styp) (eqb h.kind sidx) (leb levels around) q)
    at false t q = let z : false ≡ true = sym t ∙ ap (λ (n : ℕ). eqb n 0) q in let n : ◌≡◌ {A = ℕ} 0 1 = cc in absurd (omega arith)

pub inner_shallow : (around : ℕ) (h : Header) {shown other : Option ℕ} → shown ≡ option_or (numbered (flaw_of (top_lengths h))) other →
    other ≡ pick (eqb h.kind styp) (Some 7) (pick (not (eqb h.kind sidx)) (Some 9) (pick (eqb h.kind sidx && leb levels around) (Some 13) None)) →
    shown ≡ None → around < levels
inner_shallow around h e q z = shallow around h (no_number _ (sym (length_first h (kind_flaw around h.kind) e (q ∙ three_kinds _ _ _)) ∙ z))

-- The entry, from its header's answer.
module _ (base at end : ℕ) (s : List ℕ) (slot : Slot) (inner : UnderD) (top : Top) (depth : ℕ) (so : Reached) (work table : List ℕ)
    (here : at ≤ length s) (ends : slot.end ≡ base + end) (pos : so.n ≡ base + at) where
  abbrev F : Flow
  F = flow_at so work table

  -- the index, and what it indexes
  abbrev indexed : Header → Flow → ℕ → List ℕ → Res IndexRead Flow Left
  indexed h g m cs = sidx_d (under top slot depth) (span_of h) g m cs

  abbrev below : IndexRead → Flow → ℕ → List ℕ → Went'
  below x g m cs = inner (suc depth) (inner_level x slot) g m cs

  high : (h : Header) → AtMostEach 5 (inner_faults depth h)
  high h = beyond_high h.pos (inner_faults depth h) (inner_beyond depth h)

  abbrev shown : Header → Flow → ℕ → List ℕ → Res IndexRead Flow Left
  shown = shown_d (inner_kind top slot depth) indexed base end at s F here ends high

  abbrev Reading : Went'
  Reading = reading_at (slot_d inner top depth true slot) base s so work table

  slot_head : Reading ≡ after (on_head left base s F shown (head_at s at end)) below
  unfolding slot_d
  slot_head =
      let far : so.n - base ≡ at = omega arith in
      ap (λ (n : ℕ). slot_d inner top depth true slot F n (drop (so.n - base) s)) pos
      ∙ ap (λ (n : ℕ). slot_d inner top depth true slot F (base + at) (drop n s)) far
      ∙ ap (λ (x : Res IndexRead Flow Left). after x below) (box_descent (inner_kind top slot depth) indexed base end at s F here ends high)

  -- the header is not read
  pub inner_off : (x : Halt) → head_at s at end ≡ Err x → went_d base s work table (Err (placed_of base so.leaves x)) ≡ Reading
  inner_off x e =
      head_out base s so work table shown below x
      ∙ ap (λ (q : HeadRead). after (on_head left base s F shown q) below) (sym e)
      ∙ sym slot_head

  -- the header is read
  module _ (h : Header) (is : head_at s at end ≡ Ok h) (stands : h.pos ≡ at) (flaw : Option ℕ) (told : flaw ≡ numbered (flaw_of (inner_faults depth (placed base h)))) where
    abbrev m : ℕ
    m = base + (h.pos + h.head)

    headed : Reading ≡ after (unless (inner_faults depth (placed base h)) (λ x. fail x (left F) m) (indexed (placed base h) F m (drop (h.pos + h.head) s))) below
    unfolding on_head
    headed = slot_head ∙ ap (λ (q : HeadRead). after (on_head left base s F shown q) below) is

    -- and shows a fault
    pub inner_flawed : (number : ℕ) → flaw ≡ Some number → went_d base s work table (Err (placed_of base so.leaves (halt.Bad (stop_at number at (at + h.head))))) ≡ Reading
    unfolding went_d either
    inner_flawed number z =
        let q : at + h.head ≡ h.pos + h.head = omega arith in
        ap (λ (n : ℕ). fail (refusal number (base + at)) (left F) (base + n)) q
        ∙ ap (λ (n : ℕ). fail (refusal number (base + n)) (left F) m) (sym stands)
        ∙ sym (headed ∙ ap (λ (x : Res IndexRead Flow Left). after x below)
        (told_some (base + h.pos) (inner_faults depth (placed base h)) (inner_beyond depth (placed base h)) flaw told (λ x. fail x (left F) m) _ number z))

    -- and shows none
    pub inner_clean : flaw ≡ None → Reading ≡ after (indexed (placed base h) F m (drop (h.pos + h.head) s)) below
    inner_clean z =
        headed ∙ ap (λ (x : Res IndexRead Flow Left). after x below)
        (told_none (base + h.pos) (inner_faults depth (placed base h)) (inner_beyond depth (placed base h)) flaw told (λ x. fail x (left F) m) _ z)

-- The index in that box, and what it indexes.
module _ (base : ℕ) (s : List ℕ) (levels' : ℕ) (top : Top) (slot : Slot) (h : Header) (so : Reached) (work table work' : List ℕ) (r : IndexAnswer)
    (walk : IndexWalked (places.Under top slot (depth_at levels')) so.now base s h.pos (h.pos + h.head) (h.pos + h.size) work work' r) where
  abbrev G : Flow
  G = flow_at so work table

  abbrev under' : IndexRead → Flow → ℕ → List ℕ → Went'
  under' x g m cs = below_d levels' top (suc (depth_at levels')) (inner_level x slot) g m cs

  index_read : index_d base s (h.pos + h.size) (with_work G work') r
      ≡ sidx_d (under top slot (depth_at levels')) (span_of (placed base h)) G (base + (h.pos + h.head)) (drop (h.pos + h.head) s)
  index_read =
      let q : base + (h.pos + h.size) ≡ base + h.pos + h.size = omega arith in
      walk.right G refl refl
      ∙ ap (λ (e : ℕ). sidx_d (under top slot (depth_at levels')) (record { pos = base + h.pos; end = e }) G (base + (h.pos + h.head)) (drop (h.pos + h.head) s)) q

  -- it is not read
  pub body_off : (x : Halt) → r ≡ Err x → went_d base s work' table (Err (placed_of base so.leaves x)) ≡ inner_body_at levels' top slot base s h so work table
  body_off x q =
      index_out base s so work table (h.pos + h.size) work' under' x
      ∙ ap (λ (w : IndexAnswer). after (index_d base s (h.pos + h.size) (with_work G work') w) under') (sym q)
      ∙ ap (λ (x : Res IndexRead Flow Left). after x under') index_read

  -- it is read: its entries, with a level less
  pub body_on : (x : IndexRead) → r ≡ Ok x → 2 ≤ levels' → levels' ≤ 4 →
      reading_at (entries_d (levels' - 1) top (inner_level x slot)) base s
      (record { n = base + (h.pos + h.size); now = so.now; leaves = so.leaves; last = so.last }) work' table
      ≡ inner_body_at levels' top slot base s h so work table
  unfolding index_d either
  body_on x is a b =
      let end : ℕ = h.pos + h.size in
      let far : base + end - base ≡ end = omega arith in
      under_entries levels' top (inner_level x slot) (flow_at so work' table) (base + end) (drop (base + end - base) s) a b refl
      ∙ ap (λ (d : ℕ). below_d levels' top (suc (depth_at levels')) (inner_level x slot) (flow_at so work' table) (base + end) (drop d s)) far
      ∙ ap (λ (q : IndexAnswer). after (index_d base s end (with_work G work') q) under') (sym is)
      ∙ ap (λ (q : Res IndexRead Flow Left). after q under') index_read

-- what an index that was read says
pub index_fixed : (s : List ℕ) (end : ℕ) (r : IndexAnswer) (x : IndexRead) → r ≡ Ok x → IndexFixed s end r → IndexFixed s end (Ok x)
index_fixed s end r x e f = subst (λ (q : IndexAnswer). IndexFixed s end q) e f

-- where a header's fault lies
pub head_low : (s : List ℕ) (at end : ℕ) (x : Halt) → head_at s at end ≡ Err x → at < end → end ≤ limit → HaltLow x
head_low s at end x e some h = low x (subst (FaultWithin end) e (head_within s at end some))
  where
    low : (q : Halt) → FaultWithin end (Err q) → HaltLow q
    low (halt.Bad x) w = (omega (arith, w.0), omega (arith, w.1))
    low halt.Ended w = tt
