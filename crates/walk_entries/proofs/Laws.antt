-- What the answer of a header, a leaf, an index or an entry makes of the descent's reading of entries.
use Prim.Native.Nat.{ℕ, suc, ◌+◌, ◌-◌, ◌*◌, ◌≤◌, ◌<◌}
use mathlib.Core.Path.{◌≡◌, refl, ap, sym, subst, ◌∙◌}
use mathlib.Core.List.{List}
use mathlib.Core.Bool.{Bool, true, false}
use mathlib.Core.Logic.{◌⊎◌, inl, inr, ◌≢◌}
use native.Mathlib.Omega.{arith}
use native.Mathlib.Numerals.{add-one}
use lib.ListN.{length, drop, drop_of_length-le}
use lib.Seq.{drop-cons}
use Rattle.fields.specs.declared.Halt.{Halt}
use Rattle.std.specs.Prelude.{Result, Ok, Err}
use Rattle.basics.proofs.Picks.{lt_or_ge}
use Rattle.machine.specs.Faults.{refusal, shows, unless, lowest}
use Rattle.machine.specs.Run.{Res, okay, fail, cut, either, after}
use Rattle.machine.specs.declared.Header.{Header}
use Rattle.table.specs.Table.{put_record}
use Rattle.state.specs.Rows.{no_room}
use Rattle.state.specs.declared.Top.{Top}
use Rattle.state.specs.declared.Level.{Level}
use Rattle.state.specs.declared.Slot.{Slot}
use Rattle.state.specs.declared.Seen.{Seen}
use Rattle.state.specs.declared.IndexRead.{IndexRead}
use Rattle.state.specs.declared.StoredEntry.{StoredEntry}
use Rattle.state.specs.Flow.{Flow, Left, left, with_work, listed, level_bytes}
use Rattle.state.specs.Calls.{flow_of}
use Rattle.state.specs.Levels.{altered, entry_at, slot_of, took}
use Rattle.state.specs.Stages.{leaf_record}
use Rattle.segment.specs.Constants.{limit, entry_bytes}
use Rattle.state.proofs.Phases.{Unaltered, unaltered}
use Rattle.descent.specs.Whole.{UnderD, slot_d, read_back_d, entry_part_d, entry_parts_d, under_d}
use Rattle.descent.specs.Leaf.{leaf_d}
use Rattle.fields.specs.Onward.{halted, on_head}
use Rattle.walk_leaf.specs.Views.{walked_d, LeafHalt, LeafFixed, LeafWalked}
use Rattle.walk_index.specs.Parts.{HaltIn}
use Rattle.walk_index.specs.Views.{IndexAnswer, index_d, IndexFixed}
use Rattle.walk_entries.specs.Views.{flow_at, Went, went_d, placed_of, HaltLow, below_d, depth_at, entries_d, reading_at}
use Rattle.walk_entries.specs.Views.{Stands, StandsOn, Carried, Asks, SlotAsks}
use Rattle.walk_entries.specs.declared.Reached.{Reached}
use Rattle.std.specs.Result.{IsErrAnd}
use Rattle.std.proofs.lemmas.Result.{err_from_is_err_and}
use Rattle.walk_entries.specs.declared.Broken.{Broken}
use Rattle.walk_entries.specs.declared.Broken.TheVariants as broken
use Rattle.fields.specs.declared.Halt.TheVariants as halt

abbrev Went' : Type 0
Went' = Res (Unit {0}) Flow Left

module _ (base : ℕ) (s : List ℕ) (so : Reached) (work table : List ℕ) where
  abbrev F : Flow
  F = flow_at so work table

  -- what goes out where a header was not read
  pub head_out : (shown : Header → Flow → ℕ → List ℕ → Res IndexRead Flow Left) (k : IndexRead → Flow → ℕ → List ℕ → Went') (x : Halt) →
      went_d base s work table (Err (placed_of base so.leaves x)) ≡ after (on_head left base s F shown (Err x)) k
  unfolding went_d on_head halted either
  head_out shown k (halt.Bad x) = refl
  head_out shown k halt.Ended = refl

  -- where a leaf was not read
  pub leaf_out : (end : ℕ) (k : Seen → Flow → ℕ → List ℕ → Went') (x : Halt) → went_d base s work table (Err (placed_of base so.leaves x)) ≡ after (walked_d base s end F (Err x)) k
  unfolding went_d walked_d halted either
  leaf_out end k (halt.Bad x) = refl
  leaf_out end k halt.Ended = refl

  -- where an index was not read
  pub index_out : (end : ℕ) (work' : List ℕ) (k : IndexRead → Flow → ℕ → List ℕ → Went') (x : Halt) →
      went_d base s work' table (Err (placed_of base so.leaves x)) ≡ after (index_d base s end (with_work F work') (Err x)) k
  unfolding went_d index_d halted either
  index_out end work' k (halt.Bad x) = refl
  index_out end work' k halt.Ended = refl

-- A leaf entry.
module _ (base : ℕ) (s : List ℕ) (so : Reached) (work table : List ℕ) (slot : Slot) (inner : UnderD) (top : Top) (depth end n : ℕ) (bs : List ℕ) (r : Result Seen Halt)
    (read : walked_d base s end (flow_at so work table) r ≡ leaf_d top.id slot (flow_at so work table) n bs) where
  -- its record is put, and the time line goes on to its end
  abbrev give : Seen → Flow → ℕ → List ℕ → Went'
  give seen g m cs = okay tt (listed g (leaf_record slot g.now seen.first) slot.until seen.last) m cs

  abbrev Slot' : Went'
  Slot' = slot_d inner top depth false slot (flow_at so work table) n bs

  -- it is listed
  pub leaf_on : (k : Seen) → r ≡ Ok k → slot.end ≡ base + end →
      went_d base s work (put_record table so.leaves (leaf_record slot so.now k.first))
      (Ok (record { n = slot.end; now = slot.until; leaves = so.leaves + 1; last = k.last })) ≡ Slot'
  unfolding went_d walked_d slot_d listed either
  leaf_on k is ends =
      let there : base + end ≡ slot.end = sym ends in
      let far : end ≡ slot.end - base = omega arith in
      let table' : List ℕ = put_record table so.leaves (leaf_record slot so.now k.first) in
      ap (λ (v : ℕ). okay tt (flow_of v slot.until k.last work table') slot.end (drop (slot.end - base) s)) (add-one so.leaves)
      ∙ ap (λ (d : ℕ). okay tt (flow_of (suc so.leaves) slot.until k.last work table') slot.end (drop d s)) (sym far)
      ∙ ap (λ (m : ℕ). okay tt (flow_of (suc so.leaves) slot.until k.last work table') m (drop end s)) ends
      ∙ ap (λ (w : Result Seen Halt). after (walked_d base s end (flow_at so work table) w) give) (sym is)
      ∙ ap (λ (x : Res Seen Flow Left). after x give) read

  -- it is not read
  pub leaf_off : (x : Halt) → r ≡ Err x → went_d base s work table (Err (placed_of base so.leaves x)) ≡ Slot'
  unfolding slot_d
  leaf_off x q =
      leaf_out base s so work table end give x
      ∙ ap (λ (w : Result Seen Halt). after (walked_d base s end (flow_at so work table) w) give) (sym q)
      ∙ ap (λ (x : Res Seen Flow Left). after x give) read

-- what the leaf's walk says of the entry
module _ (base : ℕ) (s : List ℕ) (so : Reached) (slot : Slot) (asks : SlotAsks base s slot so) (full : Bool) (id at end : ℕ) (r : Result Seen Halt)
    (walk : LeafWalked s full id at end so.last r) (from : at ≡ slot.pos - base) (to : end ≡ slot.end - base) where
  pub leaf_read : (work table : List ℕ) → no_room so.leaves table ≡ full → (top : Top) → top.id ≡ id →
      walked_d base s end (flow_at so work table) r ≡ leaf_d top.id slot (flow_at so work table) so.n (drop (so.n - base) s)
  leaf_read work table room top is =
      let stands = asks.stands in
      let pos : slot.pos ≡ base + at = omega arith in
      let ends : slot.end ≡ base + end = omega arith in
      let n : base + at ≡ so.n = omega arith in
      let far : at ≡ so.n - base = omega arith in
      let f : Flow = flow_at so work table in
      walk.right base slot f pos ends refl room
      ∙ ap (λ (m : ℕ). leaf_d id slot f m (drop at s)) n
      ∙ ap (λ (m : ℕ). leaf_d id slot f so.n (drop m s)) far
      ∙ ap (λ (m : ℕ). leaf_d m slot f so.n (drop (so.n - base) s)) (sym is)

-- where a refusal's place and byte lie
pub leaf_low : (end : ℕ) (x : Halt) → end ≤ limit → LeafHalt end x → HaltLow x
leaf_low end (halt.Bad x) h f = (omega (arith, f.1), omega (arith, f.2))
leaf_low end halt.Ended h f = tt

pub leaf_halt : (s : List ℕ) (end : ℕ) {r : Result Seen Halt} {x : Halt} → r ≡ Err x → LeafFixed s end r → LeafHalt end x
leaf_halt s end e f = subst (λ (w : Result Seen Halt). LeafFixed s end w) e f

pub index_low : (end : ℕ) (x : Halt) → end ≤ limit → HaltIn end x → HaltLow x
index_low end (halt.Bad x) h f = (omega (arith, f.1), omega (arith, f.2))
index_low end halt.Ended h f = tt

pub index_halt : (s : List ℕ) (end : ℕ) {r : IndexAnswer} {x : Halt} → r ≡ Err x → IndexFixed s end r → HaltIn end x
index_halt s end e f = subst (λ (w : IndexAnswer). IndexFixed s end w) e f

-- what `?` hands on
pub handed : {T : Type 0} {r : Result T Broken} {x : Broken} → IsErrAnd r (λ y. y ≡ x) → r ≡ Err x
handed {T} {r} {x} h = let p = err_from_is_err_and r h in p.1 ∙ ap (λ (y : Broken). Err y) p.2

-- the bytes of a leaf that was read are there
pub leaf_there : (s : List ℕ) (end : ℕ) (r : Result Seen Halt) (k : Seen) → r ≡ Ok k → LeafFixed s end r → end ≤ length s
leaf_there s end r k e f = (subst (λ (w : Result Seen Halt). LeafFixed s end w) e f).1

-- An entry that is read back.
module _ (base : ℕ) (s : List ℕ) (so : Reached) (work table : List ℕ) (inner : UnderD) (top : Top) (depth : ℕ) (l : Level) (after-base : base ≤ so.n) where
  abbrev Part : Went'
  Part = reading_at (entry_part_d inner top depth l) base s so work table

  abbrev Back : StoredEntry → Went'
  Back e = reading_at (read_back_d inner top depth l e) base s so work table

  -- the bytes end before it
  pub entry_ends_lem : so.n ≡ base + length s → went_d base s work table (Err (broken.Ended so.leaves)) ≡ Part
  unfolding went_d entry_part_d
  entry_ends_lem e =
      let d : length s ≤ so.n - base = omega arith in
      ap (cut (left (flow_at so work table))) (sym e) ∙ sym (ap (entry_part_d inner top depth l (flow_at so work table) so.n) (drop_of_length-le s d))

  -- its first byte is there
  pub entry_there : so.n < base + length s → Part ≡ Back (entry_at work (level_bytes * (depth - 1) + entry_bytes * l.next))
  unfolding entry_part_d
  entry_there h =
      let d : so.n - base < length s = omega arith in
      let whole = drop-cons s (so.n - base) 0 d in
      ap (entry_part_d inner top depth l (flow_at so work table) so.n) whole
      ∙ ap (read_back_d inner top depth l (entry_at work (level_bytes * (depth - 1) + entry_bytes * l.next)) (flow_at so work table) so.n) (sym whole)

  module _ (e : StoredEntry) where
    pub back_altered : altered l e so.now so.n ≡ true →
        went_d base s work table (Err (broken.Bad (record { number = 12; place = so.n; count = so.n + 1; leaves = so.leaves }))) ≡ Back e
    unfolding went_d read_back_d unless shows lowest
    back_altered a = rw a (ap (fail (refusal 12 so.n) (left (flow_at so work table))) (add-one so.n))

    pub back_stands : altered l e so.now so.n ≡ false → Back e ≡ reading_at (slot_d inner top depth e.inner (slot_of e so.now so.n)) base s so work table
    unfolding read_back_d unless shows
    back_stands a = rw a

-- The entries of an index, one after the other.
module _ (left : ℕ) (top : Top) (l : Level) (f : Flow) (n : ℕ) (bs : List ℕ) where
  pub none_to_come : l.count ≤ l.next → entries_d left top l f n bs ≡ okay tt f n bs
  unfolding entry_parts_d
  none_to_come h =
      let q : l.count - l.next ≡ 0 = omega arith in
      ap (λ (k : ℕ). entry_parts_d (below_d left top) top (depth_at left) k l f n bs) q

  pub one_to_come : l.next < l.count →
      entries_d left top l f n bs ≡ after (entry_part_d (below_d left top) top (depth_at left) l f n bs) (λ u g m cs. entries_d left top (took l) g m cs)
  unfolding entry_parts_d
  one_to_come h =
      let q : l.count - l.next ≡ suc (l.count - suc l.next) = omega arith in
      ap (λ (k : ℕ). entry_parts_d (below_d left top) top (depth_at left) k l f n bs) q

-- an index with a level less
pub under_entries : (levels : ℕ) (top : Top) (l : Level) (f : Flow) (n : ℕ) (bs : List ℕ) → 2 ≤ levels → levels ≤ 4 → l.next ≡ 0 →
    entries_d (levels - 1) top l f n bs ≡ below_d levels top (suc (depth_at levels)) l f n bs
unfolding under_d
under_entries levels top l f n bs a b e =
    let m : ℕ = levels - 2 in
    let one : levels - 1 ≡ suc m = omega arith in
    let two : levels - 1 - 1 ≡ m = omega arith in
    let d : 5 - (levels - 1) ≡ suc (5 - levels) = omega arith in
    let k : l.count - l.next ≡ l.count = omega arith in
    let below : ℕ → UnderD = λ (x : ℕ) (z : ℕ) (l' : Level) (g : Flow) (i : ℕ) (cs : List ℕ). under_d x top z l' g i cs in
    ap (λ (x : ℕ). entry_parts_d (below x) top (5 - (levels - 1)) (l.count - l.next) l f n bs) two
    ∙ ap (λ (x : ℕ). entry_parts_d (below m) top x (l.count - l.next) l f n bs) d
    ∙ ap (λ (x : ℕ). entry_parts_d (below m) top (suc (5 - levels)) x l f n bs) k
    ∙ sym (ap (λ (x : ℕ). under_d x top (suc (5 - levels)) l f n bs) one)

-- what follows an answer that leads nowhere
module _ (base : ℕ) (s work table : List ℕ) where
  pub went_off : (k : Unit {0} → Flow → ℕ → List ℕ → Went') (x : Broken) → went_d base s work table (Err x) ≡ after (went_d base s work table (Err x)) k
  unfolding went_d either
  went_off k (broken.Bad x) = refl
  went_off k (broken.Ended n) = refl

-- within an entry is within its index
pub stands_wider : (base : ℕ) (s : List ℕ) (end until end' until' : ℕ) (r : Went) → end ≤ end' → until ≤ until' → StandsOn base s end until r → StandsOn base s end' until' r
stands_wider base s end until end' until' (Ok so) a b h = record { after = h.after; inside = h.inside; within = omega arith; timely = omega arith; few = h.few }
stands_wider base s end until end' until' (Err x) a b h = tt

-- An entry that stands, by what was read back.
module _ (left : ℕ) (l : Level) (base : ℕ) (s work : List ℕ) (so : Reached) (asks : Asks left l base s work so) (more : l.next < l.count) (e : StoredEntry)
    (fine : altered l e so.now so.n ≡ false) (slot : Slot) (is : slot_of e so.now so.n ≡ slot) where
  ends_within : (slot_of e so.now so.n).end ≤ l.end
  ends_within = at (lt_or_ge (suc l.next) l.count)
    where
      u : Unaltered l e so.now so.n
      u = unaltered l e so.now so.n fine

      at : (suc l.next < l.count) ⊎ (l.count ≤ suc l.next) → so.n + e.size ≤ l.end
      at (inl h) = let m = u.more (λ (q : suc l.next ≡ l.count). omega arith) in omega arith
      at (inr h) = let (a, b) = u.last (omega arith) in omega arith

  pub slot_within : (slot.end ≤ l.end) × (slot.until ≤ l.until)
  slot_within = let u = unaltered l e so.now so.n fine in (rw (sym is) ends_within, rw (sym is) u.in_time)

  pub slot_asks : SlotAsks base s slot so
  slot_asks =
      let u = unaltered l e so.now so.n fine in
      let some : e.size ≢ 0 = u.some_size in
      let stands = asks.stands in
      let far = ends_within in
      rw (sym is) (record {
        here = refl;
        some = omega arith;
        end = omega arith;
        stands = record { after = omega arith; inside = omega arith; within = omega arith; timely = omega arith; few = omega arith };
      })

-- What an entry that stands carries is what its index's next entry carries.
module _ (left : ℕ) (l : Level) (base : ℕ) (s work table work' table' : List ℕ) (so : Reached) (asks : Asks left l base s work so) (more : l.next < l.count)
    (there : so.n < base + length s) (top : Top) (r : Went) (inner : Bool) (slot : Slot)
    (fine : altered l (entry_at work (level_bytes * (depth_at left - 1) + entry_bytes * l.next)) so.now so.n ≡ false)
    (kind : (entry_at work (level_bytes * (depth_at left - 1) + entry_bytes * l.next)).inner ≡ inner)
    (is : slot_of (entry_at work (level_bytes * (depth_at left - 1) + entry_bytes * l.next)) so.now so.n ≡ slot) where
  abbrev entry : StoredEntry
  entry = entry_at work (level_bytes * (depth_at left - 1) + entry_bytes * l.next)

  entry_reading : reading_at (slot_d (below_d left top) top (depth_at left) inner slot) base s so work table ≡ reading_at (entry_part_d (below_d left top) top (depth_at left) l) base s so work table
  entry_reading =
      ap (λ (i : Bool). reading_at (slot_d (below_d left top) top (depth_at left) i slot) base s so work table) (sym kind)
      ∙ ap (λ (x : Slot). reading_at (slot_d (below_d left top) top (depth_at left) entry.inner x) base s so work table) (sym is)
      ∙ sym (entry_there base s so work table (below_d left top) top (depth_at left) l asks.stands.after there
      ∙ back_stands base s so work table (below_d left top) top (depth_at left) l asks.stands.after entry fine)

  pub entry_carried : Carried base s slot.end slot.until work table work' table' r (reading_at (slot_d (below_d left top) top (depth_at left) inner slot) base s so work table) →
      Carried base s l.end l.until work table work' table' r (reading_at (entry_part_d (below_d left top) top (depth_at left) l) base s so work table)
  entry_carried c =
      let w = slot_within left l base s work so asks more entry fine slot is in
      record {
        right = c.right ∙ entry_reading;
        work_long = c.work_long;
        table_long = c.table_long;
        stands = stands_wider base s slot.end slot.until l.end l.until r w.0 w.1 c.stands;
      }

-- The entry that is to come, and those after it.
module _ (left : ℕ) (top : Top) (l : Level) (base : ℕ) (s : List ℕ) (so : Reached) (work table work' table' : List ℕ) (r : Went) (more : l.next < l.count)
    (right : went_d base s work' table' r ≡ reading_at (entry_part_d (below_d left top) top (depth_at left) l) base s so work table) where
  abbrev others : Unit {0} → Flow → ℕ → List ℕ → Went'
  others u g m cs = entries_d left top (took l) g m cs

  carries : after (went_d base s work' table' r) others ≡ reading_at (entries_d left top l) base s so work table
  carries = ap (λ (x : Went'). after x others) right ∙ sym (one_to_come left top l (flow_at so work table) so.n (drop (so.n - base) s) more)

  -- it leads nowhere
  pub entry_off : (x : Broken) → r ≡ Err x → went_d base s work' table' (Err x) ≡ reading_at (entries_d left top l) base s so work table
  entry_off x q = went_off base s work' table' others x ∙ ap (λ (w : Went). after (went_d base s work' table' w) others) (sym q) ∙ carries

  -- it is passed
  pub entry_on : (so' : Reached) → r ≡ Ok so' →
      reading_at (entries_d left top (record { next = l.next + 1; count = l.count; end = l.end; until = l.until })) base s so' work' table'
      ≡ reading_at (entries_d left top l) base s so work table
  unfolding went_d either
  entry_on so' is =
      ap (λ (n : ℕ). reading_at (entries_d left top (record { next = n; count = l.count; end = l.end; until = l.until })) base s so' work' table') (add-one l.next)
      ∙ ap (λ (q : Went). after (went_d base s work' table' q) others) (sym is)
      ∙ carries

-- none is to come
pub entries_over : (left : ℕ) (top : Top) (l : Level) (base : ℕ) (s : List ℕ) (so : Reached) (work table : List ℕ) → l.count ≤ l.next →
    went_d base s work table (Ok so) ≡ reading_at (entries_d left top l) base s so work table
unfolding went_d
entries_over left top l base s so work table h = sym (none_to_come left top l (flow_at so work table) so.n (drop (so.n - base) s) h)

-- where an answer that goes on stands
pub stands_on : (base : ℕ) (s : List ℕ) (end until : ℕ) (r : Went) (so : Reached) → r ≡ Ok so → StandsOn base s end until r → Stands base s end until so
stands_on base s end until r so e h = subst (StandsOn base s end until) e h

-- Between two entries: what is left, read from here, gives what the whole gives.
pub record Going (left : ℕ) (top : Top) (base : ℕ) (s : List ℕ) (l₀ l : Level) (so₀ so : Reached) (work₀ table₀ work table : List ℕ) : Type 0 where
  pub count : l.count ≡ l₀.count
  pub end : l.end ≡ l₀.end
  pub until : l.until ≡ l₀.until
  pub next : l.next ≤ l.count
  pub stands : Stands base s l.end l.until so
  pub work_long : length work ≡ length work₀
  pub table_long : length table ≡ length table₀
  pub rest : reading_at (entries_d left top l) base s so work table ≡ reading_at (entries_d left top l₀) base s so₀ work₀ table₀
