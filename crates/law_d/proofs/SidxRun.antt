-- An index box by structure is the index box read byte by byte.
use Prim.Native.Nat.{ℕ, zero, suc, ◌+◌, ◌*◌}
use mathlib.Core.Path.{◌≡◌, refl, ap, sym, ◌∙◌}
use mathlib.Core.List.{List, []}
use mathlib.Core.Bool.{false, not, true≢false, ◌||◌}
use native.Mathlib.Omega.{arith}
use lib.Dec.{eqb, ltb}
use borrow.Author.Tests.{eq-eqb, ne_eqb}
use Rattle.basics.proofs.Picks.{pick_yes, pick_no}
use Rattle.basics.proofs.Tests.{or_neither}
use Rattle.segment.specs.Constants.{entry_bytes, most_entries}
use Rattle.machine.specs.Faults.{shows}
use Rattle.machine.specs.Run.{Sub, go, Res, cont_by, cont, field_d, plain}
use Rattle.machine.proofs.Faults.{unless_both, unless_with, none_second, shows_none}
use Rattle.machine.proofs.Fields.{field_run}
use Rattle.state.specs.declared.Span.{Span}
use Rattle.state.specs.declared.Draft.{Draft}
use Rattle.state.specs.declared.Sums.{Sums}
use Rattle.state.specs.declared.IndexRead.{IndexRead}
use Rattle.state.specs.declared.IndexPart.{IndexPart}
use Rattle.state.specs.declared.IndexPart.TheVariants as part
use Rattle.state.specs.declared.EntryPart.{EntryPart}
use Rattle.state.specs.declared.EntryPart.TheVariants as entry
use Rattle.state.specs.declared.Sidx.{Sidx}
use Rattle.state.specs.declared.Sidx.TheVariants as sidx
use Rattle.state.specs.Flow.{Flow, Left, left}
use Rattle.state.specs.Sidx.{sidx_version_faults, id_faults, scale_faults, time_faults, offset_faults, count_faults, sum_faults, entry_size_faults}
use Rattle.state.specs.Sidx.{Place, draft0, sidx_start, index_of, close_sidx, field_ends, plus_size, plus_duration, next_entry, entry_ends, keep_byte, step_sidx}
use Rattle.descent.specs.Sidx.{close_d, entry_d, entries_d, counted_d, count_d, reserved_d, offset_d, time_d, scale_d, id_d, flags_d, version_d, sidx_d}

module _ (p : Place) (span : Span) where
  -- what follows an answer of the index's machine
  abbrev X : ℕ → List ℕ → Sub Sidx IndexRead Flow Left → Res IndexRead Flow Left
  X n bs r = cont left (step_sidx p span) n bs r

  abbrev Reads : Type 0
  Reads = ℕ → Flow → ℕ → List ℕ → Res IndexRead Flow Left

  -- a number before the entries
  field : (i : IndexPart) (d : Draft) (k : Reads) → ((v : ℕ) (f : Flow) (n : ℕ) (bs : List ℕ) → k v f n bs ≡ X n bs (field_ends p span i d v f n)) →
      (m : ℕ) (f : Flow) (n : ℕ) (bs : List ℕ) → field_d left plain k (suc m) 0 f n bs ≡ X n bs (go (sidx.Field i d m 0) f)
  unfolding step_sidx cont_by
  field i d k ends m f n bs = field_run left (step_sidx p span) plain (sidx.Field i d) (field_ends p span i d) (λ acc g n' b. refl) (λ m' acc g n' b. refl) k ends m 0 f n bs

  -- a number of an entry, each byte of it stored
  word : (e : EntryPart) (d : Draft) (s : Sums) (k : Reads) → ((v : ℕ) (f : Flow) (n : ℕ) (bs : List ℕ) → k v f n bs ≡ X n bs (entry_ends p span e d s v f n)) →
      (f : Flow) (n : ℕ) (bs : List ℕ) → field_d left (keep_byte p e s) k 4 0 f n bs ≡ X n bs (go (sidx.Entry e d s 3 0) f)
  unfolding step_sidx cont_by
  word e d s k ends f n bs = field_run left (step_sidx p span) (keep_byte p e s) (sidx.Entry e d s) (entry_ends p span e d s) (λ acc g n' b. refl) (λ m' acc g n' b. refl) k ends 3 0 f n bs

  close : (x : IndexRead) (f : Flow) (n : ℕ) (bs : List ℕ) → close_d p span x f n bs ≡ X n bs (close_sidx p span x f n)
  unfolding close_d close_sidx cont_by
  close x f n bs = unless_both (λ r. r) (X n bs) _ _ _ _ (sum_faults p span x f.now n) (λ y. refl) refl

  -- an entry, and what follows it
  one_entry : (d : Draft) (s : Sums) (more : Sums → Flow → ℕ → List ℕ → Res IndexRead Flow Left) →
      ((t : Sums) (f : Flow) (n : ℕ) (bs : List ℕ) → t.next ≡ s.next → t.count ≡ s.count → (v : ℕ) → more t f n bs ≡ X n bs (entry_ends p span entry.Sap d t v f n)) →
      (f : Flow) (n : ℕ) (bs : List ℕ) → entry_d p span more s f n bs ≡ X n bs (go (sidx.Entry entry.Size d s 3 0) f)
  unfolding entry_d entry_ends cont_by
  one_entry d s more law f n bs =
      word entry.Size d s _
      (λ v g m cs. unless_both (λ r. r) (X m cs) _ _ _ _ (entry_size_faults span v) (λ x. refl)
      (word entry.Duration d (plus_size s v) _ (λ u h k ds. word entry.Sap d (plus_duration (plus_size s v) u) _
      (λ sap i l es. law (plus_duration (plus_size s v) u) i l es refl refl sap) h k ds) g m cs))
      f n bs

  entries : (d : Draft) (k : ℕ) (s : Sums) → k + suc s.next ≡ s.count → (f : Flow) (n : ℕ) (bs : List ℕ) → entries_d p span d k s f n bs ≡ X n bs (go (sidx.Entry entry.Size d s 3 0) f)
  unfolding entries_d entry_ends
  entries d zero s e f n bs =
      one_entry d s _ (λ t g m cs q q' v. close (index_of d t) g m cs ∙ ap (X m cs) (sym (pick_yes (eqb (suc t.next) t.count) _ _ (eq-eqb (suc t.next) t.count (omega arith))))) f n bs
  entries d (suc k) s e f n bs =
      one_entry d s _
      (λ t g m cs q q' v. entries d k (next_entry t) (omega arith) g m cs
      ∙ ap (X m cs) (sym (pick_no (eqb (suc t.next) t.count) _ _ (ne_eqb (suc t.next) t.count (λ z. omega arith))))) f n bs

  counted : (d : Draft) (v : ℕ) (f : Flow) (n : ℕ) (bs : List ℕ) → eqb v 0 ≡ false →
      counted_d p span d v v f n bs ≡ X n bs (go (sidx.Entry entry.Size d (record { next = 0; count = v; sizes = 0; durations = 0 }) 3 0) f)
  unfolding counted_d
  counted d zero f n bs e = absurd (true≢false e)
  counted d (suc k) f n bs e = entries d k (record { next = 0; count = suc k; sizes = 0; durations = 0 }) (omega arith) f n bs

  -- a count that shows no fault is not 0
  count_some : (v n : ℕ) → count_faults span v n ≡ [] → eqb v 0 ≡ false
  unfolding count_faults
  count_some v n e =
      let zero-or-many = eqb v 0 || ltb most_entries v in
      (or_neither (eqb v 0) (ltb most_entries v)
      (shows_none zero-or-many 11 span.pos
      (none_second (shows (not (eqb span.end (n + entry_bytes * v))) 6 span.pos) (shows zero-or-many 11 span.pos) e))).0

  count_run : (d : Draft) (v : ℕ) (f : Flow) (n : ℕ) (bs : List ℕ) → count_d p span d v f n bs ≡ X n bs (field_ends p span part.Count d v f n)
  unfolding count_d field_ends cont_by
  count_run d v f n bs =
      unless_with (λ r. r) (X n bs) _ _ _ _ (count_faults span v n) (λ x. refl)
      (λ e. counted d v f n bs (count_some v n e))

  -- the body of an index, number after number
  pub sidx_run : (f : Flow) (n : ℕ) (bs : List ℕ) → sidx_d p span f n bs ≡ X n bs (go sidx_start f)
  unfolding sidx_d version_d flags_d id_d scale_d time_d offset_d reserved_d field_ends cont_by
  sidx_run f n bs =
      field part.Version draft0 _ (λ version f n bs. unless_both (λ r. r) (X n bs) _ _ _ _ (sidx_version_faults span version n) (λ x. refl)
      (field part.Flags _ _ (λ flags f n bs.
      field part.Id _ _ (λ id f n bs. unless_both (λ r. r) (X n bs) _ _ _ _ (id_faults p span id) (λ x. refl)
      (field part.Scale _ _ (λ scale f n bs. unless_both (λ r. r) (X n bs) _ _ _ _ (scale_faults p span scale) (λ x. refl)
      (field part.Time _ _ (λ time f n bs. unless_both (λ r. r) (X n bs) _ _ _ _ (time_faults p span f.now time) (λ x. refl)
      (field part.Offset _ _ (λ offset f n bs. unless_both (λ r. r) (X n bs) _ _ _ _ (offset_faults p span offset) (λ x. refl)
      (field part.Reserved _ _ (λ reserved f n bs.
      field part.Count _ _ (count_run _) 1 f n bs) 1 f n bs)) _ f n bs)) _ f n bs)) 3 f n bs)) 3 f n bs) 2 f n bs)) 0 f n bs
