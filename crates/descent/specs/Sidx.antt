-- An index box by structure: its numbers one after the other, then its entries. The tests are those of the byte definition.
use Rattle.std.specs.Prelude.{ℕ, zero, suc, List, eqb}
use Rattle.machine.specs.Faults.{unless}
use Rattle.machine.specs.Run.{Res, okay, fail, field_d, plain}
use Rattle.state.specs.declared.Span.{Span}
use Rattle.state.specs.declared.Draft.{Draft}
use Rattle.state.specs.declared.Sums.{Sums}
use Rattle.state.specs.declared.IndexRead.{IndexRead}
use Rattle.state.specs.declared.EntryPart.TheVariants as entry
use Rattle.state.specs.Flow.{Flow, Left, left}
use Rattle.state.specs.Sidx.{Place, wide_more, index_of, plus_size, plus_duration, next_entry, keep_byte}
use Rattle.state.specs.Sidx.{sidx_version_faults, id_faults, scale_faults, time_faults, offset_faults, count_faults, sum_faults, entry_size_faults}

abbrev Res' : Type 0
Res' = Res IndexRead Flow Left

module _ (p : Place) (span : Span) where
  unfoldable pub close_d : IndexRead → Flow → ℕ → List ℕ → Res'
  close_d x f n bs = unless (sum_faults p span x f.now n) (λ y. fail y (left f) n) (okay x f n bs)

  -- one entry: its size, its duration, its SAP word
  unfoldable pub entry_d : (Sums → Flow → ℕ → List ℕ → Res') → Sums → Flow → ℕ → List ℕ → Res'
  entry_d more s f n bs =
      field_d left (keep_byte p entry.Size s)
      (λ word g m cs.
      unless (entry_size_faults span word) (λ x. fail x (left g) m)
      (field_d left (keep_byte p entry.Duration (plus_size s word))
      (λ duration h k ds.
      field_d left (keep_byte p entry.Sap (plus_duration (plus_size s word) duration)) (λ sap i l es. more (plus_duration (plus_size s word) duration) i l es) 4 0 h k ds)
      4 0 g m cs))
      4 0 f n bs

  -- one entry and so many after it
  unfoldable pub entries_d : Draft → ℕ → Sums → Flow → ℕ → List ℕ → Res'
  entries_d d zero s f n bs = entry_d (λ t g m cs. close_d (index_of d t) g m cs) s f n bs
  entries_d d (suc k) s f n bs = entry_d (λ t g m cs. entries_d d k (next_entry t) g m cs) s f n bs

  -- a count from 1 on: that many entries
  unfoldable pub counted_d : Draft → ℕ → ℕ → Flow → ℕ → List ℕ → Res'
  counted_d d v zero f n bs = close_d (index_of d (record { next = 0; count = v; sizes = 0; durations = 0 })) f n bs
  counted_d d v (suc k) f n bs = entries_d d k (record { next = 0; count = v; sizes = 0; durations = 0 }) f n bs

  unfoldable pub count_d : Draft → ℕ → Flow → ℕ → List ℕ → Res'
  count_d d v f n bs = unless (count_faults span v n) (λ x. fail x (left f) n) (counted_d d v v f n bs)

  unfoldable pub reserved_d : Draft → ℕ → Flow → ℕ → List ℕ → Res'
  reserved_d d v f n bs = field_d left plain (count_d d) 2 0 f n bs

  unfoldable pub offset_d : Draft → ℕ → Flow → ℕ → List ℕ → Res'
  offset_d d v f n bs =
      unless (offset_faults p span v) (λ x. fail x (left f) n)
      (field_d left plain (reserved_d (record { wide = d.wide; id = d.id; scale = d.scale; time = d.time; offset = v })) 2 0 f n bs)

  unfoldable pub time_d : Draft → ℕ → Flow → ℕ → List ℕ → Res'
  time_d d v f n bs =
      unless (time_faults p span f.now v) (λ x. fail x (left f) n)
      (field_d left plain (offset_d (record { wide = d.wide; id = d.id; scale = d.scale; time = v; offset = 0 })) (suc (wide_more d.wide)) 0 f n bs)

  unfoldable pub scale_d : Draft → ℕ → Flow → ℕ → List ℕ → Res'
  scale_d d v f n bs =
      unless (scale_faults p span v) (λ x. fail x (left f) n)
      (field_d left plain (time_d (record { wide = d.wide; id = d.id; scale = v; time = 0; offset = 0 })) (suc (wide_more d.wide)) 0 f n bs)

  unfoldable pub id_d : Draft → ℕ → Flow → ℕ → List ℕ → Res'
  id_d d v f n bs =
      unless (id_faults p span v) (λ x. fail x (left f) n)
      (field_d left plain (scale_d (record { wide = d.wide; id = v; scale = 0; time = 0; offset = 0 })) 4 0 f n bs)

  unfoldable pub flags_d : Draft → ℕ → Flow → ℕ → List ℕ → Res'
  flags_d d v f n bs = field_d left plain (id_d d) 4 0 f n bs

  unfoldable pub version_d : ℕ → Flow → ℕ → List ℕ → Res'
  version_d v f n bs =
      unless (sidx_version_faults span v n) (λ x. fail x (left f) n)
      (field_d left plain (flags_d (record { wide = eqb v 1; id = 0; scale = 0; time = 0; offset = 0 })) 3 0 f n bs)

  -- the body of a `sidx`
  unfoldable pub sidx_d : Flow → ℕ → List ℕ → Res'
  sidx_d f n bs = field_d left plain version_d 1 0 f n bs
