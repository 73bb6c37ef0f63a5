-- What is made of a reading by structure when it is held beside the tree: whether it is accepted, and with what.
use Rattle.std.specs.Prelude.{ℕ, ◌-◌, ◌*◌, List, [], ◌∷◌, Bool, true, false, ◌&&◌, ltb, length, drop}
use Rattle.std.proofs.Math.Option.{Option, some, none}
use Rattle.basics.specs.Choose.{pick}
use Rattle.segment.specs.Constants.{entry_bytes}
use Rattle.segment.specs.Boxes.{Box, sizes, durations}
use Rattle.segment.specs.Boxes as tree
use Rattle.machine.specs.Run.{Res, okay, fail, cut}
use Rattle.machine.specs.Heads.{header}
use Rattle.machine.specs.declared.Refusal.{Refusal}
use Rattle.machine.specs.declared.Header.{Header}
use Rattle.state.specs.declared.Seen.{Seen}
use Rattle.state.specs.declared.Span.{Span}
use Rattle.state.specs.declared.IndexRead.{IndexRead}
use Rattle.state.specs.Flow.{Flow, Left, with_work}
use Rattle.basics.specs.Put.{put_all}
use Rattle.state.specs.Traf.{saw}
use Rattle.state.specs.Sidx.{Place, part_of, id_faults, scale_faults, time_faults, offset_faults, sum_faults}

-- what is made of an accepted reading; nothing where it was refused or cut off
unfoldable pub upon : {R X : Type 0} → Res R Flow Left → (R → Flow → ℕ → List ℕ → Option X) → Option X
upon (okay r f n bs) k = k r f n bs
upon (fail x l n) k = none
upon (cut l n) k = none

-- no fault is shown
unfoldable pub clean : List Refusal → Bool
clean [] = true
clean (x ∷ xs) = false

-- decode times of the reference track that never fall, after those seen
unfoldable pub climb : Seen → List ℕ → Option Seen
climb s [] = some s
climb s (v ∷ vs) = pick (ltb v s.last) none (climb (saw s true v) vs)

-- a box of the tree that starts at a place: how long its header is, and the header
abbrev pub head_length : Box → ℕ
head_length b = b.size - length b.body

abbrev pub header_of : ℕ → Box → Header
header_of pos b = header pos b.kind b.size (head_length b)

-- an index of the tree, as the reader gives it
abbrev pub index_from : tree.Index → IndexRead
index_from i =
    record { id = i.id; scale = i.scale; time = i.time; offset = i.offset; count = length i.entries; sizes = sizes i.entries; durations = durations i.entries }

-- the entry bytes of an index's body, and what flows with them stored in the level's part
abbrev pub entry_part : tree.Index → List ℕ → List ℕ
entry_part i body = drop (length body - entry_bytes * length i.entries) body

abbrev pub with_entries : Flow → Place → tree.Index → List ℕ → Flow
with_entries f p i body = with_work f (put_all f.work (part_of p) (entry_part i body))

-- an index where it stands shows no fault but those that the tree knows of every index
unfoldable pub suits : Place → Span → tree.Index → ℕ → Bool
suits p span i now =
    clean (id_faults p span i.id) && clean (scale_faults p span i.scale) && clean (time_faults p span now i.time) && clean (offset_faults p span i.offset)
    && clean (sum_faults p span (index_from i) now span.end)
