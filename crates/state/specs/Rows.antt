-- The faults that a header shows where it stands, by the rows of document 01's table. Step and descent share them.
use Rattle.std.specs.Prelude.{ℕ, ◌-◌, ◌%◌, List, ◌++◌, Bool, true, false, not, ◌&&◌, ◌||◌, eqb, ltb, leb}
use Rattle.basics.specs.Choose.{pick}
use Rattle.segment.specs.Constants.{levels, styp, sidx, moof, mdat, tfhd, tfdt, tfad}
use Rattle.machine.specs.Faults.{shows}
use Rattle.machine.specs.declared.Refusal.{Refusal}
use Rattle.machine.specs.declared.Header.{Header}
use Rattle.state.specs.declared.TrafPhase.{TrafPhase}
use Rattle.state.specs.declared.TrafPhase.TheVariants as track
use Rattle.state.specs.Flow.{Flow}
use Rattle.table.specs.Table.{room}

-- a header's type is this one
abbrev pub is : Header → ℕ → Bool
is h k = eqb h.kind k

-- how long a box's body is
abbrev pub body_length : Header → ℕ
body_length h = h.size - h.head

-- row 6, at H: `styp` body under 8 or not a multiple of 4, `sidx` under 24
unfoldable pub top_lengths : Header → List Refusal
top_lengths h =
    shows (is h styp && (ltb (body_length h) 8 || not (eqb (body_length h % 4) 0))) 6 h.pos
    ++ shows (is h sidx && ltb (body_length h) 24) 6 h.pos

-- row 7: first box not `styp`, or a later top-level `styp`; row 9: `moof` or `mdat` before the material
unfoldable pub opening_faults : Bool → Header → List Refusal
opening_faults branded h =
    top_lengths h
    ++ (shows (pick branded (is h styp) (not (is h styp))) 7 h.pos
    ++ shows (is h moof || is h mdat) 9 h.pos)

-- row 7: a later top-level `styp`; row 9: `moof` or `mdat` before the material, `sidx` in the gap
unfoldable pub gap_faults : Header → List Refusal
gap_faults h = top_lengths h ++ (shows (is h styp) 7 h.pos ++ shows (is h moof || is h mdat || is h sidx) 9 h.pos)

-- row 15: a leaf beyond the room
abbrev pub no_room : ℕ → List ℕ → Bool
no_room leaves table = leb (room table) leaves

-- row 7: a later top-level `styp`; row 9: `sidx` in a leaf, `mdat` before the leaf's `moof`; row 15 at H of the leaf's first box
unfoldable pub leaf_faults : ℕ → Bool → Header → Flow → List Refusal
leaf_faults pos hadMoof h f =
    top_lengths h
    ++ (shows (is h styp) 7 h.pos
    ++ (shows (is h sidx || is h mdat && not hadMoof) 9 h.pos
    ++ shows (eqb h.pos pos && no_room f.leaves f.table) 15 pos))

-- row 7: a later top-level `styp`; row 9: an index entry not starting with `sidx`; row 13: index on level 5
unfoldable pub inner_faults : ℕ → Header → List Refusal
inner_faults around h =
    top_lengths h
    ++ (shows (is h styp) 7 h.pos
    ++ (shows (not (is h sidx)) 9 h.pos
    ++ shows (is h sidx && leb levels around) 13 h.pos))

-- rule 6: whether a `tfhd` may come, and whether a `tfdt` may
unfoldable pub fresh : TrafPhase → Bool
fresh track.Fresh = true
fresh (track.Headed r) = false
fresh track.Timed = false

unfoldable pub headed_track : TrafPhase → Bool
headed_track track.Fresh = false
headed_track (track.Headed r) = true
headed_track track.Timed = false

-- row 6, at H: `tfhd` or `tfdt` under 8; row 16: `tfdt` before `tfhd`, a second of either; row 17: `tfad` in `traf`
unfoldable pub traf_faults : TrafPhase → Header → List Refusal
traf_faults t h =
    shows ((is h tfhd || is h tfdt) && ltb (body_length h) 8) 6 h.pos
    ++ (shows (is h tfhd && not (fresh t) || is h tfdt && not (headed_track t)) 16 h.pos
    ++ shows (is h tfad) 17 h.pos)
