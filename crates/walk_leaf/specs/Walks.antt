-- What the functions of this crate answer of a box and of a list of boxes.
use Rattle.std.specs.Prelude.{ℕ, ◌+◌, ◌≤◌, ◌≡◌, List, Bool, true, false, not, ◌&&◌, ◌||◌, eqb, length, drop, Result, Ok, Err}
use Rattle.basics.specs.Choose.{pick}
use Rattle.segment.specs.Constants.{limit, styp, sidx, moof, mdat, traf}
use Rattle.machine.specs.Faults.{unless}
use Rattle.machine.specs.Run.{Res, okay, fail, after}
use Rattle.machine.specs.Lists.{boxes_d}
use Rattle.machine.specs.declared.Header.{Header}
use Rattle.state.specs.declared.Span.{Span}
use Rattle.state.specs.declared.Seen.{Seen}
use Rattle.state.specs.declared.Slot.{Slot}
use Rattle.state.specs.declared.LeafSo.{LeafSo}
use Rattle.state.specs.declared.TrafSo.{TrafSo}
use Rattle.state.specs.declared.TrafPhase.{TrafPhase}
use Rattle.state.specs.declared.TrafPhase.TheVariants as track
use Rattle.state.specs.Flow.{Flow, Left, left}
use Rattle.state.specs.Rows.{top_lengths, no_room}
use Rattle.state.specs.Traf.{Gave, timed, fall_faults, reference, traf_now}
use Rattle.state.specs.Leaf.{seen_now, leaf_now, leaf_lacks, leaf_boxes}
use Rattle.descent.specs.Leaf.{traf_body_d, traf_d, moof_body_d, moof_d, leaf_body_d}
use Rattle.fields.specs.Answers.{stop_at}
use Rattle.fields.specs.Onward.{placed, from}
use Rattle.fields.specs.declared.Stop.{Stop}
use Rattle.fields.specs.declared.Halt.{Halt}
use Rattle.fields.specs.declared.Halt.TheVariants as halt
use Rattle.flaws.specs.Flaws.{flaw_of}
use Rattle.walk_leaf.specs.declared.Nest.{Nest}
use Rattle.walk_leaf.specs.declared.Nest.TheVariants as nest
use Rattle.walk_leaf.specs.Views.{walked_d}

-- a header that was read: its bytes are there, and its box ends within the most bytes of a segment
pub record Headed (s : List ℕ) (at : ℕ) (h : Header) : Type 0 where
  pub pos : h.pos ≡ at
  pub short : 8 ≤ h.head
  pub long : h.head ≤ 16
  pub holds : h.head ≤ h.size
  pub far : at + h.size ≤ limit
  pub here : at + h.head ≤ length s

-- a refusal inside a leaf up to `end`: it tells no leaves, no number is above 18, and neither its place nor its byte is after that end
pub record StopIn (end : ℕ) (x : Stop) : Type 0 where
  pub none : x.leaves ≡ 0
  pub low : x.number ≤ 18
  pub place : x.place ≤ end
  pub count : x.count ≤ end

-- what the reading says nothing of: of a refusal; and of what is over, that its bytes are there
abbrev pub HaltIn : ℕ → Halt → Type 0
HaltIn end (halt.Bad x) = StopIn end x
HaltIn end halt.Ended = Unit {0}

abbrev pub WalkFixed : {R : Type 0} → List ℕ → ℕ → Result R Halt → Type 0
WalkFixed s end (Ok k) = end ≤ length s
WalkFixed s end (Err x) = HaltIn end x

-- what is known of decode times, with one more of the reference track
abbrev pub seen_at : Seen → ℕ → Seen
seen_at seen v = record { any = true; first = pick seen.any seen.first v; last = v }

-- A box of a `traf`: what its body gives shows row 18, or is what is then known of the `traf`.
unfoldable pub gave_d : TrafSo → Gave → Flow → ℕ → List ℕ → Res TrafSo Flow Left
gave_d so gave f n bs = unless (fall_faults so.seen.last gave) (λ x. fail x (left f) n) (okay (traf_now so gave) f n bs)

abbrev pub track_d : ℕ → TrafSo → Header → Flow → ℕ → List ℕ → Res TrafSo Flow Left
track_d id so h f n bs = after (traf_body_d id so.track h f n bs) (gave_d so)

pub record TrackWalked (s : List ℕ) (id at : ℕ) (h : Header) (so : TrafSo) (r : Result TrafSo Halt) : Type 0 where
  pub right : (base : ℕ) (f : Flow) → walked_d base s (at + h.size) f r ≡ from left base s f (track_d id so (placed base h)) (at + h.head)
  pub fixed : WalkFixed s (at + h.size) r

-- the decode time of the `tfdt` at a position
pub record TimeWalked (at end : ℕ) (so : TrafSo) (v : ℕ) (r : Result TrafSo Halt) : Type 0 where
  pub right : (base : ℕ) (s : List ℕ) (f : Flow) → walked_d base s end f r ≡ from left base s f (gave_d so (timed (reference so.track) (base + at) v)) end
  pub fixed : (s : List ℕ) → end ≤ length s → WalkFixed s end r

-- whether a `traf` has had its decode time
unfoldable pub is_timed : TrafPhase → Bool
is_timed track.Fresh = false
is_timed (track.Headed r) = false
is_timed track.Timed = true

-- 16 goes before 17 where the `traf` at `pos` ends with that byte and lacks its decode time
unfoldable pub flaw_stop : ℕ → TrafPhase → ℕ → ℕ → ℕ → ℕ → Stop
flaw_stop flaw t pos at end next = pick (eqb flaw 17 && (eqb next end && not (is_timed t))) (stop_at 16 pos next) (stop_at flaw at next)

-- the `traf` at `pos`, from its first box on
pub record TrafWalked (s : List ℕ) (id pos at end : ℕ) (seen : Seen) (r : Result Seen Halt) : Type 0 where
  pub right : (base : ℕ) (span : Span) (f : Flow) → span.pos ≡ base + pos → span.end ≡ base + end → walked_d base s end f r ≡ from left base s f (traf_d id span seen) at
  pub fixed : WalkFixed s end r

-- a box of a `moof`: what is then known of the `moof`
abbrev pub moof_box_d : ℕ → Seen → Header → Flow → ℕ → List ℕ → Res Seen Flow Left
moof_box_d id seen h f n bs = after (moof_body_d id seen h f n bs) (λ p g m cs. okay (seen_now seen p) g m cs)

pub record MoofBoxWalked (s : List ℕ) (id at : ℕ) (h : Header) (seen : Seen) (r : Result Seen Halt) : Type 0 where
  pub right : (base : ℕ) (f : Flow) → walked_d base s (at + h.size) f r ≡ from left base s f (moof_box_d id seen (placed base h)) (at + h.head)
  pub fixed : WalkFixed s (at + h.size) r

-- a `moof`, from its first box on
pub record MoofWalked (s : List ℕ) (id at end : ℕ) (seen : Seen) (r : Result Seen Halt) : Type 0 where
  pub right : (base : ℕ) (f : Flow) → walked_d base s end f r ≡ from left base s f (moof_d id (base + end) seen) at
  pub fixed : WalkFixed s end r

-- a box of a leaf: what is then known of the leaf
abbrev pub leaf_box_d : ℕ → LeafSo → Header → Flow → ℕ → List ℕ → Res LeafSo Flow Left
leaf_box_d id so h f n bs = after (leaf_body_d id so.seen h f n bs) (λ p g m cs. okay (leaf_now so p) g m cs)

pub record LeafBoxWalked (s : List ℕ) (id at : ℕ) (h : Header) (so : LeafSo) (r : Result LeafSo Halt) : Type 0 where
  pub right : (base : ℕ) (f : Flow) → walked_d base s (at + h.size) f r ≡ from left base s f (leaf_box_d id so (placed base h)) (at + h.head)
  pub fixed : WalkFixed s (at + h.size) r

-- the type of a container
unfoldable pub nest_kind : Nest → ℕ
nest_kind nest.Moof = moof
nest_kind nest.Traf = traf

-- the boxes of a container
abbrev pub ListWalked : List ℕ → Nest → ℕ → ℕ → ℕ → ℕ → Seen → Result Seen Halt → Type 0
ListWalked s nest.Moof id pos at end seen r = MoofWalked s id at end seen r
ListWalked s nest.Traf id pos at end seen r = TrafWalked s id pos at end seen r

-- what is known of a leaf after a box of it, from what is then known of the decode times
abbrev pub leaf_of : Bool → Header → Result Seen Halt → Result LeafSo Halt
leaf_of had h (Ok seen) = Ok (record { moof = had || eqb h.kind moof; seen = seen })
leaf_of had h (Err x) = Err x

-- a box of a list in which the boxes of one type are containers: of a leaf, whose `moof` is one, and of a `moof`, whose `traf` is one
abbrev pub BoxWalked : List ℕ → Nest → ℕ → ℕ → Header → Seen → Result Seen Halt → Type 0
BoxWalked s nest.Moof id at h seen r = (had : Bool) → LeafBoxWalked s id at h (record { moof = had; seen = seen }) (leaf_of had h r)
BoxWalked s nest.Traf id at h seen r = MoofBoxWalked s id at h seen r

-- rows 6, 7 and 9 of a header in a leaf, as a number
abbrev pub leaf_flaw : Bool → Header → ℕ
leaf_flaw had h =
    pick (eqb (flaw_of (top_lengths h)) 0) (pick (eqb h.kind styp) 7 (pick (eqb h.kind sidx || eqb h.kind mdat && not had) 9 0)) (flaw_of (top_lengths h))

-- the end of a leaf: rows 15 and 19
unfoldable pub leaf_end_d : Slot → LeafSo → Flow → ℕ → List ℕ → Res Seen Flow Left
leaf_end_d slot so f n bs = unless (leaf_lacks slot so (left f)) (λ x. fail x (left f) n) (okay so.seen f n bs)

-- the boxes of a leaf for which the table has room, up to the leaf's end
pub record LeafListed (s : List ℕ) (id at end : ℕ) (so : LeafSo) (r : Result LeafSo Halt) : Type 0 where
  pub right : (base : ℕ) (slot : Slot) (f : Flow) → slot.end ≡ base + end → no_room f.leaves f.table ≡ false →
      after (walked_d base s end f r) (leaf_end_d slot)
      ≡ boxes_d (leaf_boxes id slot) (λ a. leaf_body_d id a.seen) (length (drop at s)) so f (base + at) (drop at s)
  pub fixed : WalkFixed s end r
