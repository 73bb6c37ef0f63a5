-- What a header shows beyond its size at each place, as tests in the order of their numbers: the lowest number, and that each has the header's place.
use Prim.Native.Nat.{ℕ}
use mathlib.Core.Path.{◌≡◌, refl, ap, sym}
use mathlib.Core.List.{List, [], ◌∷◌, ◌++◌}
use mathlib.Core.Bool.{Bool, true, false, not, ◌&&◌, ◌||◌}
use native.Mathlib.Omega.{arith}
use lib.Dec.{eqb, ltb, leb}
use borrow.Author.Tests.{eqb-true}
use Rattle.basics.specs.Choose.{pick}
use Rattle.basics.proofs.Picks.{pick_no}
use Rattle.segment.specs.Constants.{levels, styp, sidx, moof, mdat, tfhd, tfdt, tfad}
use Rattle.machine.specs.Faults.{shows}
use Rattle.machine.specs.declared.Header.{Header}
use Rattle.machine.proofs.Kept.{Each}
use Rattle.state.specs.Flow.{Flow}
use Rattle.state.specs.Rows.{is, body_length, top_lengths, opening_faults, gap_faults, no_room, leaf_faults, inner_faults, fresh, headed_track, traf_faults}
use Rattle.state.specs.declared.TrafPhase.{TrafPhase}
use Rattle.flaws.specs.Flaws.{flaw_of}
use Rattle.flaws.specs.Marks.{phase_of}
use Rattle.flaws.proofs.Flaws.{Test, shown, first, Beyond, shown_each, flaw_first, length_or, kind_flaws, kind_beyond}
use Rattle.flaws.proofs.Marks.{fresh_mark, headed_mark}

-- up to the top index
module _ (branded : Bool) (h : Header) where
  abbrev unlike : Test
  unlike = (pick branded (is h styp) (not (is h styp)), 7)

  abbrev early : List Test
  early = (is h moof || is h mdat, 9) ∷ []

  pub opening_flaws : flaw_of (opening_faults branded h) ≡ length_or h (first unlike early)
  unfolding opening_faults
  opening_flaws = kind_flaws h unlike early (omega arith)

  pub opening_beyond : Each (Beyond h.pos) (opening_faults branded h)
  unfolding opening_faults
  opening_beyond = kind_beyond h unlike early (omega arith)

-- a later `styp`, after which the places have tests of their own
abbrev later : Header → Test
later h = (is h styp, 7)

-- in the gap
module _ (h : Header) where
  abbrev in_gap : List Test
  in_gap = (is h moof || is h mdat || is h sidx, 9) ∷ []

  pub gap_flaws : flaw_of (gap_faults h) ≡ length_or h (first (later h) in_gap)
  unfolding gap_faults
  gap_flaws = kind_flaws h (later h) in_gap (omega arith)

  pub gap_beyond : Each (Beyond h.pos) (gap_faults h)
  unfolding gap_faults
  gap_beyond = kind_beyond h (later h) in_gap (omega arith)

-- the first box of an index entry
module _ (around : ℕ) (h : Header) where
  abbrev no_index : List Test
  no_index = (not (is h sidx), 9) ∷ (is h sidx && leb levels around, 13) ∷ []

  pub inner_flaws : flaw_of (inner_faults around h) ≡ length_or h (first (later h) no_index)
  unfolding inner_faults
  inner_flaws = kind_flaws h (later h) no_index (omega arith)

  pub inner_beyond : Each (Beyond h.pos) (inner_faults around h)
  unfolding inner_faults
  inner_beyond = kind_beyond h (later h) no_index (omega arith)

-- a leaf beyond the room is a fault of its first box, and so stands at that box's place
beyond_here : (p q : ℕ) (t u : Bool) → (t ≡ true → q ≡ p) → shows (t && u) 15 q ≡ shows (t && u) 15 p
unfolding shows
beyond_here p q true u e = ap (shows u 15) (e refl)
beyond_here p q false u e = refl

-- a last number, where the type shows none, and where neither the length nor the type does
pub after_kind : (s m : Bool) (last : ℕ) → pick s 7 (pick m 9 last) ≡ pick (eqb (pick s 7 (pick m 9 0)) 0) last (pick s 7 (pick m 9 0))
unfolding pick
after_kind true m last = refl
after_kind false true last = refl
after_kind false false last = refl

after_length : (n : ℕ) (s m : Bool) (last : ℕ) (none : Bool) → eqb n 0 ≡ none →
    pick none (pick s 7 (pick m 9 last)) n ≡ pick (eqb (pick none (pick s 7 (pick m 9 0)) n) 0) last (pick none (pick s 7 (pick m 9 0)) n)
unfolding pick
after_length n s m last true e = after_kind s m last
after_length n s m last false e = sym (pick_no (eqb n 0) last n e)

-- in a leaf that starts at `pos`
module _ (pos : ℕ) (had : Bool) (h : Header) (f : Flow) where
  abbrev misplaced : Bool
  misplaced = is h sidx || is h mdat && not had

  -- row 15, at the leaf's first box
  abbrev pub full : Bool
  full = eqb h.pos pos && no_room f.leaves f.table

  -- what its type shows
  abbrev pub leaf_kind : ℕ
  leaf_kind = first (later h) ((misplaced, 9) ∷ [])

  abbrev in_leaf : List Test
  in_leaf = (misplaced, 9) ∷ (full, 15) ∷ []

  tests : leaf_faults pos had h f ≡ top_lengths h ++ shown h.pos (later h) in_leaf
  unfolding leaf_faults
  tests = rw (beyond_here h.pos pos (eqb h.pos pos) (no_room f.leaves f.table) (λ k. sym (eqb-true h.pos pos k)))

  pub leaf_flaws : flaw_of (leaf_faults pos had h f) ≡ length_or h (first (later h) in_leaf)
  leaf_flaws = rw tests (kind_flaws h (later h) in_leaf (omega arith))

  pub leaf_beyond : Each (Beyond h.pos) (leaf_faults pos had h f)
  leaf_beyond = rw tests (kind_beyond h (later h) in_leaf (omega arith))

  -- where the table has room, and where it has none
  pub leaf_roomy : full ≡ false → flaw_of (leaf_faults pos had h f) ≡ length_or h leaf_kind
  unfolding pick
  leaf_roomy e = rw (leaf_flaws, e)

  pub leaf_full : full ≡ true → flaw_of (leaf_faults pos had h f) ≡ pick (eqb (length_or h leaf_kind) 0) 15 (length_or h leaf_kind)
  unfolding pick
  leaf_full e = rw (leaf_flaws, e) (after_length (flaw_of (top_lengths h)) (is h styp) misplaced 15 _ refl)

-- in a `traf`
module _ (t : TrafPhase) (h : Header) where
  abbrev short : Test
  short = ((is h tfhd || is h tfdt) && ltb (body_length h) 8, 6)

  abbrev unordered : List Test
  unordered = (is h tfhd && not (fresh t) || is h tfdt && not (headed_track t), 16) ∷ (is h tfad, 17) ∷ []

  pub traf_flaws : flaw_of (traf_faults t h) ≡ first short unordered
  unfolding traf_faults
  traf_flaws = flaw_first h.pos 6 17 short unordered (omega arith) (omega arith)

  pub traf_beyond : Each (Beyond h.pos) (traf_faults t h)
  unfolding traf_faults
  traf_beyond = shown_each h.pos (Beyond h.pos) 6 17 short unordered (λ k a b. (refl, a, b)) (omega arith)

-- the same, of a number that says how far it has come
pub mark_flaws : (mark : ℕ) (h : Header) → flaw_of (traf_faults (phase_of mark) h)
    ≡ pick ((is h tfhd || is h tfdt) && ltb (body_length h) 8) 6 (pick (is h tfhd && not (eqb mark 0) || is h tfdt && not (ltb 1 mark)) 16 (pick (is h tfad) 17 0))
mark_flaws mark h = rw (traf_flaws, fresh_mark, headed_mark)
