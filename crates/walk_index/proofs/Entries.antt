-- An index's entries at a position, their bytes stored as they come: one number, one entry, and all of them.
use Prim.Native.Nat.{ℕ, zero, suc, ◌+◌, ◌-◌, ◌*◌, ◌%◌, ◌≤◌, ◌<◌}
use mathlib.Core.Path.{◌≡◌, refl, ap, sym, ◌∙◌}
use mathlib.Core.List.{List, [], ◌∷◌, ◌++◌}
use mathlib.Core.Bool.{Bool, true, false, ◌&&◌}
use mathlib.Core.Logic.{◌⊎◌, inl, inr}
use native.Mathlib.Omega.{arith}
use lib.Dec.{eqb, leb}
use lib.ListN.{length, take, drop, set, length-drop, take-append-drop}
use lib.Seq.{drop-drop, length-take-le}
use borrow.Author.Tests.{le-leb}
use Rattle.basics.specs.Bytes.{number_from}
use Rattle.basics.specs.Put.{put_all}
use Rattle.basics.proofs.Picks.{lt_or_ge}
use Rattle.basics.proofs.Put.{put_more}
use Rattle.segment.specs.Constants.{type_bit, entry_bytes}
use Rattle.machine.specs.Faults.{refusal}
use Rattle.machine.specs.Run.{Res, fail, cut, field_d}
use Rattle.state.specs.declared.Span.{Span}
use Rattle.state.specs.declared.Sums.{Sums}
use Rattle.state.specs.declared.IndexRead.{IndexRead}
use Rattle.state.specs.declared.EntryPart.{EntryPart}
use Rattle.state.specs.declared.EntryPart.TheVariants as entry
use Rattle.state.specs.Flow.{Flow, Left, left, with_work}
use Rattle.state.specs.Sidx.{Place, part_of, word_place, number_place, keep_byte, plus_size, plus_duration}
use Rattle.descent.specs.Sidx.{entry_d}
use Rattle.fields.specs.Answers.{number_at}
use Rattle.fields.specs.Onward.{ended, from}
use Rattle.walk_index.proofs.Numbers.{shown, hidden}

abbrev Res' : Type 0
Res' = Res IndexRead Flow Left

-- so many of four bytes of an entry's number, from a list
module _ (p : Place) (e : EntryPart) (t : Sums) (k : ℕ → Flow → ℕ → List ℕ → Res') (f : Flow) where
  abbrev at : ℕ
  at = number_place p e t

  kept_take : (m acc : ℕ) (work : List ℕ) (n : ℕ) (bs : List ℕ) → m ≤ 4 → m ≤ length bs → field_d left (keep_byte p e t) k m acc (with_work f work) n bs
      ≡ k (number_from acc (take m bs)) (with_work f (put_all work (at + (4 - m)) (take m bs))) (n + m) (drop m bs)
  unfolding field_d number_from put_all
  kept_take zero acc work n [] h g = let q : n + 0 ≡ n = omega arith in rw q
  kept_take zero acc work n (b ∷ bs) h g = let q : n + 0 ≡ n = omega arith in rw q
  kept_take (suc m) acc work n [] h g = absurd (omega arith)
  kept_take (suc m) acc work n (b ∷ bs) h g =
      let q : n + suc m ≡ suc n + m = omega arith in
      let i : at + (4 - suc m) ≡ at + (3 - m) = omega arith in
      let j : at + (4 - m) ≡ suc (at + (3 - m)) = omega arith in
      let next : List ℕ = set work (at + (3 - m)) b in
      rw (q, i) (kept_take m (acc * 256 + b) next (suc n) bs (omega arith) (omega arith)
      ∙ ap (λ (a : ℕ). k (number_from (acc * 256 + b) (take m bs)) (with_work f (put_all next a (take m bs))) (suc n + m) (drop m bs)) j)

  kept_short : (m acc : ℕ) (work : List ℕ) (n : ℕ) (bs : List ℕ) → m ≤ 4 → length bs < m → field_d left (keep_byte p e t) k m acc (with_work f work) n bs
      ≡ cut (left (with_work f (put_all work (at + (4 - m)) bs))) (n + length bs)
  unfolding field_d put_all
  kept_short zero acc work n bs h g = absurd (omega arith)
  kept_short (suc m) acc work n [] h g = let q : n + 0 ≡ n = omega arith in rw q
  kept_short (suc m) acc work n (b ∷ bs) h g =
      let q : n + suc (length bs) ≡ suc n + length bs = omega arith in
      let i : at + (4 - suc m) ≡ at + (3 - m) = omega arith in
      let j : suc (at + (3 - m)) ≡ at + (4 - m) = omega arith in
      rw (q, i, j) (kept_short m (acc * 256 + b) (set work (at + (3 - m)) b) (suc n) bs (omega arith) (omega arith))

  -- the number at a position, stored at `i`
  module _ (base : ℕ) (s work : List ℕ) (i j : ℕ) (place : at ≡ i) where
    from_start : at + (4 - 4) ≡ i
    from_start = omega arith

    kept_there : (next : ℕ) → next ≡ j + 4 → next ≤ length s → from left base s (with_work f work) (field_d left (keep_byte p e t) k 4 0) j
        ≡ from left base s (with_work f (put_all work i (take 4 (drop j s)))) (k (number_at 4 s j)) next
    kept_there next here h =
        let q : base + j + 4 ≡ base + next = omega arith in
        let long : 4 ≤ length (drop j s) = rw (length-drop j s) (omega arith) in
        kept_take 4 0 work (base + j) (drop j s) (omega arith) long
        ∙ ap (λ (a : ℕ). k (number_at 4 s j) (with_work f (put_all work a (take 4 (drop j s)))) (base + j + 4) (drop 4 (drop j s))) from_start
        ∙ ap (λ (m : ℕ). k (number_at 4 s j) (with_work f (put_all work i (take 4 (drop j s)))) m (drop 4 (drop j s))) q
        ∙ ap (k (number_at 4 s j) (with_work f (put_all work i (take 4 (drop j s)))) (base + next)) (drop-drop 4 j s ∙ ap (λ (m : ℕ). drop m s) (sym here))

    kept_ends : j ≤ length s → length s < j + 4 → from left base s (with_work f work) (field_d left (keep_byte p e t) k 4 0) j
        ≡ ended left base s (with_work f (put_all work i (drop j s)))
    kept_ends here h =
        let long : length (drop j s) ≡ length s - j = length-drop j s in
        let q : base + j + length (drop j s) ≡ base + length s = omega arith in
        kept_short 4 0 work (base + j) (drop j s) (omega arith) (omega arith)
        ∙ ap (λ (a : ℕ). cut (left (with_work f (put_all work a (drop j s)))) (base + j + length (drop j s))) from_start
        ∙ ap (cut (left (with_work f (put_all work i (drop j s))))) q

-- bytes that were stored, and all after them
join : (work : List ℕ) (i j m : ℕ) (s : List ℕ) → j + m ≤ length s → put_all (put_all work i (take m (drop j s))) (i + m) (drop (j + m) s) ≡ put_all work i (drop j s)
join work i j m s h =
    let long : length (take m (drop j s)) ≡ m = length-take-le m (drop j s) (rw (length-drop j s) (omega arith)) in
    ap (λ (a : ℕ). put_all (put_all work i (take m (drop j s))) (i + a) (drop (j + m) s)) (sym long)
    ∙ put_more work i (take m (drop j s)) (drop (j + m) s)
    ∙ ap (λ (l : List ℕ). put_all work i (take m (drop j s) ++ l)) (sym (drop-drop m j s))
    ∙ ap (put_all work i) (take-append-drop m (drop j s))

-- One entry at `j`, stored at `i`.
module _ (p : Place) (span : Span) (more : Sums → Flow → ℕ → List ℕ → Res') (t : Sums) (base : ℕ) (s : List ℕ) (f : Flow) (work : List ℕ) (i j : ℕ)
    (place : i ≡ part_of p + entry_bytes * t.next) where
  abbrev Entry : Res'
  Entry = from left base s (with_work f work) (entry_d p span more t) j

  abbrev word : ℕ
  word = number_at 4 s j

  abbrev first : List ℕ
  first = put_all work i (take 4 (drop j s))

  abbrev second : List ℕ
  second = put_all first (i + 4) (take 4 (drop (j + 4) s))

  -- the sums with this entry, what follows its SAP word, that word, and the duration
  abbrev plus : ℕ → Sums
  plus duration = plus_duration (plus_size t word) duration

  abbrev more_d : ℕ → ℕ → Flow → ℕ → List ℕ → Res'
  more_d duration sap g n bs = more (plus duration) g n bs

  abbrev sap_d : ℕ → Flow → ℕ → List ℕ → Res'
  sap_d duration g n bs = field_d left (keep_byte p entry.Sap (plus duration)) (more_d duration) 4 0 g n bs

  abbrev duration_d : Flow → ℕ → List ℕ → Res'
  duration_d g n bs = field_d left (keep_byte p entry.Duration (plus_size t word)) sap_d 4 0 g n bs

  size_place : number_place p entry.Size t ≡ i
  unfolding word_place
  size_place = omega arith

  duration_place : number_place p entry.Duration (plus_size t word) ≡ i + 4
  unfolding word_place
  duration_place = omega arith

  sap_place : (v : ℕ) → number_place p entry.Sap (plus v) ≡ i + 4 + 4
  unfolding word_place
  sap_place v = omega arith

  module _ (there : j + 4 ≤ length s) where
    pub entry_none : eqb (word % type_bit) 0 ≡ true → Entry ≡ fail (refusal 11 span.pos) (left (with_work f first)) (base + (j + 4))
    unfolding entry_d
    entry_none h = kept_there p entry.Size t _ f base s work i j size_place (j + 4) refl there ∙ shown 11 span.pos refl _ _ h

    entry_some : eqb (word % type_bit) 0 ≡ false → Entry ≡ from left base s (with_work f first) duration_d (j + 4)
    unfolding entry_d
    entry_some h = kept_there p entry.Size t _ f base s work i j size_place (j + 4) refl there ∙ hidden 11 span.pos refl _ _ h

  entry_later : j + 4 + 4 ≤ length s → eqb (word % type_bit) 0 ≡ false → Entry ≡ from left base s (with_work f second) (sap_d (number_at 4 s (j + 4))) (j + 4 + 4)
  entry_later there h =
      entry_some (omega arith) h ∙ kept_there p entry.Duration (plus_size t word) sap_d f base s first (i + 4) (j + 4) duration_place (j + 4 + 4) refl there

  pub entry_whole : j + 12 ≤ length s → eqb (word % type_bit) 0 ≡ false → Entry
      ≡ from left base s (with_work f (put_all second (i + 4 + 4) (take 4 (drop (j + 4 + 4) s)))) (more (plus (number_at 4 s (j + 4)))) (j + 12)
  entry_whole there h =
      entry_later (omega arith) h
      ∙ kept_there p entry.Sap (plus (number_at 4 s (j + 4))) (more_d (number_at 4 s (j + 4))) f base s second (i + 4 + 4) (j + 4 + 4) (sap_place (number_at 4 s (j + 4))) (j + 12) (omega arith) there

  -- what is left where the bytes end
  abbrev Short : List ℕ → Res'
  Short w = ended left base s (with_work f w)

  cut_later : j + 4 ≤ length s → length s < j + 12 → eqb (word % type_bit) 0 ≡ false → Entry ≡ Short (put_all work i (drop j s))
  cut_later there short h = at_duration (lt_or_ge (length s) (j + 4 + 4))
    where
      at_duration : (length s < j + 4 + 4) ⊎ (j + 4 + 4 ≤ length s) → Entry ≡ Short (put_all work i (drop j s))
      at_duration (inl l) =
          entry_some there h ∙ kept_ends p entry.Duration (plus_size t word) sap_d f base s first (i + 4) (j + 4) duration_place there l ∙ ap Short (join work i j 4 s there)
      at_duration (inr l) =
          entry_later l h
          ∙ kept_ends p entry.Sap (plus (number_at 4 s (j + 4))) (more_d (number_at 4 s (j + 4))) f base s second (i + 4 + 4) (j + 4 + 4) (sap_place (number_at 4 s (j + 4))) l (omega arith)
          ∙ ap Short (join first (i + 4) (j + 4) 4 s l ∙ join work i j 4 s there)

  pub entry_cut : j ≤ length s → length s < j + 12 → (leb (j + 4) (length s) && eqb (word % type_bit) 0) ≡ false → Entry ≡ Short (put_all work i (drop j s))
  unfolding entry_d
  entry_cut here short h = at_size (lt_or_ge (length s) (j + 4))
    where
      at_size : (length s < j + 4) ⊎ (j + 4 ≤ length s) → Entry ≡ Short (put_all work i (drop j s))
      at_size (inl l) = kept_ends p entry.Size t _ f base s work i j size_place here l
      at_size (inr l) = cut_later l short (sym (ap (λ (u : Bool). u && eqb (word % type_bit) 0) (le-leb (j + 4) (length s) l)) ∙ h)
