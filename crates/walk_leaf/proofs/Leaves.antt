-- The boxes of a leaf from a position on: what its next box makes of them, and its end; with room in the table, and without.
use Prim.Native.Nat.{ℕ, ◌+◌, ◌-◌, ◌≤◌, ◌<◌}
use mathlib.Core.Path.{◌≡◌, refl, ap, sym, subst, ◌∙◌}
use mathlib.Core.List.{List, [], ◌++◌}
use mathlib.Core.Bool.{Bool, true, false, not, ◌&&◌}
use native.Mathlib.Omega.{arith}
use lib.Dec.{eqb}
use lib.ListN.{length, drop, length-drop}
use borrow.Author.Tests.{eq-eqb, ne_eqb}
use Rattle.fields.specs.declared.Halt.{Halt}
use Rattle.std.specs.Prelude.{Result, Ok, Err}
use Rattle.basics.specs.Choose.{pick}
use Rattle.basics.proofs.Picks.{pick_yes, pick_no, pick_holds}
use Rattle.machine.specs.Faults.{refusal, shows, lowest, unless}
use Rattle.machine.specs.Run.{Res, okay, fail, cut, either, after}
use Rattle.machine.specs.Lists.{Next, go_on_d, boxes_d}
use Rattle.machine.specs.declared.Header.{Header}
use Rattle.machine.specs.declared.Refusal.{Refusal}
use Rattle.machine.proofs.Kept.{Each}
use Rattle.machine.proofs.Lowest.{AtMostEach, lowest_first}
use Rattle.state.specs.declared.Seen.{Seen}
use Rattle.state.specs.declared.Slot.{Slot}
use Rattle.state.specs.declared.LeafSo.{LeafSo}
use Rattle.state.specs.Flow.{Flow, Left, left}
use Rattle.state.specs.Rows.{no_room, top_lengths, leaf_faults}
use Rattle.state.specs.Leaf.{Passed, leaf_now, leaf_lacks, leaf_next, leaf_boxes, leaf_so0}
use Rattle.descent.specs.Leaf.{leaf_body_d, leaf_d}
use Rattle.fields.specs.Answers.{head_at, stop_at}
use Rattle.fields.specs.Onward.{placed, stopped, ended, from, halted}
use Rattle.fields.specs.declared.Stop.{Stop}
use Rattle.fields.proofs.Lists.{on_box, list_ended, list_stopped, list_headed}
use Rattle.flaws.specs.Flaws.{flaw_of}
use Rattle.flaws.proofs.Flaws.{Placed, beyond_placed, flaw_none, flaw_some, length_tests}
use Rattle.flaws.proofs.Places.{leaf_beyond, leaf_roomy, leaf_full}
use Rattle.walk_leaf.specs.Views.{walked_d, LeafHalt, LeafWalked}
use Rattle.walk_leaf.specs.Walks.{Headed, StopIn, HaltIn, WalkFixed, leaf_box_d, LeafBoxWalked, leaf_flaw, leaf_end_d, LeafListed}
use Rattle.walk_leaf.proofs.Loops.{head_low, head_stop_in, walk_stays, walk_over, over_fixed, halt_fixed, beyond_high}
use Rattle.fields.specs.declared.Halt.TheVariants as halt

-- 15 where a test holds, and 19 where another does
two_high : (n p : ℕ) (a b : Bool) → (a ≡ true → n ≤ 15) → n ≤ 19 → AtMostEach n (shows a 15 p ++ shows b 19 p)
unfolding shows
two_high n p true true low le = (low refl, (le, tt))
two_high n p true false low le = (low refl, tt)
two_high n p false true low le = (le, tt)
two_high n p false false low le = tt

-- what the leaf lacks has no number under 15, and none under 19 where the table has room
module _ (n : ℕ) (slot : Slot) (so : LeafSo) (l : Left) (le : n ≤ 19) (low : no_room l.leaves l.table ≡ true → n ≤ 15) where
  beside_high : (b : Bool) → AtMostEach n (pick b (leaf_lacks slot so l) [])
  unfolding pick leaf_lacks
  beside_high true = two_high n slot.pos (no_room l.leaves l.table) _ low le
  beside_high false = tt

-- the number that a header shows does not hang on where the bytes stand
same_flaw : (base : ℕ) (had : Bool) (h : Header) → leaf_flaw had (placed base h) ≡ leaf_flaw had h
same_flaw base had h =
    let q : flaw_of (top_lengths (placed base h)) ≡ flaw_of (top_lengths h) = length_tests (placed base h) ∙ sym (length_tests h) in
    rw q refl

abbrev Nine : ℕ → Type 0
Nine n = n ≤ 9

pub flaw_nine : (had : Bool) (h : Header) → leaf_flaw had h ≤ 9
flaw_nine had h =
    pick_holds Nine _ _ _ (λ e. pick_holds Nine _ _ _ (λ e'. omega arith) (λ e'. pick_holds Nine _ _ _ (λ e''. omega arith) (λ e''. omega arith)))
    (λ e. rw (length_tests h) (pick_holds Nine _ _ _ (λ e'. omega arith) (λ e'. pick_holds Nine _ _ _ (λ e''. omega arith) (λ e''. omega arith))))

abbrev bodies_d : ℕ → LeafSo → Header → Flow → ℕ → List ℕ → Res Passed Flow Left
bodies_d id a = leaf_body_d id a.seen

-- The list goes on, or is over.
module _ (id : ℕ) (slot : Slot) (turns : ℕ) where
  abbrev more_d : LeafSo → Flow → ℕ → List ℕ → Res Seen Flow Left
  more_d = boxes_d (leaf_boxes id slot) (bodies_d id) turns

  abbrev onward_d : LeafSo → Flow → ℕ → List ℕ → Res Seen Flow Left
  onward_d a g m cs = go_on_d (leaf_boxes id slot) (bodies_d id) more_d (leaf_next slot a g m) g m cs

  abbrev worse_d : LeafSo → Refusal → Left → ℕ → Res Seen Flow Left
  worse_d a x kept m = fail (lowest x (pick (eqb m slot.end) (leaf_lacks slot a kept) [])) kept m

  on_box_lem : (a : LeafSo) (r : Res Passed Flow Left) →
      on_box (leaf_boxes id slot) (bodies_d id) turns a r ≡ either (after r (λ p g m cs. okay (leaf_now a p) g m cs)) onward_d (worse_d a)
  unfolding on_box either
  on_box_lem a (okay p f n bs) = refl
  on_box_lem a (fail x l n) = refl
  on_box_lem a (cut l n) = refl

-- A box of a leaf that ends at `end`.
module _ (id : ℕ) (s : List ℕ) (end at : ℕ) (here : at ≤ length s) (before : at < end) (base : ℕ) (slot : Slot) (f : Flow) (a : LeafSo) (turns : ℕ)
    (ends : slot.end ≡ base + end) (enough : length s - at ≤ turns) where
  abbrev ListD : Res Seen Flow Left
  ListD = from left base s f (boxes_d (leaf_boxes id slot) (bodies_d id) turns a) at

  high : (h : Header) → AtMostEach 5 (leaf_faults slot.pos a.moof h f)
  high h = beyond_high h.pos _ (leaf_beyond slot.pos a.moof h f)

  -- a refusal with a low number
  stays : (n p m : ℕ) → n ≤ 19 → (no_room f.leaves f.table ≡ true → n ≤ 15) → worse_d id slot turns a (refusal n p) (left f) m ≡ fail (refusal n p) (left f) m
  stays n p m le low = ap (λ (x : Refusal). fail x (left f) m) (lowest_first (refusal n p) _ (beside_high n slot a (left f) le low (eqb m slot.end)))

  -- its header is not read
  pub leaf_ended : head_at s at end ≡ Err halt.Ended → ListD ≡ ended left base s f
  leaf_ended e = list_ended (leaf_boxes id slot) (bodies_d id) (λ b. refl) base s a f at here end ends high turns enough e

  pub leaf_stopped : {x : Stop} → head_at s at end ≡ Err (halt.Bad x) → ListD ≡ stopped left base s f x
  leaf_stopped {x} e =
      let five : x.number ≤ 5 = head_low s at end before e in
      list_stopped (leaf_boxes id slot) (bodies_d id) (λ b. refl) base s a f at here end ends high turns enough x e
      ∙ stays x.number (base + x.place) (base + x.count) (omega arith) (λ q. omega arith)

  -- its header is read
  module _ {h : Header} (e : head_at s at end ≡ Ok h) (hd : Headed s at h) where
    abbrev flaw : ℕ
    flaw = flaw_of (leaf_faults slot.pos a.moof (placed base h) f)

    abbrev Body : Res Passed Flow Left
    Body = from left base s f (leaf_body_d id a.seen (placed base h)) (h.pos + h.head)

    all_here : Each (Placed (base + h.pos)) (leaf_faults slot.pos a.moof (placed base h) f)
    all_here = beyond_placed (base + h.pos) _ (leaf_beyond slot.pos a.moof (placed base h) f)

    headed_here : ListD ≡ on_box (leaf_boxes id slot) (bodies_d id) (turns - 1) a
        (unless (leaf_faults slot.pos a.moof (placed base h) f) (λ x. fail x (left f) (base + (h.pos + h.head))) Body)
    headed_here = list_headed (leaf_boxes id slot) (bodies_d id) (λ b. refl) base s a f at here end ends high turns enough h e

    pub leaf_flawed : (n : ℕ) → n ≡ flaw → (n ≡ 0 → ⊥) → n ≤ 19 → (no_room f.leaves f.table ≡ true → n ≤ 15) → ListD ≡ stopped left base s f (stop_at n at (at + h.head))
    unfolding on_box either
    leaf_flawed n q z le low =
        headed_here
        ∙ ap (on_box (leaf_boxes id slot) (bodies_d id) (turns - 1) a) (flaw_some (base + h.pos) (λ x. fail x (left f) (base + (h.pos + h.head))) Body _ all_here (λ y. z (q ∙ y)))
        ∙ ap (λ (k : ℕ). worse_d id slot turns a (refusal k (base + h.pos)) (left f) (base + (h.pos + h.head))) (sym q)
        ∙ stays n (base + h.pos) (base + (h.pos + h.head)) le low
        ∙ ap (λ (p : ℕ). fail (refusal n (base + p)) (left f) (base + (p + h.head))) hd.pos

    pub leaf_boxed : flaw ≡ 0 → ListD ≡ either (from left base s f (leaf_box_d id a (placed base h)) (at + h.head)) (onward_d id slot (turns - 1)) (worse_d id slot turns a)
    leaf_boxed z =
        headed_here
        ∙ ap (on_box (leaf_boxes id slot) (bodies_d id) (turns - 1) a) (flaw_none (base + h.pos) (λ x. fail x (left f) (base + (h.pos + h.head))) Body _ all_here z)
        ∙ on_box_lem id slot (turns - 1) a Body
        ∙ ap (λ (p : ℕ). either (from left base s f (leaf_box_d id a (placed base h)) (p + h.head)) (onward_d id slot (turns - 1)) (worse_d id slot turns a)) hd.pos

-- an answer that is not over is that of the leaf
module _ (base : ℕ) (slot : Slot) (f : Flow) (s : List ℕ) (end : ℕ) where
  pub stays_given : (x : Halt) → after (walked_d base s end f (Err x)) (leaf_end_d slot) ≡ walked_d base s end f (Err x)
  unfolding walked_d halted either
  stays_given (halt.Bad x) = refl
  stays_given halt.Ended = refl

stop_in : (e : ℕ) {x : Halt} {y : Stop} → x ≡ halt.Bad y → HaltIn e x → StopIn e y
stop_in e q g = subst (HaltIn e) q g

-- The boxes of a leaf that the table has room for, from a position on.
module _ (id : ℕ) (s : List ℕ) (end : ℕ) where
  abbrev rest_d : Slot → Flow → ℕ → ℕ → ℕ → LeafSo → Res Seen Flow Left
  rest_d slot f turns base at so = from left base s f (onward_d id slot turns so) at

  -- an answer is right for them
  abbrev pub LeafFrom : ℕ → LeafSo → Result LeafSo Halt → Type 0
  LeafFrom at so r =
      (base : ℕ) (slot : Slot) (f : Flow) (turns : ℕ) → slot.end ≡ base + end → no_room f.leaves f.table ≡ false → length s - at ≤ turns →
      after (walked_d base s end f r) (leaf_end_d slot) ≡ rest_d slot f turns base at so

  module _ (at : ℕ) (so : LeafSo) (here : at ≤ length s) (before : at < end) where
    pub goes : (base : ℕ) (slot : Slot) (f : Flow) (turns : ℕ) → slot.end ≡ base + end →
        rest_d slot f turns base at so ≡ from left base s f (boxes_d (leaf_boxes id slot) (bodies_d id) turns so) at
    unfolding go_on_d leaf_next unless
    goes base slot f turns ends =
        ap (λ (z : Next LeafSo Seen). go_on_d (leaf_boxes id slot) (bodies_d id) (more_d id slot turns) z f (base + at) (drop at s))
        (pick_no _ _ _ (ne_eqb (base + at) slot.end (λ q. omega arith)))

    -- its header was not read
    pub leaf_head : (x : Halt) → head_at s at end ≡ Err x → LeafFrom at so (Err x)
    unfolding walked_d halted either
    leaf_head (halt.Bad x) e base slot f turns ends roomy enough =
        sym (goes base slot f turns ends ∙ leaf_stopped id s end at here before base slot f so turns ends enough e)
    leaf_head halt.Ended e base slot f turns ends roomy enough =
        sym (goes base slot f turns ends ∙ leaf_ended id s end at here before base slot f so turns ends enough e)

    module _ {h : Header} (e : head_at s at end ≡ Ok h) (hd : Headed s at h) where
      -- the number of its header, with room
      roomy_flaw : (base : ℕ) (slot : Slot) (f : Flow) → no_room f.leaves f.table ≡ false →
          leaf_flaw so.moof h ≡ flaw_of (leaf_faults slot.pos so.moof (placed base h) f)
      roomy_flaw base slot f roomy = sym (leaf_roomy slot.pos so.moof (placed base h) f (rw roomy (by (eqb (base + h.pos) slot.pos))) ∙ same_flaw base so.moof h)
        where
          by : (t : Bool) → (t && false) ≡ false
          by true = refl
          by false = refl

      pub leaf_flaw_lem : (leaf_flaw so.moof h ≡ 0 → ⊥) → LeafFrom at so (Err (halt.Bad (stop_at (leaf_flaw so.moof h) at (at + h.head))))
      unfolding walked_d halted either
      leaf_flaw_lem z base slot f turns ends roomy enough =
          let nine = flaw_nine so.moof h in
          sym
          (goes base slot f turns ends
          ∙ leaf_flawed id s end at here before base slot f so turns ends enough e hd _ (roomy_flaw base slot f roomy) z (omega arith) (λ q. omega arith))

      -- where the box is not over, and where it is
      module _ (z : leaf_flaw so.moof h ≡ 0) {r : Result LeafSo Halt} (told : LeafBoxWalked s id at h so r) where
        boxed : (base : ℕ) (slot : Slot) (f : Flow) (turns : ℕ) → slot.end ≡ base + end → no_room f.leaves f.table ≡ false → length s - at ≤ turns →
            rest_d slot f turns base at so ≡ either (walked_d base s (at + h.size) f r) (onward_d id slot (turns - 1)) (worse_d id slot turns so)
        boxed base slot f turns ends roomy enough =
            goes base slot f turns ends
            ∙ leaf_boxed id s end at here before base slot f so turns ends enough e hd (sym (roomy_flaw base slot f roomy) ∙ z)
            ∙ ap (λ (q : Res LeafSo Flow Left). either q (onward_d id slot (turns - 1)) (worse_d id slot turns so)) (sym (told.right base f))

        pub leaf_stays : (x : Halt) → r ≡ Err x → LeafFrom at so (Err x)
        leaf_stays x q base slot f turns ends roomy enough =
            stays_given base slot f s end x
            ∙ walk_stays base s (at + h.size) end f (onward_d id slot (turns - 1)) (worse_d id slot turns so) x q
            (λ y z. let low = (stop_in (at + h.size) z (halt_fixed s (at + h.size) q told.fixed)).low in
            stays id s end at here before base slot f so turns ends enough y.number (base + y.place) (base + y.count) (omega arith) (λ w. absurd (no_room_lem (sym w ∙ roomy))))
            ∙ sym (boxed base slot f turns ends roomy enough)
          where
            no_room_lem : true ≡ false → ⊥
            no_room_lem y = let n : ◌≡◌ {A = ℕ} 0 1 = cc in omega arith

        pub leaf_over : {k : LeafSo} → r ≡ Ok k → (w : Result LeafSo Halt) → LeafFrom (at + h.size) k w → LeafFrom at so w
        leaf_over q w d base slot f turns ends roomy enough =
            let some = hd.short in
            let holds = hd.holds in
            d base slot f (turns - 1) ends roomy (omega arith)
            ∙ sym (boxed base slot f turns ends roomy enough ∙ walk_over base s (at + h.size) end f (onward_d id slot (turns - 1)) (worse_d id slot turns so) q)

  -- the end of the leaf
  pub leaf_ends : (so : LeafSo) → LeafFrom end so (Ok so)
  unfolding go_on_d leaf_next walked_d either leaf_end_d
  leaf_ends so base slot f turns ends roomy enough =
      sym
      (ap (λ (z : Next LeafSo Seen). go_on_d (leaf_boxes id slot) (bodies_d id) (more_d id slot turns) z f (base + end) (drop end s))
      (pick_yes _ _ _ (eq-eqb (base + end) slot.end (sym ends))))

  -- an answer that is right for all its boxes
  pub leaf_listed : (from : ℕ) (known : LeafSo) (r : Result LeafSo Halt) → from < end → from ≤ length s → LeafFrom from known r → WalkFixed s end r → LeafListed s id from end known r
  leaf_listed from known r before here d g = record {
    right = λ base slot f ends roomy.
        d base slot f (length (drop from s)) ends roomy (rw (length-drop from s) (omega arith)) ∙ goes from known here before base slot f (length (drop from s)) ends;
    fixed = g;
  }

-- a refusal inside a leaf is one of the leaf
pub leaf_fixed : (end : ℕ) (x : Halt) → HaltIn end x → LeafHalt end x
leaf_fixed end (halt.Bad x) g = (g.none, g.place, g.count)
leaf_fixed end halt.Ended g = tt

-- A leaf from its boxes on, where the table has room.
module _ (id : ℕ) (s : List ℕ) (at end last : ℕ) {r : Result LeafSo Halt} (told : LeafListed s id at end (leaf_so0 last) r) where
  listed : (base : ℕ) (slot : Slot) (f : Flow) → slot.end ≡ base + end → f.last ≡ last → no_room f.leaves f.table ≡ false →
      after (walked_d base s end f r) (leaf_end_d slot) ≡ leaf_d id slot f (base + at) (drop at s)
  listed base slot f ends lasts roomy =
      told.right base slot f ends roomy
      ∙ ap (λ (n : ℕ). boxes_d (leaf_boxes id slot) (bodies_d id) (length (drop at s)) (leaf_so0 n) f (base + at) (drop at s)) (sym lasts)

  pub walked_stays : (x : Halt) → r ≡ Err x → LeafWalked s false id at end last (Err x)
  walked_stays x q = record {
    right = λ base slot f starts ends lasts roomy.
        sym (stays_given base slot f s end x) ∙ ap (λ (w : Result LeafSo Halt). after (walked_d base s end f w) (leaf_end_d slot)) (sym q) ∙ listed base slot f ends lasts roomy;
    fixed = leaf_fixed end x (halt_fixed s end q told.fixed);
  }

  module _ {k : LeafSo} (over : r ≡ Ok k) where
    -- its end, with what is known
    closed : (base : ℕ) (slot : Slot) (f : Flow) → slot.pos ≡ base + at → no_room f.leaves f.table ≡ false →
        after (walked_d base s end f r) (leaf_end_d slot)
        ≡ unless (shows (not k.seen.any) 19 (base + at)) (λ x. fail x (left f) (base + end)) (from left base s f (okay k.seen) end)
    unfolding walked_d either leaf_end_d leaf_lacks shows
    closed base slot f starts roomy =
        ap (λ (w : Result LeafSo Halt). after (walked_d base s end f w) (leaf_end_d slot)) over ∙ rw (roomy, starts)

    pub walked_bare : k.seen.any ≡ false → at ≤ end → LeafWalked s false id at end last (Err (halt.Bad (stop_at 19 at end)))
    unfolding walked_d halted unless shows lowest
    walked_bare none le = record {
      right = λ base slot f starts ends lasts roomy. sym (closed base slot f starts roomy ∙ rw none) ∙ listed base slot f ends lasts roomy;
      fixed = (refl, le, omega arith);
    }

    pub walked_timed : k.seen.any ≡ true → LeafWalked s false id at end last (Ok k.seen)
    unfolding walked_d unless shows
    walked_timed one = record {
      right = λ base slot f starts ends lasts roomy. sym (closed base slot f starts roomy ∙ rw one) ∙ listed base slot f ends lasts roomy;
      fixed = (one, over_fixed s end over told.fixed);
    }

-- A leaf that the table has no room for: its first box.
module _ (id : ℕ) (s : List ℕ) (at end last : ℕ) (here : at ≤ length s) (before : at < end) where
  enough : length s - at ≤ length (drop at s)
  enough = rw (length-drop at s) (omega arith)

  pub full_head : (x : Halt) → head_at s at end ≡ Err x → LeafWalked s true id at end last (Err x)
  unfolding walked_d halted
  full_head (halt.Bad x) e = let g = head_stop_in s at end before e in record {
    right = λ base slot f starts ends lasts full. sym (leaf_stopped id s end at here before base slot f (leaf_so0 f.last) (length (drop at s)) ends enough e);
    fixed = (g.none, g.place, g.count);
  }
  full_head halt.Ended e = record {
    right = λ base slot f starts ends lasts full. sym (leaf_ended id s end at here before base slot f (leaf_so0 f.last) (length (drop at s)) ends enough e);
    fixed = tt;
  }

  module _ {h : Header} (e : head_at s at end ≡ Ok h) (hd : Headed s at h) (within : at + h.size ≤ end) where
    -- 15 where its header shows no other number
    full_flaw : (base : ℕ) (slot : Slot) (f : Flow) → slot.pos ≡ base + at → no_room f.leaves f.table ≡ true →
        flaw_of (leaf_faults slot.pos false (placed base h) f) ≡ pick (eqb (leaf_flaw false h) 0) 15 (leaf_flaw false h)
    full_flaw base slot f starts full =
        let first : base + h.pos ≡ slot.pos = let p = hd.pos in omega arith in
        leaf_full slot.pos false (placed base h) f (rw (full, eq-eqb (base + h.pos) slot.pos first) refl)
        ∙ ap (λ (n : ℕ). pick (eqb n 0) 15 n) (same_flaw base false h)

    pub full_shown : (n : ℕ) → n ≡ pick (eqb (leaf_flaw false h) 0) 15 (leaf_flaw false h) → (n ≡ 0 → ⊥) → n ≤ 15 → LeafWalked s true id at end last (Err (halt.Bad (stop_at n at (at + h.head))))
    unfolding walked_d halted
    full_shown n q z few =
        let holds = hd.holds in
        record {
          right = λ base slot f starts ends lasts full.
              sym
              (leaf_flawed id s end at here before base slot f (leaf_so0 f.last) (length (drop at s)) ends enough e hd n (q ∙ sym (full_flaw base slot f starts full)) z (omega arith)
              (λ y. few));
          fixed = (refl, omega arith, omega arith);
        }
