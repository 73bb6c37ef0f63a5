-- The boxes of a `traf` from a position on: what its next box makes of them, and its end.
use Prim.Native.Nat.{ℕ, ◌+◌, ◌-◌, ◌≤◌, ◌<◌}
use mathlib.Core.Path.{◌≡◌, refl, ap, sym, ◌∙◌}
use mathlib.Core.List.{List, [], ◌∷◌}
use mathlib.Core.Bool.{Bool, true, false, not, ◌&&◌}
use native.Mathlib.Omega.{arith}
use lib.Dec.{eqb, ltb}
use lib.ListN.{length, drop, length-drop}
use borrow.Author.Tests.{lt-ltb, le-ltb, eq-eqb, ne_eqb, eqb-true, eqb-false}
use Rattle.fields.specs.declared.Halt.{Halt}
use Rattle.std.specs.Prelude.{Result, Ok, Err}
use Rattle.basics.specs.Choose.{pick}
use Rattle.basics.proofs.Picks.{pick_yes, pick_no, pick_if, pick_holds}
use Rattle.machine.specs.Faults.{refusal, shows, lowest, unless}
use Rattle.machine.specs.Run.{Res, okay, fail, cut, either, after}
use Rattle.machine.specs.Lists.{Next, go_on_d, boxes_d}
use Rattle.machine.specs.declared.Header.{Header}
use Rattle.machine.specs.declared.Refusal.{Refusal}
use Rattle.machine.proofs.Kept.{Each, each_shows, each_append, each_lowest}
use Rattle.machine.proofs.Lowest.{AtMostEach, lowest_first}
use Rattle.machine.proofs.Readings.{Says, says_after, says_unless, says_field, says_skip}
use Rattle.state.specs.declared.Span.{Span}
use Rattle.state.specs.declared.Seen.{Seen}
use Rattle.state.specs.declared.TrafSo.{TrafSo}
use Rattle.state.specs.declared.TrafPhase.{TrafPhase}
use Rattle.state.specs.declared.TrafPhase.TheVariants as track
use Rattle.state.specs.Flow.{Flow, Left, left}
use Rattle.state.specs.Rows.{traf_faults}
use Rattle.state.specs.Traf.{Gave, nothing, headed, timed, tfdt_version_faults, fall_faults, traf_now, lacking, traf_next, traf_boxes, traf_so0}
use Rattle.descent.specs.Opening.{skip_to}
use Rattle.descent.specs.Leaf.{tfhd_d, width_d, tfdt_d, traf_body_d}
use Rattle.fields.specs.Answers.{head_at, stop_at}
use Rattle.fields.specs.Onward.{placed, stopped, ended, from, halted}
use Rattle.fields.specs.declared.Stop.{Stop}
use Rattle.fields.proofs.Lists.{on_box, list_ended, list_stopped, list_headed}
use Rattle.flaws.specs.Flaws.{flaw_of}
use Rattle.flaws.proofs.Flaws.{Placed, Beyond, beyond_placed, flaw_none, flaw_some}
use Rattle.flaws.proofs.Places.{traf_flaws, traf_beyond}
use Rattle.walk_leaf.specs.Views.{walked_d}
use Rattle.walk_leaf.specs.Walks.{Headed, StopIn, WalkFixed, gave_d, track_d, TrackWalked, is_timed, flaw_stop, TrafWalked}
use Rattle.walk_leaf.proofs.Loops.{head_low, walk_stays, walk_over, beyond_high, same_placed}
use Rattle.fields.specs.declared.Halt.TheVariants as halt

-- what a `traf` lacks, by whether it has had its decode time
pub lacking_timed : (p : ℕ) (t : TrafPhase) → lacking p t ≡ pick (is_timed t) [] (shows true 16 p)
unfolding lacking is_timed pick
lacking_timed p track.Fresh = refl
lacking_timed p (track.Headed r) = refl
lacking_timed p track.Timed = refl

-- it has no number under 16
module _ (n : ℕ) (le : n ≤ 16) where
  lacking_high : (p : ℕ) (t : TrafPhase) → AtMostEach n (lacking p t)
  unfolding lacking shows
  lacking_high p track.Fresh = (le, tt)
  lacking_high p (track.Headed r) = (le, tt)
  lacking_high p track.Timed = tt

  beside_high : (b : Bool) (p : ℕ) (t : TrafPhase) → AtMostEach n (pick b (lacking p t) [])
  unfolding pick
  beside_high true p t = lacking_high p t
  beside_high false p t = tt

-- 16 before 17
flaw_beside : (flaw : ℕ) (t : TrafPhase) (base pos at next end : ℕ) → flaw ≤ 17 →
    lowest (refusal flaw (base + at)) (pick (eqb (base + next) (base + end)) (lacking (base + pos) t) [])
    ≡ refusal (flaw_stop flaw t pos at end next).number (base + (flaw_stop flaw t pos at end next).place)
unfolding flaw_stop lowest shows pick
flaw_beside flaw t base pos at next end few =
    rw (same_placed base next end, lacking_timed (base + pos) t) (by (eqb flaw 17) (eqb next end) (is_timed t) refl)
  where
    by : (a b c : Bool) → eqb flaw 17 ≡ a →
        lowest (refusal flaw (base + at)) (pick b (pick c [] (shows true 16 (base + pos))) [])
        ≡ refusal (pick (a && (b && not c)) (stop_at 16 pos next) (stop_at flaw at next)).number (base + (pick (a && (b && not c)) (stop_at 16 pos next) (stop_at flaw at next)).place)
    by true false c q = refl
    by true true true q = refl
    by true true false q = pick_yes (ltb 16 flaw) _ _ (lt-ltb 16 flaw (omega (arith, eqb-true flaw 17 q)))
    by false false c q = refl
    by false true true q = refl
    by false true false q = let other = eqb-false flaw 17 q in pick_no (ltb 16 flaw) _ _ (le-ltb 16 flaw (omega arith))

flaw_next : (flaw : ℕ) (t : TrafPhase) (pos at end next : ℕ) → (flaw_stop flaw t pos at end next).count ≡ next
unfolding flaw_stop
flaw_next flaw t pos at end next = pick_if _ (λ (x : Stop). x.count) _ _ next (λ e. refl) (λ e. refl)

-- the refusals inside a box of a `traf` have no number above 16
abbrev Any : {R : Type 0} → R → Flow → ℕ → List ℕ → Type 0
Any r f n bs = Unit {0}

abbrev Low : Refusal → Left → ℕ → Type 0
Low x l n = x.number ≤ 16

skip_low : {R : Type 0} (r : R) (stop : ℕ) (f : Flow) (n : ℕ) (bs : List ℕ) → Says Any Low (skip_to r stop f n bs)
skip_low r stop f n bs = says_after Any Low Any _ _ (says_skip Any Low left _ f n bs (λ cs e. tt)) (λ u g m cs k. tt)

body_low : (id : ℕ) (t : TrafPhase) (h : Header) (f : Flow) (n : ℕ) (bs : List ℕ) → Says Any Low (traf_body_d id t h f n bs)
unfolding traf_body_d tfhd_d tfdt_d tfdt_version_faults width_d
body_low id t h f n bs =
    pick_holds (Says Any Low) _ _ _
    (λ e. says_field Any Low left _ 4 0 f n bs (λ v cs q. says_field Any Low left _ 4 0 f _ cs (λ u ds z. skip_low _ _ f _ ds)))
    (λ e. pick_holds (Says Any Low) _ _ _
    (λ e'. says_field Any Low left _ 1 0 f n bs (λ v cs q. says_unless Any Low _ (left f) _ _
    (each_append (λ x. x.number ≤ 16) _ _ (each_shows (λ x. x.number ≤ 16) _ 10 _ (omega arith)) (each_shows (λ x. x.number ≤ 16) _ 6 _ (omega arith)))
    (λ z. says_field Any Low left _ 3 0 f _ cs (λ u ds y. width_low (eqb v 1) _ _ f _ ds))))
    (λ e'. skip_low _ _ f n bs))
  where
    width_low : (big r : Bool) (p : ℕ) (g : Flow) (m : ℕ) (cs : List ℕ) → Says Any Low (width_d big r p g m cs)
    width_low true r p g m cs = says_field Any Low left _ 8 0 g m cs (λ v ds e. tt)
    width_low false r p g m cs = says_field Any Low left _ 4 0 g m cs (λ v ds e. tt)

-- the number of what is beyond a header's size
pub flaw_few : (p : ℕ) (xs : List Refusal) → Each (Beyond p) xs → flaw_of xs ≤ 17
unfolding flaw_of Each
flaw_few p [] g = omega arith
flaw_few p (x ∷ xs) g = (each_lowest (Beyond p) xs x g.0 g.1).2

abbrev bodies_d : ℕ → TrafSo → Header → Flow → ℕ → List ℕ → Res Gave Flow Left
bodies_d id a = traf_body_d id a.track

-- What a box makes of the list of which it is one: the fall of a decode time shows at its end, where nothing is lacking any more.
module _ (id : ℕ) (span : Span) (turns : ℕ) where
  abbrev more_d : TrafSo → Flow → ℕ → List ℕ → Res Seen Flow Left
  more_d = boxes_d (traf_boxes id span) (bodies_d id) turns

  -- the list goes on, or is over
  abbrev onward_d : TrafSo → Flow → ℕ → List ℕ → Res Seen Flow Left
  onward_d a g m cs = go_on_d (traf_boxes id span) (bodies_d id) more_d (traf_next span a [] m) g m cs

  fallen : (seen : Seen) (p : ℕ) (f : Flow) (n : ℕ) (bs : List ℕ) (t : Bool) →
      go_on_d (traf_boxes id span) (bodies_d id) more_d (traf_next span (record { track = track.Timed; seen = seen }) (shows t 18 p) n) f n bs
      ≡ after (unless (shows t 18 p) (λ x. fail x (left f) n) (okay (record { track = track.Timed; seen = seen }) f n bs)) onward_d
  unfolding shows unless either traf_next lacking go_on_d lowest
  fallen seen p f n bs true = pick_if (eqb n span.end) (λ z. go_on_d (traf_boxes id span) (bodies_d id) more_d z f n bs) _ _ _ (λ e. refl) (λ e. refl)
  fallen seen p f n bs false = refl

  module _ (so : TrafSo) where
    gives : (gave : Gave) (f : Flow) (n : ℕ) (bs : List ℕ) →
        go_on_d (traf_boxes id span) (bodies_d id) more_d (traf_next span (traf_now so gave) (fall_faults so.seen.last gave) n) f n bs ≡ after (gave_d so gave f n bs) onward_d
    unfolding gave_d fall_faults traf_now unless either
    gives nothing f n bs = refl
    gives (headed r) f n bs = refl
    gives (timed r p v) f n bs = fallen _ p f n bs (r && ltb v so.seen.last)

    on_track : (r : Res Gave Flow Left) → Says Any Low r → on_box (traf_boxes id span) (bodies_d id) turns so r ≡ after (after r (gave_d so)) onward_d
    unfolding on_box either
    on_track (okay gave f n bs) w = gives gave f n bs
    on_track (fail x l n) w = ap (λ (y : Refusal). fail y l n) (lowest_first x _ (beside_high x.number w (eqb n span.end) span.pos so.track))
    on_track (cut l n) w = refl

-- The boxes of the `traf` at `pos`, which ends at `end`, from a position on.
module _ (id : ℕ) (s : List ℕ) (pos end : ℕ) where
  -- with so many turns
  abbrev pub rest_d : Span → Flow → ℕ → ℕ → ℕ → TrafSo → Res Seen Flow Left
  rest_d span f turns base at so = from left base s f (onward_d id span turns so) at

  -- an answer is right for them
  abbrev pub TrafFrom : ℕ → TrafSo → Result Seen Halt → Type 0
  TrafFrom at so r =
      (base : ℕ) (span : Span) (f : Flow) (turns : ℕ) → span.pos ≡ base + pos → span.end ≡ base + end → length s - at ≤ turns →
      walked_d base s end f r ≡ rest_d span f turns base at so

  -- there is a box
  module _ (at : ℕ) (so : TrafSo) (here : at ≤ length s) (before : at < end) where
    abbrev phase : TrafPhase
    phase = so.track

    module _ (base : ℕ) (span : Span) (f : Flow) (turns : ℕ) (starts : span.pos ≡ base + pos) (ends : span.end ≡ base + end) (enough : length s - at ≤ turns) where
      abbrev Rest : Res Seen Flow Left
      Rest = rest_d span f turns base at so

      goes : Rest ≡ from left base s f (boxes_d (traf_boxes id span) (bodies_d id) turns so) at
      unfolding go_on_d traf_next unless
      goes =
          ap (λ (z : Next TrafSo Seen). go_on_d (traf_boxes id span) (bodies_d id) (more_d id span turns) z f (base + at) (drop at s))
          (pick_no _ _ _ (ne_eqb (base + at) span.end (λ q. omega arith)))

      high : (h : Header) → AtMostEach 5 (traf_faults phase h)
      high h = beyond_high h.pos _ (traf_beyond phase h)

      -- its header is not read
      ends_here : head_at s at end ≡ Err halt.Ended → Rest ≡ ended left base s f
      ends_here e = goes ∙ list_ended (traf_boxes id span) (bodies_d id) (λ a. refl) base s so f at here end ends high turns enough e

      stops_here : {x : Stop} → head_at s at end ≡ Err (halt.Bad x) → Rest ≡ stopped left base s f x
      stops_here {x} e =
          let low : x.number ≤ 16 = omega (arith, head_low s at end before e) in
          goes ∙ list_stopped (traf_boxes id span) (bodies_d id) (λ a. refl) base s so f at here end ends high turns enough x e
          ∙ ap (λ (y : Refusal). fail y (left f) (base + x.count)) (lowest_first _ _ (beside_high x.number low (eqb (base + x.count) span.end) span.pos phase))

      -- its header is read
      module _ {h : Header} (e : head_at s at end ≡ Ok h) (hd : Headed s at h) where
        abbrev flaw : ℕ
        flaw = flaw_of (traf_faults phase h)

        same_flaw : flaw_of (traf_faults phase (placed base h)) ≡ flaw
        same_flaw = traf_flaws phase (placed base h) ∙ sym (traf_flaws phase h)

        all_here : Each (Placed (base + h.pos)) (traf_faults phase (placed base h))
        all_here = beyond_placed (base + h.pos) _ (traf_beyond phase (placed base h))

        abbrev Body : Res Gave Flow Left
        Body = from left base s f (traf_body_d id phase (placed base h)) (h.pos + h.head)

        headed_here : Rest ≡ on_box (traf_boxes id span) (bodies_d id) (turns - 1) so (unless (traf_faults phase (placed base h)) (λ x. fail x (left f) (base + (h.pos + h.head))) Body)
        headed_here = goes ∙ list_headed (traf_boxes id span) (bodies_d id) (λ a. refl) base s so f at here end ends high turns enough h e

        abbrev OnBox : Res Gave Flow Left → Res Seen Flow Left
        OnBox = on_box (traf_boxes id span) (bodies_d id) (turns - 1) so

        -- a fault at H, with what shows beside it
        abbrev Fault : ℕ → ℕ → ℕ → ℕ → ℕ → Res Seen Flow Left
        Fault n p m e' p' = fail (lowest (refusal n (base + p)) (pick (eqb (base + m) e') (lacking p' phase) [])) (left f) (base + m)

        flawed_here : (flaw ≡ 0 → ⊥) → Rest ≡ stopped left base s f (flaw_stop flaw so.track pos at end (at + h.head))
        unfolding on_box either
        flawed_here z =
            let x : Stop = flaw_stop flaw so.track pos at end (at + h.head) in
            headed_here
            ∙ ap OnBox (flaw_some (base + h.pos) (λ x. fail x (left f) (base + (h.pos + h.head))) Body _ all_here (λ y. z (sym same_flaw ∙ y)))
            ∙ ap (λ (n : ℕ). Fault n h.pos (h.pos + h.head) span.end span.pos) same_flaw
            ∙ ap (λ (p : ℕ). Fault flaw p (p + h.head) span.end span.pos) hd.pos
            ∙ ap (λ (p : ℕ). Fault flaw at (at + h.head) p span.pos) ends
            ∙ ap (λ (p : ℕ). Fault flaw at (at + h.head) (base + end) p) starts
            ∙ ap (λ (y : Refusal). fail y (left f) (base + (at + h.head))) (flaw_beside flaw so.track base pos at (at + h.head) end (flaw_few h.pos _ (traf_beyond phase h)))
            ∙ ap (λ (m : ℕ). fail (refusal x.number (base + x.place)) (left f) (base + m)) (sym (flaw_next flaw so.track pos at end (at + h.head)))

        boxed_here : flaw ≡ 0 → {r : Result TrafSo Halt} → TrackWalked s id at h so r → Rest ≡ after (walked_d base s (at + h.size) f r) (onward_d id span (turns - 1))
        boxed_here z told =
            headed_here
            ∙ ap OnBox (flaw_none (base + h.pos) (λ x. fail x (left f) (base + (h.pos + h.head))) Body _ all_here (same_flaw ∙ z))
            ∙ on_track id span (turns - 1) so Body (body_low id phase (placed base h) f _ _)
            ∙ ap (λ (p : ℕ). after (from left base s f (track_d id so (placed base h)) (p + h.head)) (onward_d id span (turns - 1))) hd.pos
            ∙ ap (λ (r : Res TrafSo Flow Left). after r (onward_d id span (turns - 1))) (sym (told.right base f))

    -- its header was not read
    pub traf_head : (x : Halt) → head_at s at end ≡ Err x → TrafFrom at so (Err x)
    unfolding walked_d halted
    traf_head (halt.Bad x) e base span f turns starts ends enough = sym (stops_here base span f turns starts ends enough e)
    traf_head halt.Ended e base span f turns starts ends enough = sym (ends_here base span f turns starts ends enough e)

    module _ {h : Header} (e : head_at s at end ≡ Ok h) (hd : Headed s at h) where
      -- where its header shows a number
      pub traf_flawed : (flaw_of (traf_faults phase h) ≡ 0 → ⊥) → TrafFrom at so (Err (halt.Bad (flaw_stop (flaw_of (traf_faults phase h)) so.track pos at end (at + h.head))))
      unfolding walked_d halted
      traf_flawed z base span f turns starts ends enough = sym (flawed_here base span f turns starts ends enough e hd z)

      -- where it is not over, and where it is
      module _ (z : flaw_of (traf_faults phase h) ≡ 0) {r : Result TrafSo Halt} (told : TrackWalked s id at h so r) where
        pub traf_stays : (x : Halt) → r ≡ Err x → TrafFrom at so (Err x)
        traf_stays x q base span f turns starts ends enough =
            walk_stays base s (at + h.size) end f (onward_d id span (turns - 1)) fail x q (λ y z. refl)
            ∙ sym (boxed_here base span f turns starts ends enough e hd z told)

        pub traf_over : {k : TrafSo} → r ≡ Ok k → (w : Result Seen Halt) → TrafFrom (at + h.size) k w → TrafFrom at so w
        traf_over q w d base span f turns starts ends enough =
            let some = hd.short in
            let holds = hd.holds in
            d base span f (turns - 1) starts ends (omega arith)
            ∙ sym (boxed_here base span f turns starts ends enough e hd z told ∙ walk_over base s (at + h.size) end f (onward_d id span (turns - 1)) fail q)

  -- the end of the `traf`
  module _ (so : TrafSo) where
    closes : (base : ℕ) (span : Span) (f : Flow) (turns : ℕ) → span.pos ≡ base + pos → span.end ≡ base + end →
        rest_d span f turns base end so ≡ unless (pick (is_timed so.track) [] (shows true 16 (base + pos))) (λ x. fail x (left f) (base + end)) (from left base s f (okay so.seen) end)
    unfolding go_on_d traf_next
    closes base span f turns starts ends =
        ap (λ (z : Next TrafSo Seen). go_on_d (traf_boxes id span) (bodies_d id) (more_d id span turns) z f (base + end) (drop end s)) (pick_yes _ _ _ (eq-eqb (base + end) span.end (sym ends)))
        ∙ ap (λ (xs : List Refusal). unless xs (λ x. fail x (left f) (base + end)) (from left base s f (okay so.seen) end)) (lacking_timed span.pos so.track)
        ∙ ap (λ (p : ℕ). unless (pick (is_timed so.track) [] (shows true 16 p)) (λ x. fail x (left f) (base + end)) (from left base s f (okay so.seen) end)) starts

    pub traf_lacks : is_timed so.track ≡ false → TrafFrom end so (Err (halt.Bad (stop_at 16 pos end)))
    unfolding walked_d halted pick unless shows lowest
    traf_lacks n base span f turns starts ends enough = sym (closes base span f turns starts ends ∙ rw n)

    pub traf_ends_lem : is_timed so.track ≡ true → TrafFrom end so (Ok so.seen)
    unfolding walked_d pick unless
    traf_ends_lem m base span f turns starts ends enough = sym (closes base span f turns starts ends ∙ rw m)

-- a refusal of a header stands in the `traf`
pub flaw_stop_in : (flaw : ℕ) (t : TrafPhase) (pos at end next : ℕ) → flaw ≤ 17 → pos ≤ end → at ≤ end → next ≤ end → StopIn end (flaw_stop flaw t pos at end next)
unfolding flaw_stop
flaw_stop_in flaw t pos at end next few a b c =
    pick_holds (StopIn end) _ _ _ (λ e. record { none = refl; low = omega arith; place = a; count = c }) (λ e. record { none = refl; low = omega arith; place = b; count = c })

-- an answer that is right for all its boxes is right for the `traf`
pub traf_walked : (id : ℕ) (s : List ℕ) (pos from end : ℕ) (seen : Seen) (r : Result Seen Halt) →
    TrafFrom id s pos end from (traf_so0 seen) r → WalkFixed s end r → TrafWalked s id pos from end seen r
traf_walked id s pos from end seen r d g = record {
  right = λ base span f starts ends. d base span f (length (drop from s)) starts ends (rw (length-drop from s) (omega arith));
  fixed = g;
}
