-- The number law: the bytes of a number, but for its last, taken together.
use Prim.Native.Nat.{ℕ, zero, suc, ◌+◌, ◌-◌, ◌*◌, ◌≤◌, ◌<◌}
use mathlib.Core.Path.{◌≡◌, refl, ap, sym, ◌∙◌}
use mathlib.Core.List.{List, [], ◌∷◌, ◌++◌}
use mathlib.Core.Option.{Option, some, none}
use native.Mathlib.Omega.{arith}
use lib.ListN.{length, set, take, drop, take-append-drop, length-drop}
use lib.Seq.{length-take-le, drop-drop}
use Rattle.basics.specs.Bytes.{number_from}
use Rattle.segment.specs.Constants.{limit}
use Rattle.machine.specs.Faults.{unless}
use Rattle.machine.specs.Run.{Sub, go, lift}
use Rattle.machine.specs.Heads.{step_head}
use Rattle.machine.specs.Lists.{BoxPhase, in_head, step_box, Boxes, step_boxes}
use Rattle.machine.specs.declared.Head.{Head}
use Rattle.machine.specs.declared.Head.TheVariants as at
use Rattle.state.specs.declared.TrafPhase.{TrafPhase}
use Rattle.state.specs.declared.Span.{Span}
use Rattle.state.specs.declared.Slot.{Slot}
use Rattle.state.specs.declared.Sidx.{Sidx}
use Rattle.state.specs.declared.Sidx.TheVariants as sidx
use Rattle.state.specs.declared.TrafBody.{TrafBody}
use Rattle.state.specs.declared.TrafBody.TheVariants as trafs
use Rattle.state.specs.Boxed.{TrafBoxes}
use Rattle.machine.specs.declared.BoxesSo.TheVariants as inBoxes
use Rattle.state.specs.declared.MoofBody.{MoofBody}
use Rattle.state.specs.declared.MoofBody.TheVariants as moofs
use Rattle.state.specs.Boxed.{MoofBoxes}
use Rattle.state.specs.declared.LeafBody.{LeafBody}
use Rattle.state.specs.declared.LeafBody.TheVariants as leaves
use Rattle.state.specs.Boxed.{LeafBoxes}
use Rattle.state.specs.declared.OpeningBody.{OpeningBody}
use Rattle.state.specs.declared.OpeningBody.TheVariants as openings
use Rattle.state.specs.Boxed.{OpeningBoxes}
use Rattle.state.specs.declared.GapBoxes.{GapBoxes}
use Rattle.state.specs.declared.GapBoxes.TheVariants as gaps
use Rattle.state.specs.declared.InnerBox.TheVariants as inners
use Rattle.state.specs.declared.Stage.{Stage}
use Rattle.state.specs.declared.Stage.TheVariants as stage
use Rattle.state.specs.Flow.{Flow, Left, left, with_work, stored}
use Rattle.basics.specs.Put.{put_all}
use Rattle.state.specs.Levels.{depth}
use Rattle.state.specs.Sidx.{Place, topmost, under, step_sidx, next_byte}
use Rattle.state.specs.Traf.{step_traf_body, traf_boxes, wrap_traf, step_traf}
use Rattle.state.specs.Leaf.{step_moof_body, moof_boxes, wrap_moof, step_moof, step_leaf_body, leaf_boxes, wrap_leaf, step_leaf}
use Rattle.state.specs.Opening.{step_opening_body, opening, wrap_opening, step_opening}
use Rattle.state.specs.Stages.{gap_boxes, wrap_gap, step_gap, step_stage}
use Rattle.state.specs.Step.{World, reading, settle, step, step_all}
use Rattle.state.specs.Numbers.{Number, absent, inside, head_number, sidx_number, traf_body_number, traf_number, moof_body_number, moof_number, leaf_body_number, leaf_number, opening_body_number}
use Rattle.state.specs.Numbers.{opening_number, gap_number, inner_number, stage_number, stage_on, work_on, put_in, Short}
use Rattle.state.proofs.Jump.{body_moves, past_none}

-- what a byte leaves in what flows, told how many follow it; and what some bytes leave, told how many follow the first of them
unfoldable pub keep_in : Option ℕ → ℕ → Flow → ℕ → Flow
keep_in none more f b = f
keep_in (some i) more f b = stored f (next_byte i more) b

unfoldable keep_all : Option ℕ → ℕ → Flow → List ℕ → Flow
keep_all place more f [] = f
keep_all place more f (b ∷ bs) = keep_all place (more - 1) (keep_in place more f b) bs

-- The phase `s` of a machine reads the number `x`: with what is read of the number it is itself, and a byte of the number that is not its
-- last spells on and does nothing else.
pub record Spells {S R : Type 0} (step : S → Flow → ℕ → ℕ → Sub S R Flow Left) (x : Number S) (s : S) : Type 0 where
  pub same : x.again x.more x.acc ≡ s
  pub on : 0 < x.more → (f : Flow) (n b m a : ℕ) → step (x.again (suc m) a) f n b ≡ go (x.again m (a * 256 + b)) (keep_in x.place (suc m) f b)

-- no number is being read
absent_spells : {S R : Type 0} (step : S → Flow → ℕ → ℕ → Sub S R Flow Left) (s : S) → Spells step (absent s) s
absent_spells step s = record { same = refl; on = λ going f n b m a. absurd (omega arith) }

-- a machine inside another, whose byte is the other's
module _ {S T R Q : Type 0} (inner : S → Flow → ℕ → ℕ → Sub S R Flow Left) (step : T → Flow → ℕ → ℕ → Sub T Q Flow Left) (wrap : S → T)
    (moves : (s s' : S) (f g : Flow) (n b : ℕ) → inner s f n b ≡ go s' g → step (wrap s) f n b ≡ go (wrap s') g) where
  inside_spells : (x : Number S) (s : S) → Spells inner x s → Spells step (inside wrap x) (wrap s)
  inside_spells x s k = record { same = ap wrap k.same; on = λ going f n b m a. moves _ _ f _ n b (k.on going f n b m a) }

-- The number at hand, at each level.
head_spells : (end : ℕ) (h : Head) → Spells (step_head left end) (head_number h) h
unfolding head_number step_head keep_in
head_spells end at.First = absent_spells _ at.First
head_spells end (at.Size pos more acc) = record { same = refl; on = λ going f n b m a. refl }
head_spells end (at.Kind pos size more acc) = record { same = refl; on = λ going f n b m a. refl }
head_spells end (at.Large pos kind more acc) = record { same = refl; on = λ going f n b m a. refl }

sidx_spells : (p : Place) (span : Span) (s : Sidx) → Spells (step_sidx p span) (sidx_number p s) s
unfolding sidx_number step_sidx keep_in
sidx_spells p span (sidx.Field i d more acc) = record { same = refl; on = λ going f n b m a. refl }
sidx_spells p span (sidx.Entry e d s more acc) = record { same = refl; on = λ going f n b m a. refl }

-- a list of boxes moves on as the header of its box does
module _ {A B R Q S : Type 0} (l : Boxes A B R Q Flow Left) (wrap : A → BoxPhase B → S) where
  pub head_moves : (a : A) (h h' : Head) (f g : Flow) (n b : ℕ) → step_head (l.box a).left (l.box a).end h f n b ≡ go h' g →
      step_boxes l wrap a (in_head h) f n b ≡ go (wrap a (in_head h')) g
  unfolding step_box lift
  head_moves a h h' f g n b e = rw e

traf_body_spells : (id : ℕ) (t : TrafPhase) (s : TrafBody) → Spells (step_traf_body id t) (traf_body_number s) s
unfolding traf_body_number step_traf_body keep_in
traf_body_spells id t (trafs.Skip stop) = absent_spells _ (trafs.Skip stop)
traf_body_spells id t (trafs.Rest stop r) = absent_spells _ (trafs.Rest stop r)
traf_body_spells id t (trafs.Field p more acc) = record { same = refl; on = λ going f n b m a. refl }

traf_spells : (id : ℕ) (span : Span) (s : TrafBoxes) → Spells (step_traf id span) (traf_number s) s
unfolding traf_number step_traf
traf_spells id span (inBoxes.Head so h) = inside_spells _ (step_traf id span) (inBoxes.Head so) (head_moves (traf_boxes id span) wrap_traf so) _ h (head_spells span.end h)
traf_spells id span (inBoxes.Body so s) = inside_spells _ (step_traf id span) (inBoxes.Body so) (body_moves (traf_boxes id span) wrap_traf so) _ s (traf_body_spells id so.track s)

moof_body_spells : (id : ℕ) (s : MoofBody) → Spells (step_moof_body id) (moof_body_number s) s
unfolding moof_body_number step_moof_body lift
moof_body_spells id (moofs.Skip stop) = absent_spells _ (moofs.Skip stop)
moof_body_spells id (moofs.Traf span s) = inside_spells (step_traf id span) (step_moof_body id) (moofs.Traf span) (λ q q' f g n b e. rw e) _ s (traf_spells id span s)

moof_spells : (id end : ℕ) (s : MoofBoxes) → Spells (step_moof id end) (moof_number s) s
unfolding moof_number step_moof
moof_spells id end (inBoxes.Head seen h) = inside_spells _ (step_moof id end) (inBoxes.Head seen) (head_moves (moof_boxes id end) wrap_moof seen) _ h (head_spells end h)
moof_spells id end (inBoxes.Body seen s) = inside_spells _ (step_moof id end) (inBoxes.Body seen) (body_moves (moof_boxes id end) wrap_moof seen) _ s (moof_body_spells id s)

leaf_body_spells : (id : ℕ) (s : LeafBody) → Spells (step_leaf_body id) (leaf_body_number s) s
unfolding leaf_body_number step_leaf_body lift
leaf_body_spells id (leaves.Skip stop) = absent_spells _ (leaves.Skip stop)
leaf_body_spells id (leaves.Moof end s) = inside_spells (step_moof id end) (step_leaf_body id) (leaves.Moof end) (λ q q' f g n b e. rw e) _ s (moof_spells id end s)

pub leaf_spells : (id : ℕ) (slot : Slot) (s : LeafBoxes) → Spells (step_leaf id slot) (leaf_number s) s
unfolding leaf_number step_leaf
leaf_spells id slot (inBoxes.Head so h) = inside_spells _ (step_leaf id slot) (inBoxes.Head so) (head_moves (leaf_boxes id slot) wrap_leaf so) _ h (head_spells slot.end h)
leaf_spells id slot (inBoxes.Body so s) = inside_spells _ (step_leaf id slot) (inBoxes.Body so) (body_moves (leaf_boxes id slot) wrap_leaf so) _ s (leaf_body_spells id s)

opening_body_spells : (brand : ℕ) (s : OpeningBody) → Spells (step_opening_body brand) (opening_body_number s) s
unfolding opening_body_number step_opening_body lift keep_in
opening_body_spells brand (openings.Skip stop) = absent_spells _ (openings.Skip stop)
opening_body_spells brand (openings.Styp span p listed more acc) = record { same = refl; on = λ going f n b m a. refl }
opening_body_spells brand (openings.Index span s) = inside_spells (step_sidx topmost span) (step_opening_body brand) (openings.Index span) (λ q q' f g n b e. rw e) _ s (sidx_spells topmost span s)

opening_spells : (brand : ℕ) (s : OpeningBoxes) → Spells (step_opening brand) (opening_number s) s
unfolding opening_number step_opening
opening_spells brand (inBoxes.Head branded h) = inside_spells _ (step_opening brand) (inBoxes.Head branded) (head_moves (opening brand) wrap_opening branded) _ h (head_spells limit h)
opening_spells brand (inBoxes.Body branded s) = inside_spells _ (step_opening brand) (inBoxes.Body branded) (body_moves (opening brand) wrap_opening branded) _ s (opening_body_spells brand s)

gap_spells : (end : ℕ) (s : GapBoxes) → Spells (step_gap end) (gap_number s) s
unfolding gap_number step_gap
gap_spells end (gaps.Head h) = inside_spells _ (step_gap end) gaps.Head (head_moves (gap_boxes end) wrap_gap tt) _ h (head_spells end h)
gap_spells end (gaps.Body stop) = absent_spells _ (gaps.Body stop)

stage_spells : (s : Stage) → Spells step_stage (stage_number s) s
unfolding stage_number inner_number step_stage step_box lift
stage_spells (stage.Opening brand s) = inside_spells (step_opening brand) step_stage (stage.Opening brand) (λ q q' f g n b e. rw e) _ s (opening_spells brand s)
stage_spells (stage.Gap top l end s) = inside_spells (step_gap end) step_stage (stage.Gap top l end) (λ q q' f g n b e. rw e) _ s (gap_spells end s)
stage_spells (stage.Entry top ls) = absent_spells _ (stage.Entry top ls)
stage_spells (stage.Leaf top ls slot s) = inside_spells (step_leaf top.id slot) step_stage (stage.Leaf top ls slot) (λ q q' f g n b e. rw e) _ s (leaf_spells top.id slot s)
stage_spells (stage.Inner top ls slot (inners.Head h)) =
    inside_spells (step_head left slot.end) step_stage (λ q. stage.Inner top ls slot (inners.Head q)) (λ q q' f g n b e. rw e) _ h (head_spells slot.end h)
stage_spells (stage.Inner top ls slot (inners.Body span s)) =
    let p = under top slot (depth ls) in
    inside_spells (step_sidx p span) step_stage (λ q. stage.Inner top ls slot (inners.Body span q)) (λ q q' f g n b e. rw e) _ s (sidx_spells p span s)

-- one byte of a reading
number_step : (n m a : ℕ) (s : Stage) (f : Flow) (b : ℕ) → n < limit → 0 < (stage_number s).more →
    step (reading n ((stage_number s).again (suc m) a) f) b ≡ reading (suc n) ((stage_number s).again m (a * 256 + b)) (keep_in (stage_number s).place (suc m) f b)
unfolding step settle unless
number_step n m a s f b low going = rw (past_none n low, (stage_spells s).on going f n b m a)

-- all of its bytes that are at hand but for its last: `m` more follow them, and the last
number_run : (xs bytes : List ℕ) (n m a : ℕ) (s : Stage) (f : Flow) → n + length xs ≤ limit → 0 < (stage_number s).more →
    step_all (reading n ((stage_number s).again (m + length xs) a) f) (xs ++ bytes)
    ≡ step_all (reading (n + length xs) ((stage_number s).again m (number_from a xs)) (keep_all (stage_number s).place (m + length xs) f xs)) bytes
unfolding step_all number_from keep_all
number_run [] bytes n m a s f low going =
    let e : n + length {A = ℕ} [] ≡ n = omega arith in
    let d : m + length {A = ℕ} [] ≡ m = omega arith in
    rw (e, d) refl
number_run (x ∷ xs) bytes n m a s f low going =
    let e : suc n + length xs ≡ n + length (x ∷ xs) = omega arith in
    let d : m + length (x ∷ xs) ≡ suc (m + length xs) = omega arith in
    let p : m + length xs ≡ m + length (x ∷ xs) - 1 = omega arith in
    ap (λ (k : ℕ). step_all (step (reading n ((stage_number s).again k a) f) x) (xs ++ bytes)) d
    ∙ ap (λ (w : World). step_all w (xs ++ bytes)) (number_step n (m + length xs) a s f x (omega arith) going)
    ∙ number_run xs bytes (suc n) m (a * 256 + x) s (keep_in (stage_number s).place (suc (m + length xs)) f x) (omega arith) going
    ∙ ap (λ (k : ℕ).
    step_all (reading k ((stage_number s).again m (number_from (a * 256 + x) xs))
    (keep_all (stage_number s).place (m + length xs) (keep_in (stage_number s).place (suc (m + length xs)) f x) xs)) bytes) e
    ∙ ap (λ (g : Flow). step_all (reading (n + length (x ∷ xs)) ((stage_number s).again m (number_from (a * 256 + x) xs)) g) bytes)
    (ap (λ (k : ℕ). keep_all (stage_number s).place k (keep_in (stage_number s).place (suc (m + length xs)) f x) xs) p
    ∙ ap (λ (k : ℕ). keep_all (stage_number s).place (m + length (x ∷ xs) - 1) (keep_in (stage_number s).place k f x) xs) (sym d))

-- what they leave is the work area with them at their places
kept_put : (place : Option ℕ) (more : ℕ) (f : Flow) (bs : List ℕ) → length bs ≤ more → Short place more → keep_all place more f bs ≡ with_work f (put_in place more f.work bs)
unfolding keep_all keep_in put_in Short put_all
kept_put none more f [] h short = refl
kept_put none more f (b ∷ bs) h short = kept_put none (more - 1) f bs (omega arith) tt
kept_put (some i) more f [] h short = refl
kept_put (some i) more f (b ∷ bs) h short =
    let e : i + (3 - (more - 1)) ≡ suc (i + (3 - more)) = omega arith in
    kept_put (some i) (more - 1) (keep_in (some i) more f b) bs (omega arith) (omega arith, short.1)
    ∙ ap (λ (k : ℕ). with_work f (put_all (set f.work (i + (3 - more)) b) k bs)) e

put_none : (place : Option ℕ) (more : ℕ) (work : List ℕ) → put_in place more work [] ≡ work
unfolding put_in put_all
put_none none more work = refl
put_none (some i) more work = refl

-- no bytes leave the stage and the work area as they are
pub none_on : (s : Stage) → stage_on s 0 [] ≡ s
unfolding number_from
none_on s =
    let e : (stage_number s).more - 0 ≡ (stage_number s).more = omega arith in
    ap (λ (m : ℕ). (stage_number s).again m (stage_number s).acc) e ∙ (stage_spells s).same

pub none_put : (s : Stage) (work : List ℕ) → work_on s work [] ≡ work
none_put s work = put_none (stage_number s).place (stage_number s).more work

-- so many bytes of a piece from a place on, all of them there and none of them the number's last
pub number_taken : (k : ℕ) (bytes : List ℕ) (i n : ℕ) (s : Stage) (f : Flow) → let x : Number Stage = stage_number s in
    i + k ≤ length bytes → n + k ≤ limit → k ≤ x.more → Short x.place x.more →
    let bs : List ℕ = take k (drop i bytes) in
    step_all (reading n s f) (drop i bytes) ≡ step_all (reading (n + k) (stage_on s k bs) (with_work f (work_on s f.work bs))) (drop (i + k) bytes)
number_taken zero bytes i n s f there low most short =
    let a : n + 0 ≡ n = omega arith in
    let b : i + 0 ≡ i = omega arith in
    rw (a, b, none_on s, none_put s f.work) refl
number_taken (suc j) bytes i n s f there low most short =
    let x : Number Stage = stage_number s in
    let k : ℕ = suc j in
    let bs : List ℕ = take k (drop i bytes) in
    let e : length bs ≡ k = length-take-le k (drop i bytes) (simp length-drop (omega arith)) in
    let d : x.more ≡ (x.more - k) + length bs = rw e (omega arith) in
    ap (λ (q : Stage). step_all (reading n q f) (drop i bytes)) (sym (stage_spells s).same)
    ∙ ap (λ (m : ℕ). step_all (reading n (x.again m x.acc) f) (drop i bytes)) d
    ∙ ap (λ (xs : List ℕ). step_all (reading n (x.again ((x.more - k) + length bs) x.acc) f) xs) (sym (take-append-drop k (drop i bytes)))
    ∙ number_run bs (drop k (drop i bytes)) n (x.more - k) x.acc s f (rw e low) (omega arith)
    ∙ ap (λ (m : ℕ). step_all (reading (n + length bs) (stage_on s k bs) (keep_all x.place m f bs)) (drop k (drop i bytes))) (sym d)
    ∙ ap (λ (g : Flow). step_all (reading (n + length bs) (stage_on s k bs) g) (drop k (drop i bytes))) (kept_put x.place x.more f bs (rw e most) short)
    ∙ ap (λ (m : ℕ). step_all (reading (n + m) (stage_on s k bs) (with_work f (work_on s f.work bs))) (drop k (drop i bytes))) e
    ∙ ap (λ (xs : List ℕ). step_all (reading (n + k) (stage_on s k bs) (with_work f (work_on s f.work bs))) xs) (drop-drop k i bytes)
