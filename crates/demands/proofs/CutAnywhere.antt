-- Demand 3: any cutting, fed in order and finished, gives what the definition gives for the uncut segment, by the law of the fold; and what
-- is accepted belongs: each byte to one part, each tick to one leaf.
use Rattle.std.specs.Prelude.{ℕ, Result, Ok, Err}
use Prim.Native.Nat.{ℕ, ◌≤◌, ◌<◌}
use mathlib.Core.Path.{◌≡◌, refl, ap, sym, subst, ◌∙◌}
use mathlib.Core.List.{List, [], ◌∷◌}
use mathlib.Core.Bool.{true}
use mathlib.Core.Logic.{◌⊎◌, inl, inr}
use mathlib.Core.Option.{some}
use native.Mathlib.Omega.{arith}
use lib.ListN.{length}
use Rattle.basics.specs.Bytes.{AllBytes}
use Rattle.basics.proofs.Picks.{lt_or_ge}
use Rattle.state.specs.Flow.{work_bytes}
use Rattle.segment.specs.Tree.{Leaf, segment}
use Rattle.segment.specs.Parts.{Belongs}
use Rattle.segment.proofs.Belongs.{belongs}
use Rattle.machine.specs.declared.Refusal.{Refusal}
use Rattle.machine.specs.Faults.{refusal}
use Rattle.state.specs.declared.State.TheVariants as state
use Rattle.table.specs.Table.{room}
use Rattle.state.specs.Step.{World, reading, ended, refused, step_all, stage0, flow0}
use Rattle.state.specs.Ranges.{in_range}
use Rattle.state.specs.Calls.{Out, out, state_of, work_of, table_of, answer_of, fed, start_of, feed_state, feed_of, finish_state, finish_after, whole_of}
use Rattle.state.specs.Cutting.{Held, held, held_after, feed_held, finish_held, feed_all, joined}
use Rattle.state.proofs.RangeTests.{in_range_lem}
use Rattle.state.proofs.Ranges.{start_in_range, run_kept}
use Rattle.state.proofs.Cuts.{feed_short, feed_inside, cutting}
use Rattle.state.proofs.Kept.{finish_inside}
use Rattle.descent.specs.Whole.{whole_d}
use Rattle.law_d.proofs.LawD.{law_d}
use Rattle.demands.specs.Demands.{Accepts, in_parts}
use Rattle.demands.proofs.Exact.{accepted}

-- finish called after a feed, whatever it answered, is what follows at the first refusal: a refusal is kept
finish_any : (w : World) → in_range (state_of w) ≡ true → finish_held (held_after (fed w)) ≡ finish_after (fed w) (answer_of w)
unfolding finish_after answer_of finish_state state_of work_of table_of
finish_any (reading n s f) e = refl
finish_any (ended n top kept) e = refl
finish_any (refused n x kept) e = rw (finish_inside (state.Refused n kept.leaves x) e)

start_inside : (brand : ℕ) → in_range (start_of brand) ≡ true
start_inside brand = (in_range_lem (start_of brand)).1 (start_in_range brand)

finish_whole : (brand : ℕ) (bytes work table : List ℕ) → AllBytes bytes → work_bytes ≤ length work →
    finish_held (held_after (feed_of (start_of brand) bytes work table)) ≡ whole_of brand bytes work table
unfolding feed_state state_of
finish_whole brand bytes work table all long =
    let w : World = step_all (reading 0 (stage0 brand) (flow0 work table)) bytes in
    let read : feed_of (start_of brand) bytes work table ≡ fed w = feed_inside (start_of brand) bytes work table long (start_inside brand) in
    let inside : in_range (state_of w) ≡ true = (in_range_lem (state_of w)).1 (run_kept (reading 0 (stage0 brand) (flow0 work table)) bytes all (start_in_range brand)) in
    rw read (finish_any w inside)

-- parts fed with a short work area change nothing
short_parts : (parts : List (List ℕ)) (h : Held) → length h.work < work_bytes → feed_all h parts ≡ h
unfolding feed_all
short_parts [] h short = refl
short_parts (part ∷ parts) h short = rw (feed_short h.state part h.work h.table short) (short_parts parts h short)

module _ (brand : ℕ) (parts : List (List ℕ)) (work table : List ℕ) where
  -- With a work area that is too short every feed gives 1 and changes nothing, and finish gives 20 with place 0.
  pub short_refuses : length work < work_bytes → (part : List ℕ) → feed_held (feed_all (held (start_of brand) work table) parts) part ≡ out (Err (refusal 1 0)) (start_of brand) work table
  short_refuses short part = rw (short_parts parts (held (start_of brand) work table) short) (feed_short (start_of brand) part work table short)

  pub short_finishes : length work < work_bytes → in_parts brand parts work table ≡ out (Err (refusal 20 0)) (state.Refused 0 0 (refusal 20 0)) work table
  unfolding finish_state
  short_finishes short = rw (short_parts parts (held (start_of brand) work table) short, finish_inside (start_of brand) (start_inside brand))

  -- so that a reading that is accepted had one that is long enough
  pub accepted_long : (k : ℕ) → (in_parts brand parts work table).answer ≡ Ok k → work_bytes ≤ length work
  accepted_long k e = at (lt_or_ge (length work) work_bytes)
    where
      at : (length work < work_bytes) ⊎ (work_bytes ≤ length work) → work_bytes ≤ length work
      at (inl short) = let z : ◌≡◌ {A = ℕ} 0 1 = cc (ap (λ (o : Out (Result ℕ Refusal)). o.answer) (short_finishes short)) in absurd (omega arith)
      at (inr long) = long

module _ (brand : ℕ) (parts : List (List ℕ)) (work table : List ℕ) (all : AllBytes (joined parts)) where
  abbrev bytes : List ℕ
  bytes = joined parts

  -- With a work area that is long enough: answer, with the refusal and its place or the leaf count; state; work area; leaf table: those of
  -- one feed of all the bytes. No part at all is a cutting of no bytes.
  pub cut_anywhere : work_bytes ≤ length work → in_parts brand parts work table ≡ whole_of brand bytes work table
  cut_anywhere long = ap finish_held (cutting parts (held (start_of brand) work table) all) ∙ finish_whole brand bytes work table all long

  -- and those of the descent over the uncut segment
  pub cut_descent : work_bytes ≤ length work → in_parts brand parts work table ≡ whole_d brand bytes work table
  cut_descent long = cut_anywhere long ∙ sym (law_d brand bytes work table all)

  -- A reading that is accepted, however it was cut: the bytes are a segment of the tree, it is accepted with its leaves, and each byte of its
  -- material belongs to one leaf or one inner index box, each tick to one leaf.
  pub accepted_belongs : (k : ℕ) → (in_parts brand parts work table).answer ≡ Ok k →
      (ls : List Leaf) × (segment brand bytes ≡ some ls) × (length ls ≤ room table) × Accepts brand bytes table ls (in_parts brand parts work table) × Belongs brand bytes ls
  accepted_belongs k e =
      let long = accepted_long brand parts work table k e in
      let same = cut_anywhere long in
      let (ls, is, fits, a) = accepted brand bytes work table all long k (sym (ap (λ (o : Out (Result ℕ Refusal)). o.answer) same) ∙ e) in
      (ls, is, fits, subst (Accepts brand bytes table ls) (sym same) a, belongs brand bytes ls is)
