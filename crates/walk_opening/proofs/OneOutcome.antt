-- The contracts of the functions that other crates call, as the check reads them: two outcomes that each allows coincide.
use Prim.Native.Nat.{ℕ, ◌+◌, ◌-◌}
use mathlib.Core.Path.{◌≡◌, refl, ap, sym, ◌∙◌}
use mathlib.Core.List.{List, []}
use native.Mathlib.Omega.{arith}
use Rattle.std.specs.Prelude.{Ok, Err}
use Rattle.basics.proofs.Outcomes.{left_inverse_equal}
use Rattle.basics.specs.Outcome.{Coincide, after_call}
use Rattle.machine.specs.Faults.{refusal}
use Rattle.machine.specs.Run.{Res, okay, fail, cut}
use Rattle.machine.specs.declared.Refusal.{Refusal}
use Rattle.state.specs.declared.IndexRead.{IndexRead}
use Rattle.state.specs.Flow.{Flow, Left, left, with_work}
use Rattle.state.specs.Calls.{flow_of}
use Rattle.fields.specs.declared.Stop.{Stop}
use Rattle.walk_opening.specs.Views.{OpeningAnswer, opened_d, OpeningFixed, Crossed, crossed_d, GapFixed}
use Rattle.fields.specs.Onward.{halted}
use Rattle.walk_opening.proofs.gap_walk.Kinds as gap_kinds
use Rattle.walk_opening.proofs.gap_walk.Reads as gap-stated
use Rattle.walk_opening.proofs.opening_walk.Kinds as opening-kinds
use Rattle.walk_opening.proofs.opening_walk.Reads as opening-stated
use Rattle.fields.specs.declared.Halt.TheVariants as halt

-- a fault by its position, from its place
abbrev stop_from : ℕ → Refusal → ℕ → Stop
stop_from base x n = record { number = x.number; place = x.place - base; count = n - base; leaves = 0 }

stop_back : (base : ℕ) (x : Stop) → x.leaves ≡ 0 → stop_from base (refusal x.number (base + x.place)) (base + x.count) ≡ x
stop_back base x e =
    let p : base + x.place - base ≡ x.place = omega arith in
    let n : base + x.count - base ≡ x.count = omega arith in
    let l : 0 ≡ x.leaves = sym e in
    rw (p, n, l)

-- the answer that a reading is made of
abbrev seen_crossed : Res (Unit {0}) Flow Left → Crossed
seen_crossed (okay r f n bs) = (Ok tt)
seen_crossed (fail x l n) = Err (halt.Bad (stop_from 0 x n))
seen_crossed (cut l n) = Err halt.Ended

seen_crossed_lem : (s : List ℕ) (end : ℕ) (f : Flow) (r : Crossed) → GapFixed s end r → seen_crossed (crossed_d 0 s end f r) ≡ r
unfolding crossed_d halted
seen_crossed_lem s end f (Ok tt) fixed = refl
seen_crossed_lem s end f (Err (halt.Bad x)) fixed = ap (λ (y : Stop). Err (halt.Bad y)) (stop_back 0 x fixed)
seen_crossed_lem s end f (Err halt.Ended) fixed = refl

abbrev seen_opened : ℕ → Res IndexRead Flow Left → OpeningAnswer
seen_opened base (okay x f n bs) = Ok (x, n - base)
seen_opened base (fail x l n) = Err (halt.Bad (stop_from base x n))
seen_opened base (cut l n) = Err halt.Ended

seen_opened_lem : (base : ℕ) (s : List ℕ) (f : Flow) (r : OpeningAnswer) → OpeningFixed s r → seen_opened base (opened_d base s f r) ≡ r
unfolding opened_d halted
seen_opened_lem base s f (Ok (x, end)) fixed = let q : base + end - base ≡ end = omega arith in ap (λ (n : ℕ). Ok (x, n)) q
seen_opened_lem base s f (Err (halt.Bad x)) fixed = ap (λ (y : Stop). Err (halt.Bad y)) (stop_back base x fixed)
seen_opened_lem base s f (Err halt.Ended) fixed = refl

-- the work area that it leaves
abbrev work_left : Res IndexRead Flow Left → List ℕ
work_left (okay x f n bs) = f.work
work_left (fail x l n) = l.work
work_left (cut l n) = l.work

work_left_lem : (base : ℕ) (s : List ℕ) (f : Flow) (work : List ℕ) (r : OpeningAnswer) → work_left (opened_d base s (with_work f work) r) ≡ work
unfolding opened_d halted
work_left_lem base s f work (Ok (x, end)) = refl
work_left_lem base s f work (Err (halt.Bad x)) = refl
work_left_lem base s f work (Err halt.Ended) = refl

-- of one run of bytes, with a start and an end of the gap: one answer
pub gap_walk_once : Coincide 1 gap_kinds.ps gap_kinds.r gap-stated.Post
gap_walk_once κs given r r' left left' p q =
    let f = flow_of 0 0 0 [] [] in
    (left_inverse_equal seen_crossed (seen_crossed_lem _ _ f r p.fixed) (seen_crossed_lem _ _ f r' q.fixed) (p.right 0 f ∙ sym (q.right 0 f)), refl)

-- of one brand, word on the brands, run of bytes, place and work area: one answer, and one work area after the call, byte by byte; the bytes stay as they were
pub opening_walk_once : Coincide 2 opening-kinds.ps opening-kinds.r opening-stated.Post
opening_walk_once κs given r r' left left' p q =
    let base = given.1.1.1.0 in
    let f = flow_of 0 0 0 given.1.1.1.1.0.now [] in
    let same = p.right f refl refl ∙ sym (q.right f refl refl) in (
      left_inverse_equal (seen_opened base) (seen_opened_lem base _ _ r p.fixed) (seen_opened_lem base _ _ r' q.fixed) same,
      ap (λ (w : List ℕ). after_call 2 opening-kinds.ps opening-kinds.r κs given (tt, (tt, (tt, (tt, (w, tt))))))
          (sym (work_left_lem base _ f _ r) ∙ ap work_left same ∙ work_left_lem base _ f _ r'),
    )
