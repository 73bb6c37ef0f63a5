-- The contract of `index_walk` itself, as the check reads it: two outcomes that it allows coincide.
use Prim.Native.Nat.{ℕ, ◌+◌, ◌-◌}
use mathlib.Core.Path.{◌≡◌, refl, sym, ap, ◌∙◌}
use mathlib.Core.List.{List, []}
use native.Mathlib.Omega.{arith}
use Rattle.std.specs.Prelude.{Ok, Err}
use Rattle.basics.proofs.Outcomes.{left_inverse_equal}
use Rattle.basics.specs.Outcome.{Coincide, after_call}
use Rattle.machine.specs.Run.{Res, okay, fail, cut}
use Rattle.state.specs.declared.IndexRead.{IndexRead}
use Rattle.state.specs.Flow.{Flow, Left, with_work}
use Rattle.state.specs.Calls.{flow_of}
use Rattle.fields.specs.Onward.{halted}
use Rattle.walk_index.specs.Views.{IndexAnswer, index_d, IndexFixed}
use Rattle.walk_index.proofs.index_walk.Kinds as kinds
use Rattle.walk_index.proofs.index_walk.Reads as stated
use Rattle.fields.specs.declared.Halt.TheVariants as halt

-- the answer and the work area that a reading is made of
abbrev seen_index : ℕ → Res IndexRead Flow Left → IndexAnswer × List ℕ
seen_index base (okay x g n bs) = (Ok x, g.work)
seen_index base (fail y l n) = (Err (halt.Bad (record { number = y.number; place = y.place - base; count = n - base; leaves = 0 })), l.work)
seen_index base (cut l n) = ((Err halt.Ended), l.work)

seen_index_lem : (base : ℕ) (s : List ℕ) (end : ℕ) (f : Flow) (work : List ℕ) (r : IndexAnswer) → IndexFixed s end r → seen_index base (index_d base s end (with_work f work) r) ≡ (r, work)
unfolding index_d halted
seen_index_lem base s end f work (Ok x) h = refl
seen_index_lem base s end f work (Err (halt.Bad x)) h =
    let a : base + x.place - base ≡ x.place = omega arith in
    let b : base + x.count - base ≡ x.count = omega arith in
    rw (a, b) (ap (λ (l : ℕ). (Err (halt.Bad (record { number = x.number; place = x.place; count = x.count; leaves = l })), work)) (sym h.0))
seen_index_lem base s end f work (Err halt.Ended) h = refl

-- of one place, time, bytes, box and work area: one answer, and one work area after the call, byte by byte
pub index_walk_once : Coincide 2 kinds.ps kinds.r stated.Post
index_walk_once κs given r r' left left' p q =
    let when = given.1.0 in
    let s = given.1.1.0.now in
    let base = given.1.1.1.0 in
    let end = given.1.1.1.1.1.1.0 in
    let work = given.1.1.1.1.1.1.1.0.now in
    let held = left.1.1.1.1.1.1.1.0 in
    let held' = left'.1.1.1.1.1.1.1.0 in
    let f : Flow = flow_of 0 when 0 work [] in
    let same =
    left_inverse_equal (seen_index base) (seen_index_lem base s end f held r p.fixed) (seen_index_lem base s end f held' r' q.fixed)
    (p.right f refl refl ∙ sym (q.right f refl refl)) in (
      ap (λ (o : IndexAnswer × List ℕ). o.0) same,
      ap (λ (o : IndexAnswer × List ℕ). after_call 2 kinds.ps kinds.r κs given (tt, (tt, (tt, (tt, (tt, (tt, (tt, (o.1, tt))))))))) same,
    )
