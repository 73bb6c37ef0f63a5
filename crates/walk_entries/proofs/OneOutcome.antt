-- The contract of `under`, as the check reads it: two outcomes that it allows coincide.
use mathlib.Core.Path.{◌≡◌, refl, sym, ap, ◌∙◌}
use Prim.Native.Nat.{ℕ}
use mathlib.Core.List.{List}
use Rattle.std.specs.Prelude.{Ok, Err}
use Rattle.basics.specs.Outcome.{Coincide, after_call}
use Rattle.basics.proofs.Outcomes.{left_inverse_equal}
use Rattle.machine.specs.Run.{Res, okay, fail, cut}
use Rattle.state.specs.Flow.{Flow, Left}
use Rattle.walk_entries.specs.Views.{Went, went_d}
use Rattle.walk_entries.specs.declared.Broken.TheVariants as broken
use Rattle.walk_entries.proofs.under.Kinds as under-kinds
use Rattle.walk_entries.proofs.under.Reads as under_stated

-- an answer with the two buffers
abbrev Carries : Type 0
Carries = Went × List ℕ × List ℕ

-- what a reading by structure is a view of
abbrev seen_went : Res (Unit {0}) Flow Left → Carries
seen_went (okay u f n bs) = (Ok (record { n = n; now = f.now; leaves = f.leaves; last = f.last }), f.work, f.table)
seen_went (fail x l n) = (Err (broken.Bad (record { number = x.number; place = x.place; count = n; leaves = l.leaves })), l.work, l.table)
seen_went (cut l n) = (Err (broken.Ended l.leaves), l.work, l.table)

seen_went_lem : (base : ℕ) (s work table : List ℕ) (r : Went) → seen_went (went_d base s work table r) ≡ (r, work, table)
unfolding went_d
seen_went_lem base s work table (Ok so) = refl
seen_went_lem base s work table (Err (broken.Bad x)) = refl
seen_went_lem base s work table (Err (broken.Ended leaves)) = refl

-- of one index, place, time, bytes and pair of buffers: one answer, and one work area and table after the call, number by number
pub under_once : Coincide 3 under-kinds.ps under-kinds.r under_stated.Post
under_once = λ κs given r r' left left' p q.
    let work = left.1.1.1.1.1.1.0 in
    let table = left.1.1.1.1.1.1.1.0 in
    let work' = left'.1.1.1.1.1.1.0 in
    let table' = left'.1.1.1.1.1.1.1.0 in
    let same = left_inverse_equal seen_went (seen_went_lem _ _ work table r) (seen_went_lem _ _ work' table' r') (p.right ∙ sym q.right) in (
      ap (λ (o : Carries). o.0) same,
      ap (λ (o : Carries). after_call 3 under-kinds.ps under-kinds.r κs given (tt, (tt, (tt, (tt, (tt, (tt, (o.1, (o.2, tt))))))))) same,
    )
