-- `walk_leaf::full_leaf` meets its contract, by those of `read_head`, `leaf_flaw` and `stop_at`, and by the laws `full_head` and `full_shown`.
use Prim.Native.Nat.{ℕ, ◌≤◌, ◌+◌}
use mathlib.Core.Path.{◌≡◌, refl, ap, sym, ◌∙◌}
use mathlib.Core.Bool.{Bool, true, false}
use Rattle.std.specs.Prelude.{Option, Some, None, unwrap_or}
use Rattle.basics.specs.Choose.{pick}
use lib.Dec.{eqb}
use native.Mathlib.Omega.{arith}
use borrow.Author.Tests.{eqb-false}
use Rattle.flaws.specs.Flaws.{numbered}
use Rattle.fields.specs.Answers.{stop_at}
use Rattle.fields.proofs.Answers.{head_in}
use Rattle.walk_leaf.specs.Walks.{leaf_flaw}
use Rattle.walk_leaf.proofs.Loops.{head_headed}
use Rattle.walk_leaf.proofs.Leaves.{full_head, full_shown, flaw_nine}
use Rattle.walk_leaf.proofs.full_leaf.Goals as goal

pub returns-in-Err : goal.returns-in-Err
returns-in-Err c id last = let a = c.args in full_head id a.bytes.now a.at a.end last c.requires.2 c.requires.0 _ (sym c.read_head.ensures ∙ c.in-Err.is)

pub overflow_add-at : goal.overflow_add-at
overflow_add-at c =
    let a = c.args in
    let i = head_in a.bytes.now a.at a.end _ (sym c.read_head.ensures ∙ c.in-Ok.is) in
    let within = i.within in
    let holds = i.holds in
    omega arith

-- 15 where its header shows no number
or_full : (n : ℕ) → unwrap_or (numbered n) 15 ≡ pick (eqb n 0) 15 n
unfolding numbered pick
or_full n = by (eqb n 0)
  where
    by : (t : Bool) → unwrap_or (pick t None (Some n)) 15 ≡ pick t 15 n
    by true = refl
    by false = refl

some_full : (n : ℕ) → n ≤ 9 → (pick (eqb n 0) 15 n ≡ 0 → ⊥) × (pick (eqb n 0) 15 n ≤ 15)
unfolding pick
some_full n nine = by (eqb n 0) refl
  where
    by : (t : Bool) → eqb n 0 ≡ t → (pick t 15 n ≡ 0 → ⊥) × (pick t 15 n ≤ 15)
    by true e = (λ z. omega arith, omega arith)
    by false e = (eqb-false n 0 e, omega arith)

pub returns-in-Ok : goal.returns-in-Ok
returns-in-Ok c id last =
    let a = c.args in
    let s = a.bytes.now in
    let h = c.in-Ok.h in
    let e = sym c.read_head.ensures ∙ c.in-Ok.is in
    let shown = c.unwrap_or-flaw.ensures ∙ ap (λ (x : Option ℕ). unwrap_or x 15) c.leaf_flaw.ensures ∙ or_full (leaf_flaw false h) in
    let told : c.stop_at.result ≡ stop_at c.unwrap_or-flaw.result a.at (a.at + h.head) =
    c.stop_at.ensures ∙ ap (stop_at c.unwrap_or-flaw.result a.at) (omega arith) in
    let full = some_full (leaf_flaw false h) (flaw_nine false h) in
    rw told
    (full_shown id s a.at a.end last c.requires.2 c.requires.0 e (head_headed s a.at a.end c.requires.1 e) (head_in s a.at a.end h e).within _
    shown (λ z. full.0 (sym shown ∙ z)) (omega (arith, shown, full.1)))
