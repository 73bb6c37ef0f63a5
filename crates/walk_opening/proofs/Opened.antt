-- The opening from its first byte lent on: what the header of the top index, and then the index, make of it.
use Prim.Native.Nat.{ℕ, suc, ◌+◌}
use mathlib.Core.Path.{◌≡◌, refl, ap, sym, subst, ◌∙◌}
use mathlib.Core.List.{List}
use mathlib.Core.Bool.{Bool}
use native.Mathlib.Omega.{arith}
use lib.ListN.{length}
use Rattle.fields.specs.declared.Halt.{Halt}
use Rattle.std.specs.Prelude.{Ok, Err}
use Rattle.segment.specs.Constants.{limit}
use Rattle.machine.specs.Run.{Res}
use Rattle.machine.specs.Lists.{boxes_d}
use Rattle.machine.specs.declared.Header.{Header}
use Rattle.state.specs.declared.IndexRead.{IndexRead}
use Rattle.state.specs.Flow.{Flow, Left, left, with_work}
use Rattle.state.specs.Sidx.{topmost}
use Rattle.state.specs.Opening.{opening}
use Rattle.descent.specs.Sidx.{sidx_d}
use Rattle.descent.specs.Opening.{opening_body_d}
use Rattle.fields.specs.Onward.{from}
use Rattle.index.specs.declared.Where.TheVariants as places
use Rattle.walk_index.specs.Views.{IndexAnswer, index_d, IndexFixed, SumsFit, IndexWalked}
use Rattle.walk_index.specs.Parts.{HaltIn}
use Rattle.walk_opening.specs.Views.{OpeningAnswer, NoLeaves, opened_d, OpeningFixed, OpeningWalked}
use Rattle.walk_opening.specs.Steps.{Found, found_d, FoundFrom, IndexFound}
use Rattle.fields.specs.declared.Halt.TheVariants as halt

abbrev Opened : Type 0
Opened = Res IndexRead Flow Left

-- what an answer says of the sums of the top index, where it gives one
abbrev Summed : ℕ → OpeningAnswer → Type 0
Summed base q = (x : IndexRead) (end : ℕ) → q ≡ Ok (x, end) → SumsFit places.Topmost (base + end) x

err_none : (base : ℕ) (x : Halt) → Summed base (Err x)
err_none base y x end e = let z : ◌≡◌ {A = ℕ} 0 1 = cc in absurd (omega arith)

-- the opening answers what an index that ends at `end` does
pub record Answered (base : ℕ) (s : List ℕ) (end : ℕ) (r : IndexAnswer) (q : OpeningAnswer) : Type 0 where
  pub same : (g : Flow) → opened_d base s g q ≡ index_d base s end g r
  pub fixed : OpeningFixed s q
  pub sums : Summed base q

module _ (brand : ℕ) (branded : Bool) (base : ℕ) (s : List ℕ) (end : ℕ) (all : base + end ≡ limit) where
  -- from the first byte on
  whole : (r : Found) → FoundFrom brand branded s 0 end r → (f : Flow) → found_d base s f r ≡ boxes_d (opening brand) (λ b. opening_body_d brand) (suc (length s)) branded f base s
  whole r right f =
      let q : base + 0 ≡ base = omega arith in
      right base f (suc (length s)) all (omega arith) ∙ ap (λ (m : ℕ). boxes_d (opening brand) (λ b. opening_body_d brand) (suc (length s)) branded f m s) q

  -- no index was found: the work area stays
  pub not_found : {r : Found} (x : Halt) (work : List ℕ) → r ≡ Err x → IndexFound brand branded s end r → OpeningWalked brand branded base s work work (Err x)
  unfolding opened_d found_d
  not_found {r} x work q found =
      let so : IndexFound brand branded s end (Err x) = rw q at found in
      record {
        right = λ f z e. ap (λ (w : List ℕ). opened_d base s (with_work f w) (Err x)) (sym e) ∙ whole (Err x) so.right f;
        long = refl;
        fixed = so.fixed;
        sums = err_none base x;
      }

  -- an index that was found: what it answers is what the opening answers
  pub index_walked : (h : Header) (work work' : List ℕ) (r : IndexAnswer) (q : OpeningAnswer) → FoundFrom brand branded s 0 end (Ok h) →
      IndexWalked places.Topmost 0 base s h.pos (h.pos + h.head) (h.pos + h.size) work work' r →
      Answered base s (h.pos + h.size) r q → OpeningWalked brand branded base s work work' q
  unfolding found_d
  index_walked h work work' r q right walked answered = record {
    right = λ f z e.
        let ends : base + (h.pos + h.size) ≡ base + h.pos + h.size = omega arith in
        answered.same (with_work f work')
        ∙ walked.right f z e
        ∙ ap (λ (n : ℕ). from left base s f (sidx_d topmost (record { pos = base + h.pos; end = n })) (h.pos + h.head)) ends
        ∙ whole (Ok h) right f;
    long = walked.long;
    fixed = answered.fixed;
    sums = answered.sums;
  }

-- an index that was not read
no_leaves : (end : ℕ) (x : Halt) → HaltIn end x → NoLeaves x
no_leaves end (halt.Bad x) g = g.0
no_leaves end halt.Ended g = tt

pub index_stopped : (base : ℕ) (s : List ℕ) (end : ℕ) {r : IndexAnswer} (x : Halt) → r ≡ Err x → IndexFixed s end r → Answered base s end r (Err x)
unfolding opened_d index_d
index_stopped base s end x e fixed = record {
  same = λ g. ap (index_d base s end g) (sym e);
  fixed = no_leaves end x (subst (λ (q : IndexAnswer). IndexFixed s end q) e fixed);
  sums = err_none base x;
}

-- an index that was read
pub index_read : (base : ℕ) (s : List ℕ) (end : ℕ) (r : IndexAnswer) (x : IndexRead) → r ≡ Ok x → IndexFixed s end r →
    ((y : IndexRead) → r ≡ Ok y → SumsFit places.Topmost (base + end) y) → Answered base s end r (Ok (x, end))
unfolding opened_d index_d
index_read base s end r x e fixed sums = record {
  same = λ g. ap (index_d base s end g) (sym e);
  fixed = subst (λ (q : IndexAnswer). IndexFixed s end q) e fixed;
  sums = λ y n k. let q : ◌≡◌ {A = IndexRead × ℕ} (x, end) (y, n) = cc in subst (λ (w : IndexRead × ℕ). SumsFit places.Topmost (base + w.1) w.0) q (sums x e);
}
