-- What the functions of the walk answer one another: a header that was not read, a body that is skipped, brands, a box that is passed,
-- and the header of the top index.
use Rattle.fields.specs.declared.Halt.{Halt}
use Rattle.std.specs.Prelude.{ℕ, zero, suc, ◌+◌, ◌-◌, ◌%◌, ◌≤◌, ◌≡◌, List, Bool, false, ◌||◌, eqb, length, drop, Result, Ok, Err}
use Rattle.segment.specs.Constants.{limit, sidx}
use Rattle.machine.specs.Run.{Res, okay, after}
use Rattle.machine.specs.Lists.{boxes_d}
use Rattle.machine.specs.declared.Header.{Header}
use Rattle.state.specs.declared.IndexRead.{IndexRead}
use Rattle.state.specs.Flow.{Flow, Left, left}
use Rattle.state.specs.Rows.{body_length}
use Rattle.state.specs.Sidx.{topmost}
use Rattle.state.specs.Opening.{OpeningGave, passed, span_of, opening}
use Rattle.descent.specs.Sidx.{sidx_d}
use Rattle.descent.specs.Opening.{opening_body_d}
use Rattle.fields.specs.Answers.{number_at}
use Rattle.fields.specs.Onward.{placed, from, halted}
use Rattle.walk_opening.specs.Views.{Crossed, NoLeaves, crossed_d, GapFixed}

-- the header of the top index, or why none was found
abbrev pub Found : Type 0
Found = Result Header Halt

-- whether a brand is among so many, from a position on
unfoldable pub lists_brand : ℕ → List ℕ → ℕ → ℕ → Bool
lists_brand brand s at zero = false
lists_brand brand s at (suc n) = eqb (number_at 4 s at) brand || lists_brand brand s (at + 4) n

-- A header that was read at a position: its box ends by `end`, and is no shorter than its header, whose bytes are there.
pub record BoxHere (s : List ℕ) (at end : ℕ) (h : Header) : Type 0 where
  pub pos : h.pos ≡ at
  pub small : h.head ≤ 16
  pub holds : h.head ≤ h.size
  pub within : at + h.size ≤ end
  pub here : at + h.head ≤ length s

-- row 6: the length of a `styp`
pub record StypLong (h : Header) : Type 0 where
  pub long : 8 ≤ body_length h
  pub even : body_length h % 4 ≡ 0

-- a box up to the top index is passed, it is refused, or the bytes end
abbrev pub passed_d : ℕ → List ℕ → ℕ → Flow → Crossed → Res OpeningGave Flow Left
passed_d base s end f r = after (crossed_d base s end f r) (λ u g m cs. okay passed g m cs)

-- The box of a header, by the body that the descent gives it, wherever the bytes stand in the segment.
pub record BoxPassed (body_d : Header → Flow → ℕ → List ℕ → Res OpeningGave Flow Left) (s : List ℕ) (at : ℕ) (h : Header) (r : Crossed) : Type 0 where
  pub right : (base : ℕ) (f : Flow) → passed_d base s (at + h.size) f r ≡ from left base s f (body_d (placed base h)) (at + h.head)
  pub fixed : GapFixed s (at + h.size) r

-- the header of the top index is found, and its body follows; a refusal; or the bytes end
unfoldable pub found_d : ℕ → List ℕ → Flow → Found → Res IndexRead Flow Left
found_d base s f (Ok h) = from left base s f (sidx_d topmost (span_of (placed base h))) (h.pos + h.head)
found_d base s f (Err x) = halted left base s f x

abbrev pub FoundFixed : List ℕ → ℕ → Found → Type 0
FoundFixed s end (Ok h) = (h.kind ≡ sidx) × BoxHere s h.pos end h
FoundFixed s end (Err x) = NoLeaves x

-- The boxes from a position up to the header of the top index are read as the descent reads them where the bytes stand, with as many
-- turns as there are bytes left; `end` is the position of the limit.
abbrev pub FoundFrom : ℕ → Bool → List ℕ → ℕ → ℕ → Found → Type 0
FoundFrom brand branded s at end r =
    (base : ℕ) (f : Flow) (turns : ℕ) → base + end ≡ limit → length s - at ≤ turns →
    found_d base s f r ≡ boxes_d (opening brand) (λ b. opening_body_d brand) turns branded f (base + at) (drop at s)

pub record IndexFound (brand : ℕ) (branded : Bool) (s : List ℕ) (end : ℕ) (r : Found) : Type 0 where
  pub right : FoundFrom brand branded s 0 end r
  pub fixed : FoundFixed s end r
