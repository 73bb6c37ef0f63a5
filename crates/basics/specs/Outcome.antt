-- What it is for a contract to ask nothing of a caller and to allow one outcome only. `Pre` and `Post` are the contract as the check reads it: of a function's own modules `Kinds` and `Reads`.
use Rattle.std.specs.Prelude.{ℕ, ◌≡◌, List}
use contract.Lifetimes.{Lfts}
use borrow.Fn.Kinds.{ParamKind, ResultKind, Dens, In, Out, res_t, ended_of}
use denote.Triple.Clauses.{Lasts, AtExit, at_exit}

-- all that was given, by value or lent, as it is after the call; `left` is what the lent buffers hold then
abbrev pub after_call : (n : ℕ) (ps : List (ParamKind n)) (res : ResultKind n) (κs : Lfts n) (given : Dens κs ps) → Lasts (ended_of n ps res) κs given → AtExit (ended_of n ps res) κs
after_call n ps res κs given left = at_exit (ended_of n ps res) κs given left

-- of one thing given: one answer, and one state of what was given after the call
abbrev pub Coincide : (n : ℕ) (ps : List (ParamKind n)) (res : ResultKind n) (Post : Out n ps res) → Type 0
Coincide n ps res Post =
    (κs : Lfts n) (given : Dens κs ps) (r r' : (res_t res κs).Denot) (left left' : Lasts (ended_of n ps res) κs given) →
    Post κs given r (after_call n ps res κs given left) → Post κs given r' (after_call n ps res κs given left') →
    (r ≡ r') × (after_call n ps res κs given left ≡ after_call n ps res κs given left')

pub record OneOutcome (n : ℕ) (ps : List (ParamKind n)) (res : ResultKind n) (Pre : In n ps) (Post : Out n ps res) : Type 0 where
  -- nothing that can be given is left out
  pub asks_nothing : (κs : Lfts n) (given : Dens κs ps) → Pre κs given
  pub outcomes_coincide : Coincide n ps res Post
