-- Calls of start, feed, finish, lookup and resolve as their contracts allow them, and a segment read by such calls. `Pre` and `Post` are a contract as
-- the check reads it: of a function's own modules `Kinds` and `Reads`.
use Rattle.std.specs.Prelude.{ℕ, ◌≡◌, List, [], ◌∷◌, map, Result}
use contract.Lifetimes.{Lfts}
use borrow.Fn.Kinds.{ParamKind, ResultKind, Dens, In, res_t, ended_of}
use borrow.Fn.Kinds as kinds
use denote.Triple.Clauses.{Lasts}
use Rattle.basics.specs.Bytes.{number}
use Rattle.basics.specs.Outcome.{after_call}
use Rattle.moment.specs.declared.Request.{Request}
use Rattle.machine.specs.declared.Refusal.{Refusal}
use Rattle.state.specs.Calls.{Out, out}
use Rattle.state.specs.Cutting.{Held, held}
use Rattle.start.proofs.start.Kinds as start-kinds
use Rattle.start.proofs.start.Reads as start-stated
use Rattle.feed.proofs.feed.Kinds as feed-kinds
use Rattle.feed.proofs.feed.Reads as feed-stated
use Rattle.finish.proofs.finish.Kinds as finish-kinds
use Rattle.finish.proofs.finish.Reads as finish-stated
use Rattle.lookup.proofs.lookup.Kinds as lookup-kinds
use Rattle.lookup.proofs.lookup.Reads as lookup-stated
use Rattle.marks.specs.declared.Mark.{Mark}
use Rattle.marks.proofs.resolve.Kinds as resolve-kinds
use Rattle.marks.proofs.resolve.Reads as resolve-stated

-- A call: what is given to it, what it returns, what the lent buffers hold after it; and of these what the contract promises, where what
-- it asks is met.
pub record Call (n : ℕ) (ps : List (ParamKind n)) (res : ResultKind n) (Pre : In n ps) (Post : kinds.Out n ps res) : Type 0 where
  pub lifetimes : Lfts n
  pub given : Dens lifetimes ps
  pub result : (res_t res lifetimes).Denot
  pub left : Lasts (ended_of n ps res) lifetimes given
  pub promised : Pre lifetimes given → Post lifetimes given result (after_call n ps res lifetimes given left)

abbrev pub StartCall : Type 0
StartCall = Call 0 start-kinds.ps start-kinds.r start-stated.Pre start-stated.Post

abbrev pub FeedCall : Type 0
FeedCall = Call 3 feed-kinds.ps feed-kinds.r feed-stated.Pre feed-stated.Post

abbrev pub FinishCall : Type 0
FinishCall = Call 0 finish-kinds.ps finish-kinds.r finish-stated.Pre finish-stated.Post

abbrev pub LookupCall : Type 0
LookupCall = Call 1 lookup-kinds.ps lookup-kinds.r lookup-stated.Pre lookup-stated.Post

abbrev pub ResolveCall : Type 0
ResolveCall = Call 1 resolve-kinds.ps resolve-kinds.r resolve-stated.Pre resolve-stated.Post

-- the brand that is wanted
abbrev pub brand_of : StartCall → ℕ
brand_of c = number c.given.0

-- the piece that is fed; the state and the buffers given with it; and those that the call leaves
abbrev pub piece_of : FeedCall → List ℕ
piece_of c = c.given.1.0.now

abbrev pub given_to : FeedCall → Held
given_to c = held c.given.0 c.given.1.1.0.now c.given.1.1.1.0.now

abbrev pub held_by : FeedCall → Held
held_by c = held c.result.state c.left.1.1.0 c.left.1.1.1.0

-- calls of feed in order, each given what the one before left: from what is held before the first to what is held after the last
unfoldable pub InOrder : Held → List FeedCall → Held → Type 0
InOrder before [] end = before ≡ end
InOrder before (c ∷ cs) end = (given_to c ≡ before) × InOrder (held_by c) cs end

-- A segment read: start, its parts fed in order with the two buffers, and finish, whatever the feeds answered; and what comes of it.
pub record SegmentRead (brand : ℕ) (parts : List (List ℕ)) (work table : List ℕ) (o : Out (Result ℕ Refusal)) : Type 0 where
  pub start : StartCall
  pub wants : brand_of start ≡ brand
  pub feeds : List FeedCall
  pub pieces : map piece_of feeds ≡ parts
  pub end : Held
  pub in_order : InOrder (held start.result work table) feeds end
  pub finish : FinishCall
  pub ends : finish.given.0 ≡ end.state
  pub gives : out finish.result.answer finish.result.state end.work end.table ≡ o

-- the time that is asked for, and the table that it is looked up in
abbrev pub request_of : LookupCall → Request
request_of c = c.given.1.1.0

abbrev pub table_lent : LookupCall → List ℕ
table_lent c = c.given.1.0.now

-- the mark that is resolved, and the table that its time is looked up in
abbrev pub mark_of : ResolveCall → Mark
mark_of c = c.given.1.1.0

abbrev pub table_of : ResolveCall → List ℕ
table_of c = c.given.1.0.now
