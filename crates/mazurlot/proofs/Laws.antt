-- Laws of what a call says and leaves: what is written into the slot; a state found or not; a state packed over the numbers of another.
use Rattle.std.specs.Prelude.{Result, Ok, Err}
use Prim.Native.Nat.{ℕ, ◌≤◌}
use mathlib.Core.Path.{◌≡◌, refl, sym, ap, ◌∙◌}
use mathlib.Core.List.{List, [], ◌∷◌, ◌++◌}
use mathlib.Core.Bool.{Bool, true, false}
use mathlib.Core.Option.{Option, some, none}
use lib.Dec.{eqb}
use lib.ListN.{length, set}
use borrow.Author.Tests.{eq-eqb, ne_eqb, le-ltb}
use Rattle.std.specs.Prelude.{Result, Ok, Err}
use Rattle.basics.specs.Choose.{pick}
use Rattle.basics.specs.Put.{put_all}
use Rattle.machine.specs.declared.Refusal.{Refusal}
use Rattle.state.specs.declared.State.{State}
use Rattle.state.specs.Calls.{Out, out, feed_of, Finished, finished, finish_of}
use Rattle.numbered.specs.Numbers.{numbers_of, state_numbers}
use Rattle.numbered.specs.Unpacked.{unpack_of, pack_of}
use Rattle.numbered.proofs.Lengths.{numbers_length}
use Rattle.numbered.proofs.Unpacks.{unpacked_is}
use Rattle.pack.specs.Pack.{unpacked, unpack_answer}
use Rattle.lookup.specs.Spots.{Spots, OnRecord, answer_at}
use Rattle.moment.specs.declared.Request.TheVariants as request
use Rattle.marks.specs.declared.Mark.{Mark}
use Rattle.mazurlot.specs.Answers.{said, of_count, of_lookup, of_mark, slot_after}
use Rattle.mazurlot.specs.Accepted.{refused_with}
use Rattle.mazurlot.specs.Calls.{call, saying, fed_from, feed_call, finished_from, finish_call, look_from, resolved_from}
use Rattle.covering.specs.declared.Leaf.{Leaf}

-- 2 writes nothing; any other number its values
pub two_writes_nothing : (n : ℕ) (vs slot : List ℕ) → n ≡ 2 → slot ≡ slot_after (said n vs) slot
unfolding slot_after pick
two_writes_nothing n vs slot e = rw (eq-eqb n 2 e)

pub other_writes : (n : ℕ) (vs slot : List ℕ) → (n ≡ 2 → ⊥) → put_all slot 0 vs ≡ slot_after (said n vs) slot
unfolding slot_after pick
other_writes n vs slot h = rw (ne_eqb n 2 h)

-- what a call leaves, by each of its parts
pub same_call : {n n' : ℕ} {slot slot' ns ns' work table : List ℕ} → n ≡ n' → slot ≡ slot' → ns ≡ ns' → call n slot ns work table ≡ call n' slot' ns' work table
same_call {n} {n'} {slot} {slot'} {ns} {ns'} {work} {table} a b c =
    ap (λ (k : ℕ). call k slot ns work table) a ∙ ap (λ (l : List ℕ). call n' l ns work table) b ∙ ap (λ (l : List ℕ). call n' slot' l work table) c

-- the state that an answer of unpacking holds
state_in : Result State Refusal → Option State
state_in (Ok s) = some s
state_in (Err x) = none

-- the number of a refusal that it holds
number_in : Result State Refusal → ℕ
number_in (Ok s) = 0
number_in (Err x) = x.number

back : (o : Option State) → state_in (unpacked o) ≡ o
unfolding state_in unpacked
back none = refl
back (some s) = refl

module _ (ns : List ℕ) (r : Result State Refusal) (answered : r ≡ unpack_answer ns) where
  pub was_found : (s : State) → r ≡ Ok s → unpack_of ns ≡ some s
  unfolding state_in
  was_found s e = sym (back (unpack_of ns)) ∙ ap state_in (sym answered ∙ e)

  pub was_refused : (x : Refusal) → r ≡ Err x → unpack_of ns ≡ none
  unfolding state_in
  was_refused x e = sym (back (unpack_of ns)) ∙ ap state_in (sym answered ∙ e)

  -- what is no state is refused with 2
  pub two_refused : (x : Refusal) → r ≡ Err x → x.number ≡ refused_with (unpack_of ns)
  unfolding unpacked refused_with number_in
  two_refused x e = let gone = was_refused x e in sym (ap number_in (sym answered ∙ e)) ∙ ap (λ (o : Option State). number_in (unpacked o)) gone ∙ sym (ap refused_with gone)

-- a state packed over as many numbers as it has, or over those of a state
pub packed_in : (ns : List ℕ) (next : State) → length ns ≡ state_numbers → pack_of next ns ≡ numbers_of next
unfolding pack_of pick
packed_in ns next e = rw (eq-eqb (length ns) state_numbers e)

pub packed_over : (ns : List ℕ) (s next : State) → unpack_of ns ≡ some s → pack_of next ns ≡ numbers_of next
packed_over ns s next e = packed_in ns next (ap length (unpacked_is ns s e).0 ∙ numbers_length s)

-- what feed and finish leave of a state that was found, where what is said is the answer
module _ (ns slot : List ℕ) (r : Result State Refusal) (answered : r ≡ unpack_answer ns) (s : State) (is : r ≡ Ok s) (room : 1 ≤ length slot) where
  pub fed_call :
      (piece work table : List ℕ) (a : Result ℕ Refusal) (next : State) (work' table' : List ℕ) → out a next work' table' ≡ feed_of s piece work table
      → (ns' : List ℕ) → ns' ≡ pack_of next ns
      → (b : Result ℕ Refusal) (n : ℕ) (slot' : List ℕ) → (n ≡ (of_count b).number) × (slot' ≡ slot_after (of_count b) slot)
      → a ≡ b
      → call n slot' ns' work' table' ≡ feed_call piece ns work table slot
  unfolding feed_call fed_from pick
  fed_call piece work table a next work' table' fed ns' packed b n slot' told same =
      let found = was_found ns r answered s is in
      rw (le-ltb _ _ room, found)
      (same_call told.0 told.1 (packed ∙ packed_over ns s next found)
      ∙ ap (λ (q : Result ℕ Refusal). saying (of_count q) slot (numbers_of next) work' table') (sym same)
      ∙ ap (λ (o : Out (Result ℕ Refusal)). saying (of_count o.answer) slot (numbers_of o.state) o.work o.table) fed)

  pub finished_call :
      (a : Result ℕ Refusal) (next : State) → finished a next ≡ finish_of s
      → (ns' : List ℕ) → ns' ≡ pack_of next ns
      → (b : Result ℕ Refusal) (n : ℕ) (slot' : List ℕ) → (n ≡ (of_count b).number) × (slot' ≡ slot_after (of_count b) slot)
      → a ≡ b
      → call n slot' ns' [] [] ≡ finish_call ns slot
  unfolding finish_call finished_from pick
  finished_call a next ended ns' packed b n slot' told same =
      let found = was_found ns r answered s is in
      rw (le-ltb _ _ room, found)
      (same_call told.0 told.1 (packed ∙ packed_over ns s next found)
      ∙ ap (λ (q : Result ℕ Refusal). saying (of_count q) slot (numbers_of next) [] []) (sym same)
      ∙ ap (λ (o : Finished). saying (of_count o.answer) slot (numbers_of o.state) [] []) ended)

-- a spot that stands for an answer lies on a record, and the answer is what it gives
pub spot_told : (table : List ℕ) (a : Result Leaf Refusal) (s : Result ℕ ℕ) → Spots table a s → OnRecord table s × (answer_at table s ≡ a)
spot_told table a (Ok at) e = e
spot_told table a (Err n) e = (tt, e)

-- a mark is answered as its seconds are, with its page behind
pub mark_looked_up : (o : Option State) (table : List ℕ) (m : Mark) →
    of_mark (resolved_from o table m) ≡ of_mark (record { page = m.page; answer = look_from o table (request.Seconds m.seconds) })
unfolding resolved_from look_from
mark_looked_up none table m = refl
mark_looked_up (some s) table m = refl

page_put : (slot : List ℕ) (a : Result Leaf Refusal) (page : ℕ) → set (put_all slot 0 (of_lookup a).values) 7 page ≡ put_all slot 0 ((of_lookup a).values ++ page ∷ [])
unfolding of_lookup put_all
page_put slot (Ok leaf) page = refl
page_put slot (Err x) page = refl

either_written : (b : Bool) (slot xs ys : List ℕ) (page : ℕ) → set xs 7 page ≡ ys → pick b (pick b slot xs) (set (pick b slot xs) 7 page) ≡ pick b slot ys
unfolding pick
either_written true slot xs ys page e = refl
either_written false slot xs ys page e = e

-- the page written behind what was written of a lookup, unless that is a 2
pub page_behind : (slot : List ℕ) (a : Result Leaf Refusal) (page : ℕ) →
    let n : ℕ = (of_lookup a).number in
    pick (eqb n 2) (slot_after (of_lookup a) slot) (set (slot_after (of_lookup a) slot) 7 page) ≡ slot_after (said n ((of_lookup a).values ++ page ∷ [])) slot
unfolding slot_after
page_behind slot a page =
    either_written (eqb (of_lookup a).number 2) slot (put_all slot 0 (of_lookup a).values) (put_all slot 0 ((of_lookup a).values ++ page ∷ [])) page (page_put slot a page)

pub page_said : (slot : List ℕ) (a : Result Leaf Refusal) (page : ℕ) {n : ℕ} {first last : List ℕ} → (n ≡ (of_lookup a).number) × (first ≡ slot_after (of_lookup a) slot) →
    last ≡ pick (eqb n 2) first (set first 7 page) → last ≡ slot_after (said (of_lookup a).number ((of_lookup a).values ++ page ∷ [])) slot
page_said slot a page {n} {first} {last} e put =
    put ∙ ap (λ (k : ℕ). pick (eqb k 2) first (set first 7 page)) e.0 ∙ ap (λ (l : List ℕ). pick (eqb (of_lookup a).number 2) l (set l 7 page)) e.1 ∙ page_behind slot a page
