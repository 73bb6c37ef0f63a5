-- Texts put together: what a line holds after a text is added at its end.
use Rattle.std.specs.Prelude.{ℕ, Result, Ok, Err}
use Rattle.machine.specs.declared.Refusal.{Refusal}
use Prim.Native.Nat.{ℕ, zero, suc, ◌+◌, ◌*◌, ◌-◌, ◌≤◌, ◌<◌, ◌/◌, ◌%◌}
use mathlib.Core.Path.{◌≡◌, refl, sym, ap, subst, ◌∙◌}
use mathlib.Core.List.{List, [], ◌∷◌, ◌++◌, append_assoc, append-nil}
use mathlib.Core.Bool.{Bool, true, false}
use native.Mathlib.Omega.{arith}
use native.Mathlib.Numerals.{add-one, unary_clauses}
use lib.Dec.{ltb}
use borrow.Author.Tests.{lt-ltb, le-ltb}
use lib.ListN.{length, take, replicate, set, get_or, length-append}
use lib.Seq.{take-suc}
use Rattle.basics.specs.Choose.{pick}
use Rattle.basics.proofs.Picks.{pick_yes, pick_no, pick_holds}
use Rattle.table.specs.Table.{record_numbers, numbers_of, record_at}
use Rattle.table.specs.declared.Record.{Record}
use Rattle.listing.specs.Text.{digit, decimal_in, decimal, spaced, heading_text, leaf_text, table_line, line_of, Adds}
use Rattle.listing.specs.declared.Line.{Line}

pub line_length : {line : Line} (text : List ℕ) → line ≡ line_of text → line.length ≡ length text
line_length text e = ap (λ (l : Line). l.length) e

-- a store at the end of a text, in a list that goes on
set_after : (text rest : List ℕ) (x b : ℕ) → set (text ++ (x ∷ rest)) (length text) b ≡ (text ++ (b ∷ [])) ++ rest
set_after [] rest x b = refl
set_after (t ∷ ts) rest x b = ap (λ (l : List ℕ). t ∷ l) (set_after ts rest x b)

-- a line with one byte stored after its text
abbrev stored : Line → ℕ → Line
stored line b = record { bytes = set line.bytes line.length b; length = line.length + 1 }

stored_line : (text : List ℕ) (b : ℕ) → length text < 192 → stored (line_of text) b ≡ line_of (text ++ (b ∷ []))
stored_line text b h =
    let longer : length (text ++ (b ∷ [])) ≡ length text + 1 = length-append text (b ∷ []) in
    let fewer : 192 - length text ≡ suc (192 - length (text ++ (b ∷ []))) = omega arith in
    let bytes : set (text ++ replicate (192 - length text) 0) (length text) b ≡ (text ++ (b ∷ [])) ++ replicate (192 - length (text ++ (b ∷ []))) 0
    = ap (λ (n : ℕ). set (text ++ replicate n 0) (length text) b) fewer ∙ set_after text (replicate (192 - length (text ++ (b ∷ []))) 0) 0 b in
    cc

pub adds_byte : (line : Line) (b : ℕ) → line.length < 192 → Adds line (b ∷ []) (stored line b)
adds_byte line b h = record {
  longer = refl;
  holds = λ text e. ap (λ (l : Line). stored l b) e ∙ stored_line text b (subst (λ (l : Line). l.length < 192) e h);
}

pub adds_none : (line : Line) → Adds line [] line
adds_none line = record { longer = omega arith; holds = λ text e. e ∙ ap line_of (sym (append-nil text)) }

pub adds_both : {line more r : Line} {a b : List ℕ} → Adds line a more → Adds more b r → Adds line (a ++ b) r
adds_both {line} {more} {r} {a} {b} p q = record {
  longer = omega (arith, length-append a b);
  holds = λ text e. q.holds (text ++ a) (p.holds text e) ∙ ap line_of (append_assoc text a b);
}

-- the same addition, its text written another way
pub adds_as : {line r : Line} {a b : List ℕ} → a ≡ b → Adds line a r → Adds line b r
adds_as {line} {r} e p = subst (λ (l : List ℕ). Adds line l r) e p

length_picked : (t : Bool) (x y : List ℕ) (k : ℕ) → length x ≤ k → length y ≤ k → length (pick t x y) ≤ k
unfolding pick
length_picked true x y k p q = p
length_picked false x y k p q = q

pub decimal_length : (k n : ℕ) → length (decimal_in k n) ≤ k
unfolding decimal_in
decimal_length zero n = omega arith
decimal_length (suc k) n =
    length_picked (ltb n 10) (digit n ∷ []) (decimal_in k (n / 10) ++ (digit (n % 10) ∷ [])) (suc k) (omega arith)
    (omega (arith, decimal_length k (n / 10), length-append (decimal_in k (n / 10)) (digit (n % 10) ∷ [])))

-- no digits, one digit, and more
pub decimal_none : (k n : ℕ) → k ≡ 0 → decimal_in k n ≡ []
unfolding decimal_in
decimal_none zero n e = refl
decimal_none (suc k) n e = absurd (omega arith)

pub decimal_one : (k n : ℕ) → 0 < k → n < 10 → decimal_in k n ≡ digit n ∷ []
unfolding decimal_in
decimal_one zero n p h = absurd (omega arith)
decimal_one (suc k) n p h = pick_yes (ltb n 10) (digit n ∷ []) (decimal_in k (n / 10) ++ (digit (n % 10) ∷ [])) (lt-ltb n 10 h)

pub decimal_more : (k n : ℕ) → 0 < k → 10 ≤ n → decimal_in k n ≡ decimal_in (k - 1) (n / 10) ++ (digit (n % 10) ∷ [])
unfolding decimal_in
decimal_more zero n p h = absurd (omega arith)
decimal_more (suc k) n p h = simp unary_clauses (pick_no (ltb n 10) (digit n ∷ []) (decimal_in k (n / 10) ++ (digit (n % 10) ∷ [])) (le-ltb n 10 h))

pub spaced_length : (ns : List ℕ) → length (spaced ns) ≤ 21 * length ns
unfolding spaced
spaced_length [] = omega arith
spaced_length (n ∷ ns) = omega (arith, decimal_length 20 n, spaced_length ns, length-append (decimal n) (spaced ns))

pub spaced_none : spaced [] ≡ []
unfolding spaced
spaced_none = refl

-- one number, with a space before it
pub spaced_one : (n : ℕ) → spaced (n ∷ []) ≡ 32 ∷ decimal n
unfolding spaced
spaced_one n = ap (λ (l : List ℕ). 32 ∷ l) (append-nil (decimal n))

spaced_append : (ms ns : List ℕ) → spaced (ms ++ ns) ≡ spaced ms ++ spaced ns
unfolding spaced
spaced_append [] ns = refl
spaced_append (m ∷ ms) ns = ap (λ (l : List ℕ). 32 ∷ l) (ap (λ (l : List ℕ). decimal m ++ l) (spaced_append ms ns) ∙ sym (append_assoc (decimal m) (spaced ms) (spaced ns)))

-- of a list one element more
pub take_next : (l : List ℕ) (i : ℕ) → i < length l → take i l ++ (get_or l i 0 ∷ []) ≡ take (i + 1) l
take_next l i h = sym (take-suc l i 0 h) ∙ ap (λ (n : ℕ). take n l) (sym (add-one i))

-- of a list's numbers one more, counted as the code counts
pub spaced_next : (ns : List ℕ) (i : ℕ) → i < length ns → spaced (take i ns) ++ spaced (get_or ns i 0 ∷ []) ≡ spaced (take (i + 1) ns)
spaced_next ns i h = sym (spaced_append (take i ns) (get_or ns i 0 ∷ [])) ∙ ap spaced (take_next ns i h)

-- how long the texts of a listing can be
pub heading_length : (a : Result ℕ Refusal) → length (heading_text a) ≤ 49
heading_length (Ok leaves) = omega (arith, spaced_length (leaves ∷ []))
heading_length (Err r) = omega (arith, spaced_length (r.number ∷ r.place ∷ []))

leaf_length : (leaf : ℕ) (r : Record) → length (leaf_text leaf r) ≤ 146
leaf_length leaf r = omega (arith, decimal_length 20 leaf, spaced_length (numbers_of r), length-append (decimal leaf) (spaced (numbers_of r)))

-- the line of a leaf whose record the table holds, and of one whose record it does not hold
pub after_held : (table : List ℕ) (i : ℕ) → i < length table / record_numbers → table_line table i ≡ leaf_text (i + 1) (record_at table i)
unfolding table_line
after_held table i h = pick_yes (ltb i (length table / record_numbers)) (leaf_text (i + 1) (record_at table i)) [] (lt-ltb i (length table / record_numbers) h)

pub after_none : (table : List ℕ) (i : ℕ) → length table / record_numbers ≤ i → table_line table i ≡ []
unfolding table_line
after_none table i h = pick_no (ltb i (length table / record_numbers)) (leaf_text (i + 1) (record_at table i)) [] (le-ltb i (length table / record_numbers) h)

pub after_length : (table : List ℕ) (i : ℕ) → length (table_line table i) ≤ 146
unfolding table_line
after_length table i =
    pick_holds (λ (text : List ℕ). length text ≤ 146) (ltb i (length table / record_numbers)) (leaf_text (i + 1) (record_at table i)) []
    (λ e. leaf_length (i + 1) (record_at table i)) (λ e. omega arith)
