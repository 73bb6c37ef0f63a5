-- `walk_opening::lists_brand` meets its contract, by those of `as_chunks` and `word_at`, and by the laws `brand_at`, `among_found`, `among_next` and `among_none`.
use Prim.Native.Nat.{◌+◌, ◌*◌}
use mathlib.Core.Path.{◌≡◌, sym, ◌∙◌}
use native.Mathlib.Omega.{arith}
use Rattle.walk_opening.proofs.Brands.{part_long, brand_at, among_found, among_next, among_none}
use Rattle.walk_opening.proofs.lists_brand.Goals as goal

pub loop-b-init : goal.loop-b-init
loop-b-init c = let e : c.args.from + 4 * 0 ≡ c.args.from = omega arith in rw e

pub returns-then-word_at-brand : goal.returns-then-word_at-brand
returns-then-word_at-brand c =
    let a = c.args in
    let l = c.loop-b in
    let long = part_long a.bytes.now a.from a.end (omega arith) in
    let count = c.as_chunks.ensures.front_len in
    let word = c.word_at.ensures.0 ∙ brand_at a.bytes.now a.from a.end (omega arith) _ l.b-index _ c.as_chunks.ensures.front (omega (arith, c.loop-b-test.true)) (omega arith) in
    among_found a.brand a.bytes.now (a.from + 4 * l.b-index) a.end _ (omega (arith, c.loop-b-test.true)) (omega (arith, c.requires.2)) word c.if-word_at-brand.true ∙ l.invariant

pub loop-b-preserved : goal.loop-b-preserved
loop-b-preserved c =
    let a = c.args in
    let l = c.loop-b in
    let long = part_long a.bytes.now a.from a.end (omega arith) in
    let count = c.as_chunks.ensures.front_len in
    let word = c.word_at.ensures.0 ∙ brand_at a.bytes.now a.from a.end (omega arith) _ l.b-index _ c.as_chunks.ensures.front (omega (arith, c.loop-b-test.true)) (omega arith) in
    let next = among_next a.brand a.bytes.now (a.from + 4 * l.b-index) a.end _ (omega (arith, c.loop-b-test.true)) (omega arith) word c.if-word_at-brand.false in
    let e : a.from + 4 * (l.b-index + 1) ≡ a.from + 4 * l.b-index + 4 = omega arith in
    rw e (next ∙ l.invariant)

pub returns : goal.returns
returns c =
    let a = c.args in
    let l = c.loop-b in
    let long = part_long a.bytes.now a.from a.end (omega arith) in
    let count = c.as_chunks.ensures.front_len in
    sym (among_none a.brand a.bytes.now (a.from + 4 * l.b-index) a.end (omega (arith, c.loop-b-test.false))) ∙ l.invariant
