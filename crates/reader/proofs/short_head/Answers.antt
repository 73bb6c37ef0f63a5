-- `reader::short_head` meets its contract, by that of `read_field`, and by the law `short_law`.
use Prim.Native.Nat.{◌^◌, ◌<◌}
use mathlib.Core.Path.{refl, sym, subst, ◌∙◌}
use native.Mathlib.Omega.{arith}
use Rattle.std.proofs.lemmas.Option.{none-some}
use Rattle.fields.specs.Answers.{Small}
use Rattle.fields.proofs.Answers.{field_in}
use Rattle.reader.proofs.Laws.{short_law}
use Rattle.reader.proofs.short_head.Goals as goal

pub returns-then-bytes-at : goal.returns-then-bytes-at
returns-then-bytes-at c h e = absurd (none-some h e)

pub returns-in_err-size : goal.returns-in_err-size
returns-in_err-size c h e = absurd (none-some h (sym c.from_residual.ensures ∙ e))

pub returns-then-size : goal.returns-then-size
returns-then-size c h e = absurd (none-some h e)

-- a size of 32 bits
pub overflow_add-at-2 : goal.overflow_add-at-2
overflow_add-at-2 c =
    let far = c.requires in
    let small : c.in_ok-size.size < 256 ^ 4 = subst (Small 4) c.in_ok-size.was c.read_field.ensures.1 in
    omega arith

pub returns-then-end-at : goal.returns-then-end-at
returns-then-end-at c h e = absurd (none-some h e)

pub read_field-requires-2 : goal.read_field-requires-2
read_field-requires-2 c =
    let a = c.args in
    let first = field_in a.bytes.now a.at 4 _ _ (sym c.read_field.ensures.0 ∙ c.in_ok-size.was) in
    (refl, omega arith)

pub returns-in_err-kind : goal.returns-in_err-kind
returns-in_err-kind c h e = absurd (none-some h (sym c.from_residual-in_err-kind.ensures ∙ e))

pub returns : goal.returns
returns c h e =
    let a = c.args in
    short_law a.bytes.now a.at a.end _ _ _ _ c.if-bytes-at.false c.if-size.false c.if-end-at.false
    (sym c.read_field.ensures.0 ∙ c.in_ok-size.was) (sym c.read_field-2.ensures.0 ∙ c.in_ok-kind.was) h e
