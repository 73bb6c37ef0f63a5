-- `walk_leaf::tfhd_box` meets its contract, by those of `skip_to` and `read_field`, and by the laws `track_tfhd`, `tfhd_short`, `tfhd_ended` and `tfhd_whole`.
use Prim.Native.Nat.{◌+◌}
use mathlib.Core.Path.{◌≡◌, sym, ◌∙◌}
use native.Mathlib.Omega.{arith}
use Rattle.std.specs.Prelude.{Some}
use Rattle.fields.specs.Answers.{field_at}
use Rattle.fields.proofs.Answers.{field_in, handed, needed, wanting}
use Rattle.reader.proofs.Skips.{skip_here, skip_gone}
use Rattle.walk_leaf.proofs.Tracks.{track_tfhd, tfhd_short, tfhd_ended, tfhd_whole}
use Rattle.walk_leaf.specs.Views.{walked_d}
use Rattle.fields.specs.Onward.{halted}
use Rattle.walk_leaf.proofs.tfhd_box.Goals as goal

pub returns-in_err-skip_to : goal.returns-in_err-skip_to
unfolding walked_d halted
returns-in_err-skip_to c =
    let a = c.args in
    let (head, kind, eight) = c.requires in
    let gone = skip_gone a.bytes.now (a.at + a.h.size) (sym c.skip_to.ensures ∙ c.in_err-skip_to.was) in
    rw (handed c.from_residual.ensures.1, gone.0) (record {
      right = λ base f.
          tfhd_short a.id a.so base a.bytes.now f (a.at + a.h.head) (a.at + a.h.size) head.here (omega arith) gone.1
          ∙ sym (track_tfhd a.id a.so base a.bytes.now f a.at a.h head kind);
      fixed = tt;
    })

pub returns-in_err-v : goal.returns-in_err-v
unfolding walked_d halted
returns-in_err-v c =
    let a = c.args in
    let (head, kind, eight) = c.requires in
    let none = wanting c.ok_or.ensures.value c.in_err-v.was in
    rw (handed c.from_residual-in_err-v.ensures.1, none.1) (record {
      right = λ base f.
          tfhd_ended a.id a.so base a.bytes.now f (a.at + a.h.head) (a.at + a.h.size) head.here (sym c.read_field.ensures.0 ∙ none.0)
          ∙ sym (track_tfhd a.id a.so base a.bytes.now f a.at a.h head kind);
      fixed = tt;
    })

pub returns : goal.returns
returns c =
    let a = c.args in
    let s = a.bytes.now in
    let (head, kind, eight) = c.requires in
    let there = skip_here s (a.at + a.h.size) (sym c.skip_to.ensures ∙ c.in_ok-skip_to.was) in
    let e : field_at s (a.at + a.h.head + 4) 4 ≡ Some (c.in_ok-v.v, c.in_ok-v.field-0-1) = sym c.read_field.ensures.0 ∙ needed c.ok_or.ensures.value c.in_ok-v.was in
    let after = (field_in s (a.at + a.h.head + 4) 4 _ _ e).after in
    record {
      right = λ base f.
          tfhd_whole a.id a.so base s f (a.at + a.h.head) (a.at + a.h.size) head.here e (omega arith) there
          ∙ sym (track_tfhd a.id a.so base s f a.at a.h head kind);
      fixed = there;
    }
