-- `range::power` meets its contract, by the law `seven`.
use Prim.Native.Nat.{ℕ, ◌^◌}
use mathlib.Core.Path.{sym, ap}
use Rattle.range.proofs.Joined.{seven}
use Rattle.range.proofs.power.Goals as goal

pub returns-in-0 : goal.returns-in-0
returns-in-0 c = sym (ap (λ (k : ℕ). 256 ^ k) c.in-0.is)

pub returns-in-1 : goal.returns-in-1
returns-in-1 c = sym (ap (λ (k : ℕ). 256 ^ k) c.in-1.is)

pub returns-in-2 : goal.returns-in-2
returns-in-2 c = sym (ap (λ (k : ℕ). 256 ^ k) c.in-2.is)

pub returns-in-3 : goal.returns-in-3
returns-in-3 c = sym (ap (λ (k : ℕ). 256 ^ k) c.in-3.is)

pub returns-in-4 : goal.returns-in-4
returns-in-4 c = sym (ap (λ (k : ℕ). 256 ^ k) c.in-4.is)

pub returns-in-5 : goal.returns-in-5
returns-in-5 c = sym (ap (λ (k : ℕ). 256 ^ k) c.in-5.is)

pub returns-in-6 : goal.returns-in-6
returns-in-6 c = sym (ap (λ (k : ℕ). 256 ^ k) c.in-6.is)

pub returns-in_default : goal.returns-in_default
returns-in_default c = sym
    (ap (λ (k : ℕ). 256 ^ k)
    (seven c.args.k c.requires
    c.in_default.in_default-own.rest.0.0.0.0.0.0.1 c.in_default.in_default-own.rest.0.0.0.0.0.1 c.in_default.in_default-own.rest.0.0.0.0.1 c.in_default.in_default-own.rest.0.0.0.1
    c.in_default.in_default-own.rest.0.0.1 c.in_default.in_default-own.rest.0.1 c.in_default.in_default-own.rest.1))
