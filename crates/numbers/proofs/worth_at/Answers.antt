-- That `worth_at` of src/lib.rt keeps its contract.
use Rattle.numbers.proofs.NumberLaws.{worth-none, worth-below, worth-turn}
use Rattle.numbers.proofs.GroupLaws.{part_le, unit_le, unit-more}
use Rattle.numbers.specs.Number.{worth_at}
use Rattle.words.proofs.CountingLaws.{at_end}
use Prim.Native.Nat.{ℕ, ◌%◌}
use native.Mathlib.Omega.{arith}
use native.Mathlib.Nat.{mod-lt}
use mathlib.Core.Path.{refl, ap}
use borrow.Author.Rules.{rules}
use Rattle.numbers.proofs.worth_at.Goals as goal

pub loop-k-init : goal.loop-k-init
loop-k-init c = (omega arith, (worth-none _ _, refl))

pub overflow_mul-worth : goal.overflow_mul-worth
overflow_mul-worth c =
    let i = c.loop-k.invariant in
    omega (arith, part_le (c.byte_at.result % 128) c.loop-k.unit (mod-lt _ (omega arith)), unit_le _ i.1.1 (search rules))

pub overflow_add-worth : goal.overflow_add-worth
overflow_add-worth c =
    let l = c.loop-k in
    omega (arith, part_le (c.byte_at.result % 128) l.unit (mod-lt _ (omega arith)), unit_le _ l.invariant.1.1 (search rules), worth-below _ _ _ l.invariant.1.0 l.invariant.1.1)

pub overflow_mul-unit : goal.overflow_mul-unit
overflow_mul-unit c = omega (arith, unit_le _ c.loop-k.invariant.1.1 (search rules))

pub loop-k-preserved : goal.loop-k-preserved
loop-k-preserved c =
    let i = c.loop-k.invariant in
    (search rules, (worth-turn _ _ _ i.1.0 i.1.1 (ap (λ (x : ℕ). x % 128) c.byte_at.ensures), unit-more _ i.1.1))

pub returns : goal.returns
returns c =
    let l = c.loop-k in
    at_end (worth_at _ _) _ _ l.invariant.0 (search rules) l.invariant.1.0
