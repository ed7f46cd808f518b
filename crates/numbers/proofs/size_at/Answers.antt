-- That `size_at` of src/lib.rt keeps its contract.
use Rattle.numbers.proofs.NumberLaws.{all_open, size_found, size_none}
use lib.Dec.{ltb}
use borrow.Author.Tests.{lt-ltb, le-ltb}
use Prim.Native.Nat.{ℕ}
use native.Mathlib.Omega.{arith}
use mathlib.Core.Path.{sym, ap, ◌∙◌}
use borrow.Author.Rules.{rules}
use Rattle.numbers.proofs.size_at.Goals as goal

pub loop-k-init : goal.loop-k-init
loop-k-init c = (omega arith, λ j l. absurd (omega arith))

pub returns-then-byte_at-lt128 : goal.returns-then-byte_at-lt128
returns-then-byte_at-lt128 c =
    size_found _ _ _ (search rules) c.loop-k.invariant.1 (ap (λ (x : ℕ). ltb x 128) (sym c.byte_at.ensures) ∙ lt-ltb _ _ c.if-byte_at-lt128.true)

pub loop-k-preserved : goal.loop-k-preserved
loop-k-preserved c =
    let a = c.args in
    (search rules, all_open a.trace.now a.at _ c.loop-k.invariant.1 (ap (λ (x : ℕ). ltb x 128) (sym c.byte_at.ensures) ∙ le-ltb _ _ c.if-byte_at-lt128.false))

pub returns : goal.returns
returns c = size_none _ _ _ c.loop-k.invariant.0 (search rules) c.loop-k.invariant.1
