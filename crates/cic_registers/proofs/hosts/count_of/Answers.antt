-- That `count_of` of src/hosts.rt keeps its contract.
use Rattle.words.proofs.ArrayLaws.{count_word}
use Rattle.words.proofs.CountingLaws.{count-none_yet, count_le, at_end}
use Rattle.words.specs.Array.{bit_at}
use Rattle.words.specs.Counting.{count_below}
use mathlib.Core.Path.{ap₂, ◌∙◌}
use native.Mathlib.Omega.{arith}
use Prim.Native.Nat.{ℕ, ◌*◌, ◌+◌}
use Rattle.cic_registers.proofs.hosts.count_of.Goals as goal

pub loop-w-init : goal.loop-w-init
loop-w-init c = (omega arith, count-none_yet _)

pub overflow_add-sum : goal.overflow_add-sum
overflow_add-sum c =
    let l = c.loop-w in
    let ws = c.args.ws in
    omega (arith, l.invariant.1, c.count-sum.ensures, count_word ws l.w-index, count_le (32 * (l.w-index + 1)) (bit_at ws))

pub loop-w-preserved : goal.loop-w-preserved
loop-w-preserved c =
    let l = c.loop-w in
    let ws = c.args.ws in
    (omega arith, ap₂ (λ (x y : ℕ). x + y) l.invariant.1 c.count-sum.ensures ∙ count_word ws l.w-index)

pub returns : goal.returns
returns c = at_end (λ k. count_below (32 * k) (bit_at c.args.ws)) c.loop-w.w-index 8 c.loop-w.invariant.0 c.loop-w-test.false c.loop-w.invariant.1
