-- That `ahead_of` of src/order.rt keeps its contract.
use Prim.Native.Nat.{◌≤◌}
use Rattle.sheet.specs.Order.{ahead, shown}
use Rattle.stack.specs.Bytes.{normal}
use Rattle.words.specs.Counting.{count_below}
use mathlib.Core.Bool.{◌&&◌}
use mathlib.Core.Path.{◌≡◌}
use Rattle.sheet.proofs.order.ahead_of.Given as goal

abbrev pub invariant-loop-j : goal.invariant-loop-j
invariant-loop-j l = (l.j ≤ 32) × (l.n ≡ count_below l.j (λ j. shown l.t l.used j && (normal l.t j && ahead l.t j l.i)))
