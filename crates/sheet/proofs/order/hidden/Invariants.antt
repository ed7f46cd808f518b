-- That `hidden` of src/order.rt keeps its contract.
use Prim.Native.Nat.{◌≤◌}
use Rattle.sheet.specs.Order.{shown}
use Rattle.words.specs.Counting.{count_below}
use mathlib.Core.Bool.{not}
use mathlib.Core.Path.{◌≡◌}
use Rattle.sheet.proofs.order.hidden.Given as goal

abbrev pub invariant-loop-i : goal.invariant-loop-i
invariant-loop-i l = (l.i ≤ 32) × (l.n ≡ count_below l.i (λ i. not (shown l.t l.used i)))
