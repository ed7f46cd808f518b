-- That `put_level` of src/order.rt keeps its contract.
use Prim.Native.Nat.{◌≤◌}
use Rattle.sheet.specs.Order.{chosen, stands}
use Rattle.text.specs.Text.{write}
use mathlib.Core.Path.{◌≡◌}
use Rattle.sheet.proofs.order.put_level.Given as goal

abbrev pub invariant-loop-i : goal.invariant-loop-i
invariant-loop-i l = (l.i ≤ 32) × ((l.out, l.next) ≡ write (l.initial.out, l.at) (chosen (stands l.t l.used l.fast l.l) l.i))
