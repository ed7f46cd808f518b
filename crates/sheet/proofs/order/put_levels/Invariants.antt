-- That `put_levels` of src/order.rt keeps its contract.
use Prim.Native.Nat.{◌≤◌}
use Rattle.sheet.specs.Order.{chosen, stands}
use Rattle.sheet.specs.Texts.{down}
use Rattle.text.specs.Text.{write}
use lib.ListN.{length}
use mathlib.Core.Path.{◌≡◌}
use Rattle.sheet.proofs.order.put_levels.Given as goal

abbrev pub invariant-loop-l : goal.invariant-loop-l
invariant-loop-l live = (live.l ≤ 8) × (write (live.out, live.next) (down (λ l. chosen (stands live.t live.used live.fast l) 32) live.l) ≡ write (live.initial.out, live.at) (down (λ l. chosen (stands live.t live.used live.fast l) 32) 8)) × (length live.out ≡ length live.initial.out)
