-- That `is_fed_in` of src/chain.rt keeps its contract.
use Rattle.words.specs.Counting.{any_below}
use Rattle.board_wires.specs.Wires.{wire_in}
use Rattle.board_wires.specs.Chain.{leads_to}
use Prim.Native.Nat.{◌≤◌}
use mathlib.Core.Path.{◌≡◌}
use Rattle.board_wires.proofs.chain.is_fed_in.Given as goal

abbrev pub invariant-loop-i : goal.invariant-loop-i
invariant-loop-i l = (l.i ≤ 40) × (l.on ≡ any_below l.i (λ k. leads_to (wire_in l.wire l.c k) l.d))
