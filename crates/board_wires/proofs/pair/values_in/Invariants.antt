-- That `values_in` of src/pair.rt keeps its contract.
use Rattle.board_wires.specs.Pair.{tells}
use Rattle.board_wires.proofs.PairLaws.{first}
use Prim.Native.Nat.{◌≤◌}
use mathlib.Core.Path.{◌≡◌}
use Rattle.board_wires.proofs.pair.values_in.Given as goal

abbrev pub invariant-loop-i : goal.invariant-loop-i
invariant-loop-i l = (l.i ≤ l.n) × (l.w ≡ first l.wire l.pin (tells l.t) l.c l.fast l.i)
