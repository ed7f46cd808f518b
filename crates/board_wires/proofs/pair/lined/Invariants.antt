-- That `lined` of src/pair.rt keeps its contract.
use Rattle.board_wires.specs.Pair.{lined}
use Prim.Native.Nat.{◌≤◌}
use mathlib.Core.Path.{◌≡◌}
use Rattle.board_wires.proofs.pair.lined.Given as goal

abbrev pub invariant-loop-i : goal.invariant-loop-i
invariant-loop-i l = (l.i ≤ l.n) × (l.x ≡ lined l.initial.x l.w l.i)
