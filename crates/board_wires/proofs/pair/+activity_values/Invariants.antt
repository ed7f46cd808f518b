-- What `activity` and `values` of src/pair.rt, which call each other with a falling controller number, go by.
use Prim.Native.Nat.{◌≤◌, ◌+◌, ◌*◌, ◌-◌}
use Rattle.board_wires.proofs.PairLaws.{Tells}
use Rattle.board_wires.proofs.pair.+activity_values.Given as goal

-- the controller's number, twice, so that its activity can ask its own values
abbrev pub decreases-activity : goal.decreases-activity
decreases-activity l = 2 * l.c + 1

abbrev pub decreases-values : goal.decreases-values
decreases-values l = 2 * l.c

abbrev pub invariant-values-loop-d : goal.invariant-values-loop-d
invariant-values-loop-d l = (l.d ≤ l.n) × Tells l.b l.c l.t l.d

abbrev pub decreases-values-loop-d : goal.decreases-values-loop-d
decreases-values-loop-d l = l.n - l.d
