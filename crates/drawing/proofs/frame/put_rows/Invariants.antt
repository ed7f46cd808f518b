-- That `put_rows` of src/frame.rt keeps its contract.
use Prim.Native.Nat.{◌≤◌}
use mathlib.Core.Path.{◌≡◌}
use Rattle.text.specs.Text.{write}
use Rattle.drawing.specs.Frame.{rows}
use Rattle.drawing.proofs.frame.put_rows.Given as goal

abbrev pub invariant-loop-n : goal.invariant-loop-n
invariant-loop-n l = (l.n ≤ 8) × ((l.out, l.next) ≡ write (l.initial.out, l.at) (rows l.n))
