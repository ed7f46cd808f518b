-- That `put_columns` of src/lib.rt keeps its contract.
use Rattle.drawing.specs.Drawing.{column_texts}
use Rattle.text.specs.Text.{write}
use lib.ListN.{length}
use mathlib.Core.Path.{◌≡◌}
use Prim.Native.Nat.{◌≤◌, ◌-◌}
use Rattle.drawing.proofs.put_columns.Given as goal

abbrev pub invariant-loop-k : goal.invariant-loop-k
invariant-loop-k l =
    (write (l.out, l.next) (column_texts (length l.ws - l.k) l.first l.ws l.k) ≡ write (l.initial.out, l.at) (column_texts (length l.ws - 1) l.first l.ws 1)) × (length l.out ≡ length l.initial.out) × (1 ≤ l.k)
