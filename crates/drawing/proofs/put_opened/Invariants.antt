-- That `put_opened` of src/lib.rt keeps its contract.
use Rattle.drawing.specs.Bars.{opened_from}
use Rattle.drawing.specs.Drawing.{bar_texts}
use Rattle.text.specs.Text.{write}
use lib.ListN.{length}
use mathlib.Core.Path.{◌≡◌}
use Prim.Native.Nat.{◌≤◌, ◌-◌}
use Rattle.drawing.proofs.put_opened.Given as goal

abbrev pub invariant-loop-k : goal.invariant-loop-k
invariant-loop-k l =
    (write (l.out, l.next) (bar_texts (opened_from (length l.ws - l.k) l.ws l.k)) ≡ write (l.initial.out, l.at) (bar_texts (opened_from (length l.ws - 1) l.ws 1))) × (length l.out ≡ length l.initial.out) × (1 ≤ l.k)
