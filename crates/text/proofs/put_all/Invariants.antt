-- That `put_all` of src/lib.rt keeps its contract.
use Rattle.text.specs.Text.{write}
use lib.ListN.{length, drop}
use mathlib.Core.Path.{◌≡◌}
use Rattle.text.proofs.put_all.Given as goal

abbrev pub invariant-loop-b : goal.invariant-loop-b
invariant-loop-b l = (write (l.out, l.next) (drop l.b-index l.text) ≡ write (l.initial.out, l.at) l.text) × (length l.out ≡ length l.initial.out)
