-- That `strip` of src/lib.rt keeps its contract.
use mathlib.Core.Path.{◌≡◌}
use mathlib.Core.Bool.{false}
use lib.ListN.{length, drop}
use Rattle.text.specs.Text.{write}
use Rattle.tables.specs.Typed.{bare_from}
use Rattle.tables.proofs.strip.Given as goal

abbrev pub invariant-loop-b : goal.invariant-loop-b
invariant-loop-b l = (write (l.out, l.at) (bare_from l.inside (drop l.b-index l.text)) ≡ write (l.initial.out, 0) (bare_from false l.text)) × (length l.out ≡ length l.initial.out)
