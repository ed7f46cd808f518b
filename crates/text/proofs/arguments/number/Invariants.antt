-- That `number` of src/arguments.rt keeps its contract.
use mathlib.Core.Path.{◌≡◌}
use lib.ListN.{drop}
use Rattle.text.specs.Typed.{typed_after, typed}
use Rattle.text.proofs.arguments.number.Given as goal

abbrev pub invariant-loop-b : goal.invariant-loop-b
invariant-loop-b l = typed_after l.v (drop l.b-index l.text) ≡ typed l.text
