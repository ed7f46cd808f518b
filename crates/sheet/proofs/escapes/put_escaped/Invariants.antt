-- That `put_escaped` of src/escapes.rt keeps its contract.
use Rattle.sheet.specs.Names.{escape}
use Rattle.sheet.specs.Texts.{each}
use Rattle.text.specs.Text.{write}
use lib.ListN.{drop, length}
use mathlib.Core.Path.{◌≡◌}
use Rattle.sheet.proofs.escapes.put_escaped.Given as goal

abbrev pub invariant-loop-b : goal.invariant-loop-b
invariant-loop-b l = (write (l.out, l.next) (each escape (drop l.b-index l.name)) ≡ write (l.initial.out, l.at) (each escape l.name)) × (length l.out ≡ length l.initial.out)
