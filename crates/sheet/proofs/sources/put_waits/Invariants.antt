-- That `put_waits` of src/sources.rt keeps its contract.
use Rattle.sheet.specs.Sources.{waits_row}
use Rattle.sheet.specs.Texts.{each}
use Rattle.text.specs.Text.{write}
use lib.ListN.{drop, length}
use mathlib.Core.Path.{◌≡◌}
use Rattle.sheet.proofs.sources.put_waits.Given as goal

abbrev pub invariant-loop-i : goal.invariant-loop-i
invariant-loop-i l = (write (l.out, l.next) (each (waits_row l.w l.trace) (drop l.i-index l.is)) ≡ write (l.initial.out, l.at) (each (waits_row l.w l.trace) l.is)) × (length l.out ≡ length l.initial.out)
