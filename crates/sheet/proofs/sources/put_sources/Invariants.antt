-- That `put_sources` of src/sources.rt keeps its contract.
use Rattle.sheet.specs.Sources.{source_row}
use Rattle.sheet.specs.Texts.{each}
use Rattle.text.specs.Text.{write}
use lib.ListN.{drop, length}
use mathlib.Core.Path.{◌≡◌}
use Rattle.sheet.proofs.sources.put_sources.Given as goal

abbrev pub invariant-loop-i : goal.invariant-loop-i
invariant-loop-i l = (write (l.out, l.next) (each (source_row l.board.table l.board.names l.board.lengths l.s) (drop l.i-index l.is)) ≡ write (l.initial.out, l.at) (each (source_row l.board.table l.board.names l.board.lengths l.s) l.is)) × (length l.out ≡ length l.initial.out)
