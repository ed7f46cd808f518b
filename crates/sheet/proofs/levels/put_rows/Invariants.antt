-- That `put_rows` of src/levels.rt keeps its contract.
use Prim.Native.Nat.{◌≤◌}
use Rattle.sheet.specs.Levels.{level_row}
use Rattle.sheet.specs.Texts.{down}
use Rattle.text.specs.Text.{write}
use lib.ListN.{length}
use mathlib.Core.Path.{◌≡◌}
use Rattle.sheet.proofs.levels.put_rows.Given as goal

abbrev pub invariant-loop-l : goal.invariant-loop-l
invariant-loop-l l = (l.l ≤ 8) × (write (l.out, l.next) (down (level_row l.board.table l.board.names l.board.lengths) l.l) ≡ write (l.initial.out, l.at) (down (level_row l.board.table l.board.names l.board.lengths) 8)) × (length l.out ≡ length l.initial.out)
