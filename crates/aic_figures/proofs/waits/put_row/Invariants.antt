-- That `put_row` of src/waits.rt keeps its contract.
use Prim.Native.Nat.{◌≤◌}
use mathlib.Core.Bool.{◌&&◌}
use lib.Dec.{eqb, ltb}
use lib.ListN.{get_or}
use Rattle.aic_figures.specs.WaitsBook.{Columns, Cells}
use Rattle.aic_figures.proofs.waits.put_row.Given as goal

abbrev pub invariant-loop-j : goal.invariant-loop-j
invariant-loop-j l = (l.j ≤ 18) × (Columns l.initial.book → Cells (λ a b. ltb a l.j && eqb b l.k) (λ a b. get_or l.row a 0) l.initial.book l.book)
