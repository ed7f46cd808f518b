-- That `bump` of src/waits.rt keeps its contract.
use Prim.Native.Nat.{◌≤◌}
use mathlib.Core.Bool.{◌&&◌}
use lib.Dec.{eqb, ltb}
use Rattle.aic_figures.specs.WaitsBook.{Columns, Cells}
use Rattle.aic_figures.proofs.ColumnLaws.{bumped}
use Rattle.aic_figures.proofs.waits.bump.Given as goal

abbrev pub invariant-loop-k : goal.invariant-loop-k
invariant-loop-k l = (l.k ≤ 32) × (Columns l.initial.book → Cells (λ a b. eqb a l.j && ltb b l.k) (bumped l.initial.book l.j l.i) l.initial.book l.book)
