-- That `deepen` of src/lib.rt keeps its contract.
use Prim.Native.Nat.{◌≤◌}
use mathlib.Core.Path.{◌≡◌}
use lib.ListN.{length}
use Rattle.aic_figures.proofs.EntryLaws.{Seen}
use Rattle.aic_figures.proofs.deepen.Given as goal

abbrev pub invariant-loop-d : goal.invariant-loop-d
invariant-loop-d l = (l.d ≤ 8) × (l.d ≤ l.depth) × (length l.initial.book ≡ 160 → Seen l.room l.depth l.d l.initial.book l.book)
