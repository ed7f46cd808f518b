-- That `play_steps` of src/lib.rt keeps its contract.
use Prim.Native.Nat.{◌≤◌}
use mathlib.Core.Path.{◌≡◌}
use mathlib.Core.Bool.{true}
use lib.ListN.{length}
use Rattle.aic_record.specs.declared.Aic.{Aic}
use Rattle.aic_record.specs.Sound.{sound}
use Rattle.aic_room.specs.Room.{Laid}
use Rattle.aic_waits.specs.Following.{no_figures as no_totals}
use Rattle.aic_figures.specs.Book.{Kept as Counted}
use Rattle.aic_bounds.specs.Figures.{no_figures}
use Rattle.aic_figures.specs.WaitsBook.{Kept}
use Rattle.sheet_traces.specs.Following.{watched_first}
use Rattle.sheet_traces.proofs.LoopLaws.{Watching}
use Rattle.sheet_traces.proofs.play_steps.Given as goal

abbrev pub invariant-loop-table : goal.invariant-loop-table
invariant-loop-table l =
    (first : Aic) → sound first ≡ true → length l.trace ≤ 65536 → Laid first l.initial.room → l.initial.w ≡ watched_first l.table first → Counted no_totals first 0 l.initial.counts → Kept (λ k. no_figures) l.initial.book
    → Watching l.trace l.limit l.start l.table first l.n l.refused l.left l.at l.w l.room l.counts l.book

abbrev pub decreases-loop-table : goal.decreases-loop-table
decreases-loop-table l = l.left
