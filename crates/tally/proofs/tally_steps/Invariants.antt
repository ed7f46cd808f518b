-- That `tally_steps` of src/lib.rt keeps its contract.
use Prim.Native.Nat.{◌≤◌}
use mathlib.Core.Bool.{false}
use lib.ListN.{length}
use Rattle.aic_waits.specs.Following.{no_figures}
use Rattle.aic_figures.specs.Book.{Kept}
use Rattle.machine.specs.declared.record.Machine.{Machine}
use Rattle.machine.specs.RecordPromises.{Ready}
use Rattle.machine_room.specs.Room.{Laid}
use Rattle.tally.proofs.LoopLaws.{Tallying}
use Rattle.tally.proofs.tally_steps.Given as goal

abbrev pub invariant-loop-room : goal.invariant-loop-room
invariant-loop-room l =
    (first : Machine) → Ready first → length l.trace ≤ 65536 → Laid false first l.initial.room → Kept no_figures first.aic 0 l.initial.book
    → Tallying l.trace l.limit l.told l.start first l.count l.refused l.left l.at l.room l.book

abbrev pub decreases-loop-room : goal.decreases-loop-room
decreases-loop-room l = l.left
