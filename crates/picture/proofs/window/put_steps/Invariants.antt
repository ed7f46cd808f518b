-- That `put_steps` of src/window.rt keeps its contract.
use mathlib.Core.Path.{◌≡◌}
use lib.ListN.{length}
use Rattle.text.specs.Text.{write}
use Rattle.trace.specs.Trace.{steps_from}
use mathlib.Core.Bool.{false}
use Rattle.machine.specs.RecordPromises.{Ready}
use Rattle.picture.specs.Window.{columns_from}
use Rattle.picture.proofs.window.put_steps.Given as goal

abbrev pub invariant-loop-refusal : goal.invariant-loop-refusal
invariant-loop-refusal l =
    (write (l.columns, l.to) (columns_from l.m (steps_from false l.left l.trace l.at).steps) ≡ write (l.initial.columns, l.from) (columns_from l.initial.m (steps_from false l.limit l.trace l.start).steps))
    × (length l.columns ≡ length l.initial.columns) × Ready l.m

abbrev pub decreases-loop-refusal : goal.decreases-loop-refusal
decreases-loop-refusal l = l.left
