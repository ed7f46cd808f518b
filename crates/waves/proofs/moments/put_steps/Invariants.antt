-- That `put_steps` of src/moments.rt keeps its contract.
use Prim.Native.Nat.{◌+◌}
use mathlib.Core.Path.{◌≡◌}
use lib.ListN.{length}
use Rattle.text.specs.Text.{write}
use Rattle.trace.specs.Trace.{steps_from}
use Rattle.machine.specs.RecordPromises.{Ready}
use Rattle.waves.specs.Moments.{rest_from}
use Rattle.waves.proofs.moments.put_steps.Given as goal

abbrev pub invariant-loop-refusal : goal.invariant-loop-refusal
invariant-loop-refusal l =
    (write (l.out, l.to) (rest_from l.number l.before l.m (steps_from l.told l.more l.trace l.at)) ≡ write (l.initial.out, l.from) (rest_from 0 l.initial.before l.initial.m (steps_from l.told l.limit l.trace l.start)))
    × (length l.out ≡ length l.initial.out) × (l.number + l.more ≡ l.limit) × Ready l.m

abbrev pub decreases-loop-refusal : goal.decreases-loop-refusal
decreases-loop-refusal l = l.more
