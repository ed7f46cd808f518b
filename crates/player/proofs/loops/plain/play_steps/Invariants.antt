-- That `play_steps` of src/loops/plain.rt keeps its contract.
use Prim.Native.Nat.{◌+◌}
use mathlib.Core.Path.{◌≡◌}
use Rattle.trace.specs.Trace.{steps_from}
use Rattle.machine.specs.RecordPromises.{Ready}
use Rattle.beginning.specs.Play.{report}
use Rattle.player.proofs.loops.plain.play_steps.Given as goal

abbrev pub invariant-loop-refusal : goal.invariant-loop-refusal
invariant-loop-refusal l =
    (report l.count l.m (steps_from l.told l.left l.trace l.at) ≡ report 0 l.initial.m (steps_from l.told l.limit l.trace l.start)) × (l.count + l.left ≡ l.limit) × Ready l.m

abbrev pub decreases-loop-refusal : goal.decreases-loop-refusal
decreases-loop-refusal l = l.left
