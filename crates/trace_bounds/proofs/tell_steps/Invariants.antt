-- That `tell_steps` of src/lib.rt keeps its contract.
use Prim.Native.Nat.{◌≤◌, ◌<◌}
use lib.ListN.{length}
use Rattle.trace_bounds.proofs.WaitLaws.{Telling}
use Rattle.trace_bounds.proofs.tell_steps.Given as goal

abbrev pub invariant-loop-refusal : goal.invariant-loop-refusal
invariant-loop-refusal l =
    Telling l.trace l.limit l.start l.initial.s l.source l.initial.out l.out l.at l.s l.left l.to l.n l.began l.f × (l.source < 32) × (length l.trace ≤ 65536)

abbrev pub decreases-loop-refusal : goal.decreases-loop-refusal
decreases-loop-refusal l = l.left
