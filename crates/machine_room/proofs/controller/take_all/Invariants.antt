-- That `take_all` of src/controller.rt keeps its contract.
use mathlib.Core.Path.{◌≡◌}
use Prim.Native.Nat.{◌≤◌}
use lib.ListN.{length}
use Rattle.machine_room.proofs.BatchLaws.{Along}
use Rattle.machine_room.proofs.controller.take_all.Given as goal

abbrev pub invariant-loop-k : goal.invariant-loop-k
invariant-loop-k l = (l.k ≤ l.n) × (length l.answers ≡ length l.initial.answers) × Along l.initial.room l.words l.initial.answers l.k l.room l.answers
