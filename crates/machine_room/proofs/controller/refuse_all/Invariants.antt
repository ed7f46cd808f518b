-- That `refuse_all` of src/controller.rt keeps its contract.
use mathlib.Core.Path.{◌≡◌}
use Prim.Native.Nat.{◌≤◌}
use lib.ListN.{length}
use Rattle.steps.specs.Refusals.{unsound}
use Rattle.rooms.specs.Reply.{reply}
use Rattle.machine_room.specs.Batch.{answers_in}
use Rattle.machine_room.proofs.controller.refuse_all.Given as goal

abbrev pub invariant-loop-k : goal.invariant-loop-k
invariant-loop-k l = (l.k ≤ l.n) × (length l.answers ≡ length l.initial.answers) × (l.answers ≡ answers_in (λ _. reply unsound 0) l.initial.answers l.k)
