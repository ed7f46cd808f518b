-- That `is_accepted` of src/controller.rt keeps its contract.
use mathlib.Core.Path.{◌≡◌}
use Prim.Native.Nat.{◌≤◌}
use lib.ListN.{get_or}
use Rattle.words.specs.Counting.{all_below}
use Rattle.kinds.specs.Kinds.{within}
use Rattle.machine_room.proofs.controller.is_accepted.Given as goal

abbrev pub invariant-loop-n : goal.invariant-loop-n
invariant-loop-n l = (l.n ≤ l.wanted) × (l.ok ≡ all_below l.n (λ j. within l.kind j (get_or l.numbers j 0)))
