-- That `is_same` of src/controller.rt keeps its contract.
use mathlib.Core.Path.{◌≡◌}
use Prim.Native.Nat.{◌≤◌}
use lib.Dec.{eqb}
use lib.ListN.{get_or}
use Rattle.words.specs.Counting.{all_below}
use Rattle.machine_room.proofs.controller.is_same.Given as goal

abbrev pub invariant-loop-k : goal.invariant-loop-k
invariant-loop-k l = (l.k ≤ 2048) × (l.same ≡ all_below l.k (λ j. eqb (get_or l.a j 0) (get_or l.b j 0)))
