-- That `every_third` of src/lib.rt keeps its contract.
use Prim.Native.Nat.{◌≤◌, ◌+◌, ◌*◌}
use mathlib.Core.Path.{◌≡◌}
use lib.ListN.{get_or}
use Rattle.tables.specs.Passes.{room}
use Rattle.tables.proofs.every_third.Given as goal

abbrev pub invariant-loop-i : goal.invariant-loop-i
invariant-loop-i l = (l.i ≤ 32) × (l.out ≡ room 32 l.i (λ j. get_or l.values (3 * j + l.first) 0))
