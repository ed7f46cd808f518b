-- That `copy_map` of src/transfer.rt keeps its contract.
use mathlib.Core.Path.{◌≡◌}
use Prim.Native.Nat.{◌≤◌}
use lib.ListN.{length}
use Rattle.cic_registers.specs.Maps.{map_read}
use Rattle.cic_room.specs.Copies.{Copied}
use Rattle.cic_room.proofs.transfer.copy_map.Given as goal

abbrev pub invariant-loop-k : goal.invariant-loop-k
invariant-loop-k l = (l.k ≤ l.n) × (length l.initial.room ≡ 2048 → Copied l.at l.k (map_read (length l.m) l.m) l.initial.room l.room)
