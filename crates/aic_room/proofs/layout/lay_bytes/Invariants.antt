-- That `lay_bytes` of src/layout.rt keeps its contract.
use mathlib.Core.Path.{◌≡◌}
use Prim.Native.Nat.{◌≤◌}
use lib.ListN.{get_or}
use Rattle.rooms.specs.Parts.{stored}
use Rattle.aic_room.proofs.layout.lay_bytes.Given as goal

abbrev pub invariant-loop-k : goal.invariant-loop-k
invariant-loop-k g l = (l.k ≤ g.row.N) × (l.room ≡ stored l.at (λ j. get_or l.bytes j 0) l.initial.room l.k)
