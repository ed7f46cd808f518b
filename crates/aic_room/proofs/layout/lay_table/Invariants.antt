-- That `lay_table` of src/layout.rt keeps its contract.
use mathlib.Core.Path.{◌≡◌}
use Prim.Native.Nat.{◌≤◌}
use Rattle.rooms.specs.Parts.{stored}
use Rattle.aic_levels.specs.Levels.{highest_of}
use Rattle.aic_room.proofs.layout.lay_table.Given as goal

abbrev pub invariant-loop-b : goal.invariant-loop-b
invariant-loop-b l = (l.b ≤ 256) × (l.room ≡ stored 256 highest_of l.initial.room l.b)
