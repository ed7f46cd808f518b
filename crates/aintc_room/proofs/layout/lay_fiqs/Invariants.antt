-- That `lay_fiqs` of src/layout.rt keeps its contract.
use mathlib.Core.Path.{◌≡◌}
use Prim.Native.Nat.{◌≤◌}
use Rattle.rooms.specs.Parts.{stored}
use Rattle.aintc_room.specs.Room.{fiq_word}
use Rattle.aintc_room.proofs.layout.lay_fiqs.Given as goal

abbrev pub invariant-loop-n : goal.invariant-loop-n
invariant-loop-n l = (l.n ≤ 4) × (l.room ≡ stored 28 (fiq_word l.routes) l.initial.room l.n)
