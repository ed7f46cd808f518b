-- That `lay_bits` of src/layout.rt keeps its contract.
use mathlib.Core.Path.{◌≡◌}
use Prim.Native.Nat.{◌≤◌}
use Rattle.rooms.specs.Parts.{stored}
use Rattle.aintc_room.specs.Room.{bits_word}
use Rattle.aintc_room.proofs.layout.lay_bits.Given as goal

abbrev pub invariant-loop-j : goal.invariant-loop-j
invariant-loop-j l = (l.j ≤ 28) × (l.room ≡ stored 32 (bits_word l.routes) l.initial.room l.j)
