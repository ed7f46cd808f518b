-- That `put_bits` of src/layout.rt keeps its contract.
use mathlib.Core.Path.{◌≡◌}
use Prim.Native.Nat.{◌≤◌}
use Rattle.words.specs.Counting.{upto}
use Rattle.aintc_room.specs.Room.{bit_put}
use Rattle.aintc_room.proofs.layout.put_bits.Given as goal

abbrev pub invariant-loop-b : goal.invariant-loop-b
invariant-loop-b l = (l.b ≤ 7) × (l.room ≡ upto (bit_put l.n l.i l.p) l.initial.room l.b)
