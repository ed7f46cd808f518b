-- That `fill` of src/effects.rt keeps its contract.
use mathlib.Core.Path.{◌≡◌}
use Prim.Native.Nat.{◌≤◌}
use Rattle.rooms.specs.Parts.{stored}
use Rattle.aintc_room.proofs.effects.fill.Given as goal

abbrev pub invariant-loop-k : goal.invariant-loop-k
invariant-loop-k l = (l.k ≤ l.n) × (l.room ≡ stored l.at (λ _. l.w) l.initial.room l.k)
