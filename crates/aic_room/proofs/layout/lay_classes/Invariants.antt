-- That `lay_classes` of src/layout.rt keeps its contract.
use mathlib.Core.Path.{◌≡◌}
use Prim.Native.Nat.{◌≤◌}
use Rattle.rooms.specs.Parts.{stored}
use Rattle.aic_room.specs.Room.{class_word}
use Rattle.aic_room.proofs.layout.lay_classes.Given as goal

abbrev pub invariant-loop-p : goal.invariant-loop-p
invariant-loop-p l = (l.p ≤ 8) × (l.room ≡ stored 32 (class_word l.mode) l.initial.room l.p)
