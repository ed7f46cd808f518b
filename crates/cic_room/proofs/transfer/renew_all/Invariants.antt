-- That `renew_all` of src/transfer.rt keeps its contract.
use mathlib.Core.Path.{◌≡◌}
use mathlib.Core.Bool.{true}
use mathlib.Core.List.{List}
use Prim.Native.Nat.{ℕ, ◌≤◌}
use Rattle.cic_record.specs.declared.Cic.{Cic}
use Rattle.cic_room.specs.Room.{Frame}
use Rattle.cic_room.specs.Tables.{Counted}
use Rattle.cic_room.specs.Copies.{Upto}
use Rattle.cic_room.proofs.transfer.renew_all.Given as goal

abbrev pub invariant-loop-k : goal.invariant-loop-k
invariant-loop-k l = (l.k ≤ 32) × ((f : Frame) (c : Cic) (ws : List ℕ) → f.kept ≡ true → Counted f c ws l.initial.room → Upto f c l.k l.room)
