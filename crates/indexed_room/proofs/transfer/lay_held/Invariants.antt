-- That `lay_held` of src/transfer.rt keeps its contract.
use Prim.Native.Nat.{◌≤◌}
use Rattle.words.specs.Counting.{upto}
use Rattle.cic_record.specs.declared.Cic.{Cic}
use Rattle.cic_room.specs.Room.{Frame, Laid}
use Rattle.indexed_room.specs.Room.{with_held}
use Rattle.indexed_room.proofs.TransferLaws.{hold_turn}
use Rattle.indexed_room.proofs.transfer.lay_held.Given as goal

abbrev pub invariant-loop-k : goal.invariant-loop-k
invariant-loop-k l = (l.k ≤ 256) × ((f : Frame) (c : Cic) → Laid f c l.initial.room → Laid (with_held f (upto (hold_turn l.held) f.held l.k)) c l.room)
