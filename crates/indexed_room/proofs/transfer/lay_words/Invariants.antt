-- That `lay_words` of src/transfer.rt keeps its contract.
use mathlib.Core.Path.{◌≡◌}
use Prim.Native.Nat.{◌≤◌}
use lib.ListN.{replicate}
use Rattle.cic_record.specs.declared.Cic.{Cic}
use Rattle.cic_room.specs.Room.{Frame, Laid}
use Rattle.indexed_room.specs.Entered.{Entered}
use Rattle.indexed_room.proofs.transfer.lay_words.Given as goal

abbrev pub invariant-loop-s : goal.invariant-loop-s
invariant-loop-s l = (l.s ≤ 1024) × ((f : Frame) (c : Cic) → f.words ≡ replicate 256 0 → Laid f c l.initial.room → Entered f c l.s l.room)
