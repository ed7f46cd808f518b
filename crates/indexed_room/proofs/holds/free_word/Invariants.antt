-- That `free_word` of src/holds.rt keeps its contract.
use Prim.Native.Nat.{◌≤◌}
use Rattle.words.specs.Counting.{upto}
use Rattle.cic_held.specs.declared.Prioritised.{Prioritised}
use Rattle.cic_held.specs.Held.{prioritised, with_hosts}
use Rattle.indexed_room.specs.Room.{Laid}
use Rattle.indexed_room.proofs.HoldLaws.{free_turn}
use Rattle.indexed_room.proofs.holds.free_word.Given as goal

abbrev pub invariant-loop-j : goal.invariant-loop-j
invariant-loop-j l =
    (l.j ≤ 32) × ((p : Prioritised) → Laid p l.initial.room → Laid (prioritised p.cic (with_hosts p.held (upto (free_turn l.k l.v) p.held.host l.j))) l.room)
