-- That `first_of` of src/search.rt keeps its contract.
use Prim.Native.Nat.{◌-◌, ◌^◌, ◌<◌}
use Rattle.words.specs.Counting.{lowest_below}
use Rattle.words.specs.Word.{bit}
use Rattle.cic_held.specs.declared.Prioritised.{Prioritised}
use Rattle.indexed_room.specs.Room.{Laid}
use Rattle.indexed_room.proofs.FirstLaws.{OnlyLeft}
use Rattle.indexed_room.proofs.search.first_of.Given as goal

abbrev pub invariant-loop-left : goal.invariant-loop-left
invariant-loop-left l = (l.left < 2 ^ 32) × ((p : Prioritised) → Laid p l.room → OnlyLeft p.cic l.k.0 l.left)

abbrev pub decreases-loop-left : goal.decreases-loop-left
decreases-loop-left l = 32 - lowest_below 32 (bit l.left)
