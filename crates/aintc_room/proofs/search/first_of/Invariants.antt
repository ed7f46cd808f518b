-- That `first_of` of src/search.rt keeps its contract.
use Prim.Native.Nat.{◌≤◌}
use Rattle.aintc_record.specs.declared.Aintc.{Aintc}
use Rattle.aintc_room.specs.Room.{Laid}
use Rattle.aintc_room.specs.First.{held, halves, SomeOf}
use Rattle.aintc_room.proofs.SearchLaws.{Least}
use Rattle.aintc_room.proofs.search.first_of.Given as goal

abbrev pub invariant-loop-k : goal.invariant-loop-k
invariant-loop-k l = (l.k ≤ 7) × ((s : Aintc) → Laid s l.room → SomeOf (held l.w0 l.w1 l.w2 l.w3) → Least s (held l.w0 l.w1 l.w2 l.w3) (halves l.best.low l.best.high) l.k)
