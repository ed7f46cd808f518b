-- That `index` of src/search.rt keeps its contract.
use mathlib.Core.Path.{◌≡◌}
use mathlib.Core.Bool.{true}
use Prim.Native.Nat.{◌≤◌}
use Rattle.cic_held.specs.declared.Prioritised.{Prioritised}
use Rattle.cic_held.specs.Held.{sound}
use Rattle.indexed_room.specs.Room.{Laid}
use Rattle.indexed_room.proofs.AskLaws.{NoneAsked}
use Rattle.indexed_room.proofs.search.index.Given as goal

abbrev pub invariant-loop-w : goal.invariant-loop-w
invariant-loop-w l = (l.w ≤ 8) × ((p : Prioritised) → sound p ≡ true → Laid p l.room → NoneAsked p.cic l.every l.h l.w)
