-- That `put_class` of src/layout.rt keeps its contract.
use mathlib.Core.Path.{◌≡◌}
use Prim.Native.Nat.{◌≤◌}
use Rattle.words.specs.Counting.{upto}
use Rattle.aic_room.proofs.ModeLaws.{join}
use Rattle.aic_room.proofs.layout.put_class.Given as goal

abbrev pub invariant-loop-q : goal.invariant-loop-q
invariant-loop-q l = (l.q ≤ 8) × (l.room ≡ upto (join l.k l.p) l.initial.room l.q)
