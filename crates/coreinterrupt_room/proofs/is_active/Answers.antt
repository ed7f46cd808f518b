-- That `is_active` of src/lib.rt keeps its contract.
use mathlib.Core.Path.{ap}
use Prim.Native.Nat.{ℕ}
use mathlib.Core.Bool.{not}
use lib.Dec.{eqb}
use Rattle.coreinterrupt.specs.Side.{active}
use Rattle.coreinterrupt_room.proofs.is_active.Goals as goal

pub returns : goal.returns
unfolding active
returns c = λ k h. ap (λ (w : ℕ). not (eqb w 0)) (c.status.ensures k h)
