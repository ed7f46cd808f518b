-- That `refuse` of src/lib.rt keeps its contract.
use Prim.Native.Nat.{ℕ}
use mathlib.Core.Path.{ap₂}
use native.Mathlib.Omega.{arith}
use Rattle.rooms.specs.Reply.{told}
use Rattle.rooms.proofs.refuse.Goals as goal

pub returns : goal.returns
unfolding told
returns c = ap₂ (λ (n v : ℕ). (n, v)) (omega arith) (omega arith)
