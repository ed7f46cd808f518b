-- That `level_bytes` of src/lib.rt keeps its contract.
use Prim.Native.Nat.{◌≤◌}
use mathlib.Core.Path.{◌≡◌}
use Rattle.stack.specs.Bytes.{largest}
use Rattle.stack.proofs.level_bytes.Given as goal

abbrev pub invariant-loop-i : goal.invariant-loop-i
invariant-loop-i l = (l.i ≤ 32) × (l.b ≡ largest l.t l.l l.i)
