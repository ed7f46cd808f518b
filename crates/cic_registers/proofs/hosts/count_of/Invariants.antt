-- That `count_of` of src/hosts.rt keeps its contract.
use Rattle.words.specs.Array.{bit_at}
use Rattle.words.specs.Counting.{count_below}
use mathlib.Core.Path.{◌≡◌}
use Prim.Native.Nat.{◌≤◌, ◌*◌}
use Rattle.cic_registers.proofs.hosts.count_of.Given as goal

abbrev pub invariant-loop-w : goal.invariant-loop-w
invariant-loop-w l = (l.w-index ≤ 8) × (l.sum ≡ count_below (32 * l.w-index) (bit_at l.w-items))
