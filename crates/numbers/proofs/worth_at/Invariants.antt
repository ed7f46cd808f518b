-- That `worth_at` of src/lib.rt keeps its contract.
use Rattle.numbers.specs.Number.{worth_at}
use Prim.Native.Nat.{◌^◌, ◌≤◌}
use mathlib.Core.Path.{◌≡◌}
use Rattle.numbers.proofs.worth_at.Given as goal

abbrev pub invariant-loop-k : goal.invariant-loop-k
invariant-loop-k l = (l.k ≤ l.n) × ((l.worth ≡ worth_at l.trace l.at l.k) × (l.unit ≡ 128 ^ l.k))
