-- That `blank` of src/names.rt keeps its contract.
use Prim.Native.Nat.{◌≤◌}
use mathlib.Core.Path.{◌≡◌}
use Rattle.tables.specs.Names.{blanked}
use Rattle.tables.proofs.names.blank.Given as goal

abbrev pub invariant-loop-k : goal.invariant-loop-k
invariant-loop-k l = (l.k ≤ l.n) × (l.text ≡ blanked l.initial.text l.at l.k)
