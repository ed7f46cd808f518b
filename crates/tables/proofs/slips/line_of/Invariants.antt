-- That `line_of` of src/slips.rt keeps its contract.
use Prim.Native.Nat.{◌≤◌}
use mathlib.Core.Path.{◌≡◌}
use Rattle.tables.specs.Slips.{line_of}
use Rattle.tables.proofs.slips.line_of.Given as goal

abbrev pub invariant-loop-k : goal.invariant-loop-k
invariant-loop-k l = (l.k ≤ l.at) × (l.lines ≡ line_of l.text l.k)
