-- That `configuration_at` of src/lib.rt keeps its contract.
use Prim.Native.Nat.{◌-◌, ◌≤◌}
use mathlib.Core.Path.{◌≡◌}
use Rattle.kinds.specs.Kinds.{wanted}
use Rattle.beginning.specs.Begin.{setup_from, setup_of}
use Rattle.beginning.proofs.configuration_at.Given as goal

abbrev pub invariant-loop-nth : goal.invariant-loop-nth
invariant-loop-nth l = (setup_from l.kind (wanted l.kind - l.nth) l.nth l.trace l.c l.at ≡ setup_of l.kind l.trace l.start) × (l.nth ≤ wanted l.kind)
