-- That `search` of src/lib.rt keeps its contract.
use Prim.Native.Nat.{◌≤◌}
use Rattle.aic_sources.proofs.SearchLaws.{Kept}
use Rattle.aic_sources.proofs.search.Given as goal

abbrev pub invariant-loop-k : goal.invariant-loop-k
invariant-loop-k l = (l.k ≤ 32) × Kept l.waiting l.mode l.least l.k l.best l.floor
