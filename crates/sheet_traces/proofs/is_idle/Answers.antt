-- That `is_idle` of src/lib.rt keeps its contract.
use Prim.Native.Nat.{ℕ}
use mathlib.Core.Path.{ap, ◌∙◌}
use mathlib.Core.Bool.{◌&&◌}
use lib.Dec.{eqb}
use Rattle.trace.specs.Steps.{write_kind}
use Rattle.aic_registers.specs.Map.{eoicr}
use Rattle.aic_runs.specs.Counted.{carried}
use Rattle.sheet_traces.proofs.WatchLaws.{idle-is}
use Rattle.sheet_traces.proofs.is_idle.Goals as goal

pub returns : goal.returns
unfolding carried
returns c =
    let a = c.args in
    λ s y h e. ap (λ (d : ℕ). ((a.carried && eqb a.kind write_kind) && eqb a.x eoicr) && eqb d 0) e ∙ idle-is s a.kind a.x y a.carried h
