-- That `fill` of src/window.rt keeps its contract.
use mathlib.Core.Path.{ap}
use mathlib.Core.Bool.{false}
use native.Mathlib.Omega.{arith}
use Rattle.machine.specs.declared.record.Machine.{Machine}
use Rattle.trace.proofs.TraceLaws.{steps_limited}
use Rattle.picture.proofs.ColumnLaws.{played-ready, machine-before, filled}
use Rattle.picture.proofs.window.fill.Goals as goal

-- the window begins with one of the steps that are played
pub overflow_sub-limit : goal.overflow_sub-limit
overflow_sub-limit c = omega (arith, c.requires.1, c.requires.2, steps_limited false c.args.limit c.args.trace.now c.args.start)

pub put_steps-count-requires : goal.put_steps-count-requires
put_steps-count-requires c = played-ready _ _ _ c.play_steps-p.ensures c.requires.0

pub returns : goal.returns
returns c = let g = c.requires in
    let b = machine-before _ _ c.args.steps _ _ _ _ g.1 g.2 _ c.play_steps-p.ensures in (
      filled _ _ _ _ _ _ _ g.1 g.2 _ _ _ _ _ _ _ _ c.play_steps-p.ensures c.column.ensures c.put_column-next.ensures c.min-most.ensures c.put_steps-count.ensures,
      ap (λ (m : Machine). m.aic.source) b,
      ap (λ (m : Machine). m.aic.level) b,
    )
