-- That `written` of src/lib.rt keeps its contract.
use Rattle.coreinterrupt.specs.declared.sides.Side.{Side}
use Prim.Native.Nat.{ℕ}
use Rattle.coreinterrupt.specs.Side.{side_write}
use Rattle.coreinterrupt.specs.Model.{fiq_offset, with_side, written}
use mathlib.Core.Path.{ap, ap₂, ◌∙◌}
use Rattle.coreinterrupt.proofs.written.Goals as goal

pub returns : goal.returns
unfolding written fiq_offset
returns c = c.with_side.ensures ∙ ap (with_side _ _) (c.write-s.ensures ∙ ap₂ (λ (g : Side) (i : ℕ). side_write g i c.args.value) c.side.ensures c.register.ensures)
