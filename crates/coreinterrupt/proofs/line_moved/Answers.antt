-- That `line_moved` of src/lib.rt keeps its contract.
use Rattle.coreinterrupt.specs.declared.sides.Side.{Side}
use Prim.Native.Nat.{ℕ}
use Rattle.coreinterrupt.specs.Side.{moved}
use Rattle.coreinterrupt.specs.Model.{fiq_line, with_side, line_moved}
use mathlib.Core.Path.{ap, ap₂, ◌∙◌}
use Rattle.coreinterrupt.proofs.line_moved.Goals as goal

pub returns : goal.returns
unfolding line_moved fiq_line
returns c = c.with_side.ensures ∙ ap (with_side _ _) (c.moved-s.ensures ∙ ap₂ (λ (g : Side) (i : ℕ). moved g i c.args.high) c.side.ensures c.input.ensures)
