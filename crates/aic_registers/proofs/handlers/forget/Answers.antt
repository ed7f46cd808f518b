-- That `forget` of src/handlers.rt keeps its contract.
use Rattle.aic_record.specs.Record.{with_memory}
use mathlib.Core.Path.{ap, ◌∙◌}
use Rattle.aic_registers.proofs.handlers.forget.Goals as goal

pub returns : goal.returns
returns c = c.with_memory.ensures ∙ ap (with_memory c.args.s) c.with_bit.ensures
