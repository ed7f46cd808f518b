-- That `remember` of src/effects.rt keeps its contract.
use mathlib.Core.Bool.{◌&&◌}
use Rattle.words.proofs.ChoiceLaws.{by-true, by-false}
use Rattle.aic_record.specs.Record.{with_memory}
use mathlib.Core.Path.{ap, ap₂, ◌∙◌}
use Rattle.aic_registers.proofs.effects.remember.Goals as goal

pub returns-then-edge_at-turns_active : goal.returns-then-edge_at-turns_active
returns-then-edge_at-turns_active c = c.with_memory.ensures ∙ ap (with_memory c.args.s) c.with_bit.ensures ∙ by-true _ (ap₂ ◌&&◌ c.edge_at.ensures c.turns_active.ensures) c.if-edge_at-turns_active.true

pub returns : goal.returns
returns c = by-false _ (ap₂ ◌&&◌ c.edge_at.ensures c.turns_active.ensures) c.if-edge_at-turns_active.false
