-- That `spend` of src/handlers.rt keeps its contract.
use Rattle.aic_registers.specs.Handlers.{spent}
use Rattle.words.proofs.ChoiceLaws.{by-true, by-false}
use mathlib.Core.Path.{◌∙◌}
use Rattle.aic_registers.proofs.handlers.spend.Goals as goal

pub returns-then-edge_at : goal.returns-then-edge_at
unfolding spent
returns-then-edge_at c = c.forget.ensures ∙ by-true _ c.edge_at.ensures c.if-edge_at.true

pub returns : goal.returns
unfolding spent
returns c = by-false _ c.edge_at.ensures c.if-edge_at.false
