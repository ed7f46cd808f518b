-- That `read_fvr` of src/handlers.rt keeps its contract.
use Rattle.aic_registers.specs.Handlers.{fvr_read, answered}
use Rattle.words.proofs.ChoiceLaws.{by-true, by-false}
use mathlib.Core.Path.{ap₂, ◌∙◌}
use Rattle.aic_registers.proofs.handlers.read_fvr.Goals as goal

pub returns-then-fast_asks : goal.returns-then-fast_asks
unfolding fvr_read
returns-then-fast_asks c = c.answer_of.ensures ∙ ap₂ answered c.spend_fast.ensures c.vector_at.ensures ∙ by-true _ c.fast_asks.ensures c.if-fast_asks.true

pub returns : goal.returns
unfolding fvr_read
returns c = c.answer_of-2.ensures ∙ by-false _ c.fast_asks.ensures c.if-fast_asks.false
