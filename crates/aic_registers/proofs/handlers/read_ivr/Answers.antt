-- That `read_ivr` of src/handlers.rt keeps its contract.
use mathlib.Core.Path.{◌∙◌}
use Rattle.words.proofs.ChoiceLaws.{by-true, by-false}
use Rattle.aic_registers.specs.Handlers.{ivr_read}
use Rattle.aic_registers.proofs.handlers.read_ivr.Goals as goal

pub returns-then-has : goal.returns-then-has
unfolding ivr_read
returns-then-has c = c.look_ivr.ensures ∙ by-true _ c.has.ensures c.if-has.true

pub returns : goal.returns
unfolding ivr_read
returns c = c.take_ivr.ensures ∙ by-false _ c.has.ensures c.if-has.false
