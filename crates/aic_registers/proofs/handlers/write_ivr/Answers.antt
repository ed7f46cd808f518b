-- That `write_ivr` of src/handlers.rt keeps its contract.
use mathlib.Core.Path.{◌∙◌}
use Rattle.words.proofs.ChoiceLaws.{by-true, by-false}
use Rattle.aic_registers.specs.Handlers.{ivr_written}
use Rattle.aic_registers.proofs.handlers.write_ivr.Goals as goal

pub returns-then-has : goal.returns-then-has
unfolding ivr_written
returns-then-has c = c.begin_seen.ensures ∙ by-true _ c.has.ensures c.if-has.true

pub returns : goal.returns
unfolding ivr_written
returns c = by-false _ c.has.ensures c.if-has.false
