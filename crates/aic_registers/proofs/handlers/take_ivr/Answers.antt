-- That `take_ivr` of src/handlers.rt keeps its contract.
use Rattle.aic_registers.proofs.CallLaws.{ivr-some, ivr-none}
use mathlib.Core.Path.{◌∙◌}
use Rattle.aic_registers.proofs.handlers.take_ivr.Goals as goal

pub returns-then-k-lt32 : goal.returns-then-k-lt32
returns-then-k-lt32 c = c.start_now.ensures ∙ ivr-some _ _ c.chosen_source-k.ensures c.if-k-lt32.true

pub returns : goal.returns
returns c = c.answer_of.ensures ∙ ivr-none _ _ _ c.chosen_source-k.ensures c.if-k-lt32.false c.open_mark.ensures
