-- That `unless_refused` of src/lib.rt keeps its contract.
use mathlib.Core.Path.{◌∙◌}
use Rattle.coreinterrupt.proofs.AnswerLaws.{carried, stopped}
use Rattle.coreinterrupt.proofs.unless_refused.Goals as goal

pub returns-then-n-eq-CARRIED_OUT : goal.returns-then-n-eq-CARRIED_OUT
returns-then-n-eq-CARRIED_OUT c = carried _ _ c.if-n-eq-CARRIED_OUT.true

pub returns : goal.returns
returns c = c.refusal_of.ensures ∙ stopped _ _ _ c.if-n-eq-CARRIED_OUT.false
