-- That `unless_refused` of src/lib.rt keeps its contract.
use borrow.Author.Tests.{eq-eqb, ne_eqb}
use Rattle.words.proofs.ChoiceLaws.{pick_true, pick-false}
use Rattle.lines.proofs.unless_refused.Goals as goal

pub returns-then-refusal-ne-CARRIED_OUT : goal.returns-then-refusal-ne-CARRIED_OUT
returns-then-refusal-ne-CARRIED_OUT c = pick-false _ (ne_eqb _ _ c.if-refusal-ne-CARRIED_OUT.true)

pub returns : goal.returns
returns c = pick_true _ (eq-eqb _ _ c.if-refusal-ne-CARRIED_OUT.false)
