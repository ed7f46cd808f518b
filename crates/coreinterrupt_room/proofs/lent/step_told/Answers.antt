-- That `step_told` of src/lent.rt keeps its contract.
use mathlib.Core.Path.{◌∙◌}
use Rattle.words.specs.Choice.{pick}
use Rattle.coreinterrupt_room.specs.Lent.{step_told}
use borrow.Author.Tests.{ne_eqb}
use Rattle.coreinterrupt_room.proofs.lent.step_told.Goals as goal

pub returns-in-1 : goal.returns-in-1
unfolding step_told pick
returns-in-1 c = c.step.ensures ∙ rw c.in-1.is

pub returns-in-2 : goal.returns-in-2
unfolding step_told pick
returns-in-2 c = c.step-in-2.ensures ∙ rw c.in-2.is

pub returns-in-3 : goal.returns-in-3
unfolding step_told pick
returns-in-3 c = c.step-in-3.ensures ∙ rw c.in-3.is

pub returns-in_default : goal.returns-in_default
unfolding step_told pick
returns-in_default c =
    let r = c.in_default.in_default-own.rest in
    c.refusal_of.ensures ∙ rw (ne_eqb _ _ r.0.0.1, ne_eqb _ _ r.0.1, ne_eqb _ _ r.1)
