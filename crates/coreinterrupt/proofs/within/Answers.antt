-- That `within` of src/lib.rt keeps its contract.
use Rattle.words.specs.Choice.{pick}
use Rattle.coreinterrupt.specs.Model.{within}
use borrow.Author.Tests.{ne_eqb}
use Rattle.coreinterrupt.proofs.within.Goals as goal

pub returns-in-0 : goal.returns-in-0
unfolding within pick
returns-in-0 c = rw c.in-0.is

pub returns-in-1 : goal.returns-in-1
unfolding within pick
returns-in-1 c = rw c.in-1.is

pub returns-in-2 : goal.returns-in-2
unfolding within pick
returns-in-2 c = rw c.in-2.is

pub returns-in-3 : goal.returns-in-3
unfolding within pick
returns-in-3 c = rw c.in-3.is

pub returns-in_default : goal.returns-in_default
unfolding within pick
returns-in_default c = simp (ne_eqb _ _ c.in_default.in_default-own.rest.0.0.0.1, ne_eqb _ _ c.in_default.in_default-own.rest.0.0.1, ne_eqb _ _ c.in_default.in_default-own.rest.0.1, ne_eqb _ _ c.in_default.in_default-own.rest.1)
