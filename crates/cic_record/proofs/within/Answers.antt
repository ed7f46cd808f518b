-- That `within` of src/lib.rt keeps its contract.
use Rattle.cic_record.specs.Sound.{within}
use Rattle.words.specs.Choice.{pick}
use borrow.Author.Tests.{ne_eqb}
use Rattle.cic_record.proofs.within.Goals as goal

pub returns-in-0 : goal.returns-in-0
unfolding within pick
returns-in-0 c = rw c.in-0.is c.in_range.ensures

pub returns-in-1 : goal.returns-in-1
unfolding within pick
returns-in-1 c = rw c.in-1.is c.in_range-in-1.ensures

pub returns-in-2 : goal.returns-in-2
unfolding within pick
returns-in-2 c = rw c.in-2.is c.in_range-in-2.ensures

pub returns-in_default : goal.returns-in_default
unfolding within pick
returns-in_default c = simp (ne_eqb _ _ c.in_default.in_default-own.rest.0.0.1, ne_eqb _ _ c.in_default.in_default-own.rest.0.1, ne_eqb _ _ c.in_default.in_default-own.rest.1)
