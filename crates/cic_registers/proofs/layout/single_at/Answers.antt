-- That `single_at` of src/layout.rt keeps its contract.
use Rattle.cic_registers.specs.Map.{single_at}
use Rattle.words.specs.Choice.{pick}
use borrow.Author.Tests.{ne_eqb}
use mathlib.Core.Path.{sym, ap}
use Rattle.cic_registers.proofs.layout.single_at.Goals as goal

pub returns-in-0 : goal.returns-in-0
unfolding single_at pick
returns-in-0 c = sym (ap single_at c.in-0.is)

pub returns-in-16 : goal.returns-in-16
unfolding single_at pick
returns-in-16 c = sym (ap single_at c.in-16.is)

pub returns-in-32 : goal.returns-in-32
unfolding single_at pick
returns-in-32 c = sym (ap single_at c.in-32.is)

pub returns-in-36 : goal.returns-in-36
unfolding single_at pick
returns-in-36 c = sym (ap single_at c.in-36.is)

pub returns-in-40 : goal.returns-in-40
unfolding single_at pick
returns-in-40 c = sym (ap single_at c.in-40.is)

pub returns-in-44 : goal.returns-in-44
unfolding single_at pick
returns-in-44 c = sym (ap single_at c.in-44.is)

pub returns-in-52 : goal.returns-in-52
unfolding single_at pick
returns-in-52 c = sym (ap single_at c.in-52.is)

pub returns-in-56 : goal.returns-in-56
unfolding single_at pick
returns-in-56 c = sym (ap single_at c.in-56.is)

pub returns-in_default : goal.returns-in_default
unfolding single_at pick
returns-in_default c = simp (ne_eqb _ _ c.in_default.in_default-own.rest.0.0.0.0.0.0.0.1, ne_eqb _ _ c.in_default.in_default-own.rest.0.0.0.0.0.0.1, ne_eqb _ _ c.in_default.in_default-own.rest.0.0.0.0.0.1, ne_eqb _ _ c.in_default.in_default-own.rest.0.0.0.0.1, ne_eqb _ _ c.in_default.in_default-own.rest.0.0.0.1, ne_eqb _ _ c.in_default.in_default-own.rest.0.0.1, ne_eqb _ _ c.in_default.in_default-own.rest.0.1, ne_eqb _ _ c.in_default.in_default-own.rest.1)
