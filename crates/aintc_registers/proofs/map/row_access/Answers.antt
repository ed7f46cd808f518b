-- That `row_access` of src/map.rt keeps its contract.
use Rattle.words.specs.Choice.{pick}
use Rattle.aintc_registers.specs.Map.{row_access}
use Rattle.words.proofs.ChoiceLaws.{pick-false}
use borrow.Author.Tests.{ne_eqb}
use mathlib.Core.Path.{sym, ap, ◌∙◌}
use Rattle.aintc_registers.proofs.map.row_access.Goals as goal

pub returns-in-0 : goal.returns-in-0
unfolding row_access pick
returns-in-0 c = sym (ap row_access c.in-0.is)

pub returns-in-16 : goal.returns-in-16
unfolding row_access pick
returns-in-16 c = sym (ap row_access c.in-16.is)

pub returns-in-20 : goal.returns-in-20
unfolding row_access pick
returns-in-20 c = sym (ap row_access c.in-20.is)

pub returns-in-64 : goal.returns-in-64
unfolding row_access pick
returns-in-64 c = sym (ap row_access c.in-64.is)

pub returns-in-68 : goal.returns-in-68
unfolding row_access pick
returns-in-68 c = sym (ap row_access c.in-68.is)

pub returns-in-72 : goal.returns-in-72
unfolding row_access pick
returns-in-72 c = sym (ap row_access c.in-72.is)

pub returns-in-76 : goal.returns-in-76
unfolding row_access pick
returns-in-76 c = sym (ap row_access c.in-76.is)

pub returns-in-80 : goal.returns-in-80
unfolding row_access pick
returns-in-80 c = sym (ap row_access c.in-80.is)

pub returns-in-96 : goal.returns-in-96
unfolding row_access pick
returns-in-96 c = sym (ap row_access c.in-96.is)

pub returns-in-100 : goal.returns-in-100
unfolding row_access pick
returns-in-100 c = sym (ap row_access c.in-100.is)

pub returns-in-104 : goal.returns-in-104
unfolding row_access pick
returns-in-104 c = sym (ap row_access c.in-104.is)

pub returns-in-128 : goal.returns-in-128
unfolding row_access pick
returns-in-128 c = sym (ap row_access c.in-128.is)

pub returns-in-132 : goal.returns-in-132
unfolding row_access pick
returns-in-132 c = sym (ap row_access c.in-132.is)

pub returns-in-136 : goal.returns-in-136
unfolding row_access pick
returns-in-136 c = sym (ap row_access c.in-136.is)

pub returns-in-140 : goal.returns-in-140
unfolding row_access pick
returns-in-140 c = sym (ap row_access c.in-140.is)

pub returns-in-144 : goal.returns-in-144
unfolding row_access pick
returns-in-144 c = sym (ap row_access c.in-144.is)

pub returns-in-148 : goal.returns-in-148
unfolding row_access pick
returns-in-148 c = sym (ap row_access c.in-148.is)

pub returns-in-152 : goal.returns-in-152
unfolding row_access pick
returns-in-152 c = sym (ap row_access c.in-152.is)

pub returns-in-156 : goal.returns-in-156
unfolding row_access pick
returns-in-156 c = sym (ap row_access c.in-156.is)

pub returns-in-256 : goal.returns-in-256
unfolding row_access pick
returns-in-256 c = sym (ap row_access c.in-256.is)

pub returns-in_default : goal.returns-in_default
unfolding row_access
returns-in_default c = pick-false _ (ne_eqb _ _ c.in_default.in_default-own.rest.1) ∙ pick-false _ (ne_eqb _ _ c.in_default.in_default-own.rest.0.1) ∙ pick-false _ (ne_eqb _ _ c.in_default.in_default-own.rest.0.0.1) ∙ pick-false _ (ne_eqb _ _ c.in_default.in_default-own.rest.0.0.0.1) ∙ pick-false _ (ne_eqb _ _ c.in_default.in_default-own.rest.0.0.0.0.1) ∙ pick-false _ (ne_eqb _ _ c.in_default.in_default-own.rest.0.0.0.0.0.1) ∙ pick-false _ (ne_eqb _ _ c.in_default.in_default-own.rest.0.0.0.0.0.0.1) ∙ pick-false _ (ne_eqb _ _ c.in_default.in_default-own.rest.0.0.0.0.0.0.0.1) ∙ pick-false _ (ne_eqb _ _ c.in_default.in_default-own.rest.0.0.0.0.0.0.0.0.1) ∙ pick-false _ (ne_eqb _ _ c.in_default.in_default-own.rest.0.0.0.0.0.0.0.0.0.1) ∙ pick-false _ (ne_eqb _ _ c.in_default.in_default-own.rest.0.0.0.0.0.0.0.0.0.0.1) ∙ pick-false _ (ne_eqb _ _ c.in_default.in_default-own.rest.0.0.0.0.0.0.0.0.0.0.0.1) ∙ pick-false _ (ne_eqb _ _ c.in_default.in_default-own.rest.0.0.0.0.0.0.0.0.0.0.0.0.1) ∙ pick-false _ (ne_eqb _ _ c.in_default.in_default-own.rest.0.0.0.0.0.0.0.0.0.0.0.0.0.1) ∙ pick-false _ (ne_eqb _ _ c.in_default.in_default-own.rest.0.0.0.0.0.0.0.0.0.0.0.0.0.0.1) ∙ pick-false _ (ne_eqb _ _ c.in_default.in_default-own.rest.0.0.0.0.0.0.0.0.0.0.0.0.0.0.0.1) ∙ pick-false _ (ne_eqb _ _ c.in_default.in_default-own.rest.0.0.0.0.0.0.0.0.0.0.0.0.0.0.0.0.1) ∙ pick-false _ (ne_eqb _ _ c.in_default.in_default-own.rest.0.0.0.0.0.0.0.0.0.0.0.0.0.0.0.0.0.1) ∙ pick-false _ (ne_eqb _ _ c.in_default.in_default-own.rest.0.0.0.0.0.0.0.0.0.0.0.0.0.0.0.0.0.0.1) ∙ pick-false _ (ne_eqb _ _ c.in_default.in_default-own.rest.0.0.0.0.0.0.0.0.0.0.0.0.0.0.0.0.0.0.0.1)
