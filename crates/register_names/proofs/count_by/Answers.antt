-- That `count_by` of src/lib.rt keeps its contract.
use mathlib.Core.Path.{◌∙◌}
use native.Mathlib.Omega.{arith}
use borrow.Author.Rules.{rules}
use borrow.Author.Tests.{eq-eqb, ne_eqb}
use Rattle.words.proofs.ChoiceLaws.{pick_true, pick-false}
use Rattle.register_names.specs.Table.{count_by}
use Rattle.register_names.proofs.count_by.Goals as goal

pub returns-in-83 : goal.returns-in-83
unfolding count_by
returns-in-83 c = c.there_of.ensures ∙ pick_true _ (eq-eqb _ _ c.in-83.is)

pub returns-in-115 : goal.returns-in-115
unfolding count_by
returns-in-115 c =
    c.there_of-in-115.ensures
    ∙ pick_true _ (eq-eqb _ _ c.in-115.is)
    ∙ pick-false _ (ne_eqb _ _ (λ z. omega (arith, z, c.in-115.is)))

pub returns-in-99 : goal.returns-in-99
unfolding count_by
returns-in-99 c =
    c.there_of-in-99.ensures
    ∙ pick_true _ (eq-eqb _ _ c.in-99.is)
    ∙ pick-false _ (ne_eqb _ _ (λ z. omega (arith, z, c.in-99.is)))
    ∙ pick-false _ (ne_eqb _ _ (λ z. omega (arith, z, c.in-99.is)))

pub returns-in-72 : goal.returns-in-72
unfolding count_by
returns-in-72 c =
    c.there_of-in-72.ensures
    ∙ pick_true _ (eq-eqb _ _ c.in-72.is)
    ∙ pick-false _ (ne_eqb _ _ (λ z. omega (arith, z, c.in-72.is)))
    ∙ pick-false _ (ne_eqb _ _ (λ z. omega (arith, z, c.in-72.is)))
    ∙ pick-false _ (ne_eqb _ _ (λ z. omega (arith, z, c.in-72.is)))

pub returns-in-49 : goal.returns-in-49
unfolding count_by
returns-in-49 c =
    c.at_most.ensures
    ∙ pick_true _ (eq-eqb _ _ c.in-49.is)
    ∙ pick-false _ (ne_eqb _ _ (λ z. omega (arith, z, c.in-49.is)))
    ∙ pick-false _ (ne_eqb _ _ (λ z. omega (arith, z, c.in-49.is)))
    ∙ pick-false _ (ne_eqb _ _ (λ z. omega (arith, z, c.in-49.is)))
    ∙ pick-false _ (ne_eqb _ _ (λ z. omega (arith, z, c.in-49.is)))

pub returns-in_default : goal.returns-in_default
unfolding count_by
returns-in_default c =
    pick-false _ (ne_eqb _ _ (search rules))
    ∙ pick-false _ (ne_eqb _ _ (search rules))
    ∙ pick-false _ (ne_eqb _ _ (search rules))
    ∙ pick-false _ (ne_eqb _ _ (search rules))
    ∙ pick-false _ (ne_eqb _ _ (search rules))
