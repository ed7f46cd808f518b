-- That `put_type` of src/fields.rt keeps its contract.
use mathlib.Core.Path.{ap, ◌∙◌}
use Rattle.text.specs.Text.{write}
use native.Mathlib.Omega.{arith}
use borrow.Author.Rules.{rules}
use borrow.Author.Tests.{eq-eqb, ne_eqb}
use Rattle.words.proofs.ChoiceLaws.{pick_true, pick-false}
use Rattle.text.specs.Phrases.{bytes}
use Rattle.register_words.specs.Fields.{type_words}
use Rattle.register_words.proofs.fields.put_type.Goals as goal

pub returns-in-0 : goal.returns-in-0
unfolding type_words bytes
returns-in-0 c =
    c.put_either.ensures
    ∙ ap (write _) (pick_true _ (eq-eqb _ _ c.in-0.is))

pub returns-in-1 : goal.returns-in-1
unfolding type_words bytes
returns-in-1 c =
    c.put_either-in-1.ensures
    ∙ ap (write _) (pick_true _ (eq-eqb _ _ c.in-1.is)
    ∙ pick-false _ (ne_eqb _ _ (λ z. omega (arith, z, c.in-1.is))))

pub returns-in-2 : goal.returns-in-2
unfolding type_words bytes
returns-in-2 c =
    c.put_all.ensures
    ∙ ap (write _) (pick_true _ (eq-eqb _ _ c.in-2.is)
    ∙ pick-false _ (ne_eqb _ _ (λ z. omega (arith, z, c.in-2.is)))
    ∙ pick-false _ (ne_eqb _ _ (λ z. omega (arith, z, c.in-2.is))))

pub returns-in_default : goal.returns-in_default
unfolding type_words bytes
returns-in_default c =
    c.put_all-in_default.ensures
    ∙ ap (write _) (pick-false _ (ne_eqb _ _ (search rules))
    ∙ pick-false _ (ne_eqb _ _ (search rules))
    ∙ pick-false _ (ne_eqb _ _ (search rules)))
