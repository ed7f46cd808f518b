-- That `letter_by_number` of src/lib.rt keeps its contract.
use mathlib.Core.Path.{◌∙◌}
use borrow.Author.Tests.{eq-eqb, ne_eqb}
use native.Mathlib.Omega.{arith}
use borrow.Author.Rules.{rules}
use Rattle.words.proofs.ChoiceLaws.{pick_true, pick-false}
use Rattle.lines.proofs.letter_by_number.Goals as goal

pub returns-in-1 : goal.returns-in-1
returns-in-1 c = pick_true _ (eq-eqb _ _ c.in-1.is)

pub returns-in-2 : goal.returns-in-2
returns-in-2 c = pick_true _ (eq-eqb _ _ c.in-2.is) ∙ pick-false _ (ne_eqb _ _ (λ z. omega (arith, z, c.in-2.is)))

pub returns-in_default : goal.returns-in_default
returns-in_default c = pick-false _ (ne_eqb _ _ (search rules)) ∙ pick-false _ (ne_eqb _ _ (search rules))
