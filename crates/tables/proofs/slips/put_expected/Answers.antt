-- That `put_expected` of src/slips.rt keeps its contract.
use mathlib.Core.Path.{ap, ◌∙◌}
use borrow.Author.Tests.{eq-eqb, ne_eqb}
use Rattle.words.proofs.ChoiceLaws.{pick_true, pick-false}
use Rattle.text.specs.Text.{write}
use Rattle.text.specs.Phrases.{bytes}
use Rattle.tables.specs.Slips.{expected_words}
use Rattle.tables.proofs.slips.put_expected.Goals as goal

pub returns-then-quote : goal.returns-then-quote
unfolding expected_words bytes
returns-then-quote c = c.put_all.ensures ∙ ap (write _) (pick_true _ c.if-quote.true)

pub returns-then-n-eq-NUMBERS : goal.returns-then-n-eq-NUMBERS
unfolding expected_words bytes
returns-then-n-eq-NUMBERS c = c.put_all-then-n-eq-NUMBERS.ensures ∙ ap (write _) (pick_true _ (eq-eqb _ _ c.if-n-eq-NUMBERS.true) ∙ pick-false _ c.if-quote.false)

pub returns-then-number : goal.returns-then-number
unfolding expected_words bytes
returns-then-number c = c.put_all-then-number.ensures ∙ ap (write _) (pick_true _ c.if-number.true ∙ pick-false _ (ne_eqb _ _ c.if-n-eq-NUMBERS.false) ∙ pick-false _ c.if-quote.false)

pub returns : goal.returns
unfolding expected_words bytes
returns c = c.put_all-2.ensures ∙ ap (write _) (pick-false _ c.if-number.false ∙ pick-false _ (ne_eqb _ _ c.if-n-eq-NUMBERS.false) ∙ pick-false _ c.if-quote.false)
