-- That `put_over_words` of src/slips.rt keeps its contract.
use mathlib.Core.Path.{ap, ◌∙◌}
use borrow.Author.Tests.{eq-eqb, ne_eqb}
use Rattle.words.proofs.ChoiceLaws.{pick_true, pick-false}
use Rattle.text.specs.Text.{write}
use Rattle.text.specs.Phrases.{bytes}
use Rattle.tables.specs.Slips.{over_words}
use Rattle.tables.proofs.slips.put_over_words.Goals as goal

pub returns-then-n-eq-MARK : goal.returns-then-n-eq-MARK
unfolding over_words bytes
returns-then-n-eq-MARK c = c.put_between.ensures ∙ ap (write _) (pick_true _ (eq-eqb _ _ c.if-n-eq-MARK.true))

pub returns-then-n-eq0 : goal.returns-then-n-eq0
unfolding over_words bytes
returns-then-n-eq0 c = c.put_between-then-n-eq0.ensures ∙ ap (write _) (pick_true _ (eq-eqb _ _ c.if-n-eq0.true) ∙ pick-false _ (ne_eqb _ _ c.if-n-eq-MARK.false))

pub returns-then-n-eq1 : goal.returns-then-n-eq1
unfolding over_words bytes
returns-then-n-eq1 c = c.put_between-then-n-eq1.ensures ∙ ap (write _) (pick_true _ (eq-eqb _ _ c.if-n-eq1.true) ∙ pick-false _ (ne_eqb _ _ c.if-n-eq0.false) ∙ pick-false _ (ne_eqb _ _ c.if-n-eq-MARK.false))

pub returns : goal.returns
unfolding over_words bytes
returns c = c.put_between-2.ensures ∙ ap (write _) (pick-false _ (ne_eqb _ _ c.if-n-eq1.false) ∙ pick-false _ (ne_eqb _ _ c.if-n-eq0.false) ∙ pick-false _ (ne_eqb _ _ c.if-n-eq-MARK.false))
