-- That `limit_of` of src/slips.rt keeps its contract.
use mathlib.Core.Path.{◌∙◌}
use borrow.Author.Tests.{eq-eqb, ne_eqb}
use Rattle.words.proofs.ChoiceLaws.{pick_true, pick-false}
use Rattle.tables.specs.Slips.{limit_of}
use Rattle.tables.proofs.slips.limit_of.Goals as goal

pub returns-then-n-eq-MARK : goal.returns-then-n-eq-MARK
unfolding limit_of
returns-then-n-eq-MARK c = pick_true _ (eq-eqb _ _ c.if-n-eq-MARK.true)

pub returns-then-n-eq0 : goal.returns-then-n-eq0
unfolding limit_of
returns-then-n-eq0 c = pick_true _ (eq-eqb _ _ c.if-n-eq0.true) ∙ pick-false _ (ne_eqb _ _ c.if-n-eq-MARK.false)

pub returns-then-n-eq1 : goal.returns-then-n-eq1
unfolding limit_of
returns-then-n-eq1 c = pick_true _ (eq-eqb _ _ c.if-n-eq1.true) ∙ pick-false _ (ne_eqb _ _ c.if-n-eq0.false) ∙ pick-false _ (ne_eqb _ _ c.if-n-eq-MARK.false)

pub returns : goal.returns
unfolding limit_of
returns c = pick-false _ (ne_eqb _ _ c.if-n-eq1.false) ∙ pick-false _ (ne_eqb _ _ c.if-n-eq0.false) ∙ pick-false _ (ne_eqb _ _ c.if-n-eq-MARK.false)
