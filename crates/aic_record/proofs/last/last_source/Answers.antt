-- That `last_source` of src/last.rt keeps its contract.
use mathlib.Core.Path.{◌∙◌}
use borrow.Author.Tests.{eq-eqb, ne_eqb}
use Rattle.words.proofs.ChoiceLaws.{pick_true, pick-false}
use Rattle.aic_record.specs.Last.{last_source}
use Rattle.aic_record.proofs.last.last_source.Goals as goal

pub returns-then-depth-eq0 : goal.returns-then-depth-eq0
unfolding last_source
returns-then-depth-eq0 c = pick_true _ (eq-eqb _ _ c.if-depth-eq0.true)

pub returns : goal.returns
unfolding last_source
returns c = c.source_at.ensures ∙ pick-false _ (ne_eqb _ _ c.if-depth-eq0.false)
