-- That `last_level` of src/lib.rt keeps its contract.
use mathlib.Core.Path.{◌∙◌}
use Rattle.aic_record.specs.Sound.{level_below}
use borrow.Author.Tests.{eq-eqb, ne_eqb}
use Rattle.words.proofs.ChoiceLaws.{pick_true, pick-false}
use Rattle.aic_record.proofs.last_level.Goals as goal

pub returns-then-depth-eq0 : goal.returns-then-depth-eq0
unfolding level_below
returns-then-depth-eq0 c = pick_true _ (eq-eqb _ _ c.if-depth-eq0.true)

pub returns : goal.returns
unfolding level_below
returns c = c.level_at.ensures ∙ pick-false _ (ne_eqb _ _ c.if-depth-eq0.false)
