-- That `least_of` of src/lib.rt keeps its contract.
use mathlib.Core.Path.{◌∙◌}
use borrow.Author.Tests.{lt-ltb, le-ltb}
use Rattle.words.proofs.ChoiceLaws.{pick_true, pick-false}
use Rattle.aic_sources.specs.Search.{least_of}
use Rattle.aic_sources.proofs.least_of.Goals as goal

pub returns-then-s-ge8 : goal.returns-then-s-ge8
unfolding least_of
returns-then-s-ge8 c = pick-false _ (le-ltb _ _ c.if-s-ge8.true)

pub returns : goal.returns
unfolding least_of
returns c = c.floor_of.ensures ∙ pick_true _ (lt-ltb _ _ c.if-s-ge8.false)
