-- That `open_mark` of src/handlers.rt keeps its contract.
use mathlib.Core.Path.{◌∙◌}
use borrow.Author.Tests.{le-ltb}
use Rattle.words.proofs.ChoiceLaws.{pick-false}
use Rattle.aic_registers.specs.Handlers.{marked}
use Rattle.aic_registers.proofs.CallLaws.{marked_by}
use Rattle.aic_registers.proofs.handlers.open_mark.Goals as goal

pub returns-then-depth-ge8 : goal.returns-then-depth-ge8
unfolding marked
returns-then-depth-ge8 c = pick-false _ (le-ltb _ _ c.if-depth-ge8.true)

pub returns : goal.returns
returns c = c.put_handler.ensures ∙ marked_by _ _ c.if-depth-ge8.false c.last_level-level.ensures
