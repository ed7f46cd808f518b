-- That `level_below` of src/handlers.rt keeps its contract.
use borrow.Author.Tests.{eq-eqb}
use Rattle.words.proofs.ChoiceLaws.{pick_true}
use Rattle.aic_record.specs.Sound.{level_below}
use Rattle.aic_room.proofs.HandlerLaws.{below-told}
use Rattle.aic_room.proofs.handlers.level_below.Goals as goal

pub returns-then-i-eq0 : goal.returns-then-i-eq0
unfolding level_below
returns-then-i-eq0 c = λ a h l. pick_true _ (eq-eqb _ _ c.if-i-eq0.true)

pub returns : goal.returns
returns c =
    λ a h l. below-told h _ _ c.last_of-last.ensures.0 c.last_of-last.ensures.1 c.if-i-eq0.false l
