-- That `current` of src/handlers.rt keeps its contract.
use mathlib.Core.Path.{sym, ◌∙◌}
use borrow.Author.Tests.{eq-eqb}
use Rattle.words.proofs.ChoiceLaws.{pick_true}
use Rattle.aic_registers.specs.Handlers.{current}
use Rattle.aic_room.proofs.CellLaws.{depth_is}
use Rattle.aic_room.proofs.HandlerLaws.{current-told}
use Rattle.aic_room.proofs.handlers.current.Goals as goal

pub returns-then-room-eq0 : goal.returns-then-room-eq0
unfolding current
returns-then-room-eq0 c = λ a h l. pick_true _ (eq-eqb _ _ (sym (depth_is h) ∙ c.if-room-eq0.true))

pub returns : goal.returns
returns c = λ a h l. current-told h _ c.last_of-last.ensures.0 c.last_of-last.ensures.1 c.if-room-eq0.false l
