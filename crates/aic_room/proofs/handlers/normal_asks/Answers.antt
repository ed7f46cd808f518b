-- That `normal_asks` of src/handlers.rt keeps its contract.
use mathlib.Core.Path.{sym, ◌∙◌}
use Rattle.aic_room.proofs.HandlerLaws.{none_asks, top_asks}
use Rattle.aic_room.proofs.handlers.normal_asks.Goals as goal

pub returns-then-room-eq0 : goal.returns-then-room-eq0
returns-then-room-eq0 c = λ a h. sym (none_asks h c.if-room-eq0.true)

pub returns : goal.returns
returns c = λ a h. c.may_start.ensures a h ∙ top_asks h c.if-room-eq0.false _ (c.highest.ensures a h)
