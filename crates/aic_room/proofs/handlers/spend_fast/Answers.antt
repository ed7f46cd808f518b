-- That `spend_fast` of src/handlers.rt keeps its contract.
use mathlib.Core.Path.{sym, ◌∙◌}
use borrow.Author.Tests.{eq-eqb, ne_eqb}
use Rattle.words.proofs.ChoiceLaws.{pick_true, pick-false}
use Rattle.aic_registers.specs.Handlers.{fast_spent}
use Rattle.aic_room.proofs.CellLaws.{laid_as, forced-is}
use Rattle.aic_room.proofs.handlers.spend_fast.Goals as goal

pub returns-then-room-eq0 : goal.returns-then-room-eq0
unfolding fast_spent
returns-then-room-eq0 c = λ a h. laid_as (pick_true _ (eq-eqb _ _ (sym (forced-is h) ∙ c.if-room-eq0.true))) (c.spend.ensures a h)

pub returns-else-room-eq0 : goal.returns-else-room-eq0
unfolding fast_spent
returns-else-room-eq0 c = λ a h. laid_as (pick-false _ (ne_eqb a.forced 0 (λ z. c.if-room-eq0.false (forced-is h ∙ z)))) h
