-- That `begin_seen` of src/handlers.rt keeps its contract.
use mathlib.Core.Path.{sym, ◌∙◌}
use borrow.Author.Tests.{eq-eqb, ne_eqb}
use Rattle.words.proofs.ChoiceLaws.{pick_true, pick-false}
use Rattle.aic_registers.specs.Handlers.{begun}
use Rattle.aic_room.proofs.CellLaws.{laid_as, seen_what-is}
use Rattle.aic_room.proofs.handlers.begin_seen.Goals as goal

pub returns-then-room-eq0 : goal.returns-then-room-eq0
unfolding begun
returns-then-room-eq0 c = λ a ok h. laid_as (pick_true _ (eq-eqb _ _ (sym (seen_what-is h) ∙ c.if-room-eq0.true))) h

pub returns : goal.returns
unfolding begun
returns c =
    λ a ok h. laid_as (pick-false _ (ne_eqb a.seen.what 0 (λ z. c.if-room-eq0.false (seen_what-is h ∙ z)))) (c.put_seen.ensures _ (c.open_seen.ensures a ok h))
