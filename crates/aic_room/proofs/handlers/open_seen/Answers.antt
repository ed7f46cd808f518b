-- That `open_seen` of src/handlers.rt keeps its contract.
use mathlib.Core.Path.{ap₂, sym, ◌∙◌}
use borrow.Author.Tests.{eq-eqb, ne_eqb}
use Rattle.words.proofs.ChoiceLaws.{pick_true, pick-false}
use Rattle.aic_registers.specs.Handlers.{started_at}
use Rattle.aic_room.proofs.CellLaws.{laid_as, seen_what-is, seen_level-is}
use Rattle.aic_room.proofs.HandlerLaws.{source_told}
use Rattle.aic_room.proofs.handlers.open_seen.Goals as goal

pub returns-then-room-eq1 : goal.returns-then-room-eq1
returns-then-room-eq1 c =
    λ a ok h.
    let e = sym (seen_what-is h) ∙ c.if-room-eq1.true in
    let f = source_told h ok e in
    laid_as (ap₂ (started_at a) f.0 (seen_level-is h) ∙ pick_true _ (eq-eqb _ _ e)) (c.start_at.ensures a h f.1)

pub returns : goal.returns
returns c =
    λ a ok h. laid_as (pick-false _ (ne_eqb a.seen.what 1 (λ z. c.if-room-eq1.false (seen_what-is h ∙ z)))) (c.open_mark.ensures a h)
